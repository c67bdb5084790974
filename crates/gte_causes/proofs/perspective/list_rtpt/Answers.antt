-- Three parts, one after another.
use native.Mathlib.Omega.{arith}
use Rattle.gte_causes.proofs.Parts.{triple}
use Rattle.gte_causes.proofs.perspective.list_rtpt.Goals as goal

pub returns : goal.returns
returns c = triple c.list_vertex.ensures c.list_vertex-2.ensures c.list_vertex-3.ensures (omega arith)
