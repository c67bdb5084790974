-- Three parts, one after another.
use native.Mathlib.Omega.{arith}
use Rattle.gte_causes.proofs.Parts.{triple}
use Rattle.gte_causes.proofs.lighting.list_ncct.Goals as goal

pub returns : goal.returns
returns c = triple c.list_nccs.ensures c.list_nccs-2.ensures c.list_nccs-3.ensures (omega arith)
