-- Three parts, one after another.
use native.Mathlib.Omega.{arith}
use Rattle.gte_causes.proofs.Parts.{triple}
use Rattle.gte_causes.proofs.lighting.list_nct.Goals as goal

pub returns : goal.returns
returns c = triple c.list_ncs.ensures c.list_ncs-2.ensures c.list_ncs-3.ensures (omega arith)
