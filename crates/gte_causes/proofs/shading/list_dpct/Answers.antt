-- Three parts, one after another.
use native.Mathlib.Omega.{arith}
use Rattle.gte_causes.proofs.Parts.{triple}
use Rattle.gte_causes.proofs.shading.list_dpct.Goals as goal

pub returns : goal.returns
returns c = triple c.list_dpct_part.ensures c.list_dpct_part-2.ensures c.list_dpct_part-3.ensures (omega arith)
