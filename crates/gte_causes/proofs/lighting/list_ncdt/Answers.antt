-- Three parts, one after another.
use native.Mathlib.Omega.{arith}
use Rattle.gte_causes.proofs.Parts.{triple}
use Rattle.gte_causes.proofs.lighting.list_ncdt.Goals as goal

pub returns : goal.returns
returns c = triple c.list_ncds.ensures c.list_ncds-2.ensures c.list_ncds-3.ensures (omega arith)
