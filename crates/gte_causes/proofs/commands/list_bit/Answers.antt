-- Each arm lists the parts of its row of the table, and the rest is in no row.
use mathlib.Core.Path.{refl}
use Prim.Native.Nat.{◌%◌}
use native.Mathlib.Omega.{arith}
use Rattle.tables.specs.Table.{NoneOf, lookup_none}
use Rattle.gte.specs.Commands.{commands, parts_of, RTPS, NCLIP, OP, DPCS, INTPL, MVMVA, NCDS, CDP, NCDT, NCCS, CC, NCS, NCT, SQR, DCPL, DPCT, AVSZ3, AVSZ4, RTPT, GPF, GPL, NCCT, unlisted}
use Rattle.gte_causes.proofs.Parts.{single, any_part, nothing, of}
use Rattle.gte_causes.proofs.commands.list_bit.Goals as goal

pub returns-in-1 : goal.returns-in-1
unfolding commands parts_of NoneOf
returns-in-1 c = of c.args.c.now RTPS c.args.word (rw c.in-1.is refl) (single (omega arith) (rw c.bit_19-sf.ensures at c.list_vertex.ensures))

pub returns-in-6 : goal.returns-in-6
unfolding commands parts_of NoneOf
returns-in-6 c = of c.args.c.now NCLIP c.args.word (rw c.in-6.is refl) (single (omega arith) c.list_nclip.ensures)

pub returns-in-12 : goal.returns-in-12
unfolding commands parts_of NoneOf
returns-in-12 c = of c.args.c.now OP c.args.word (rw c.in-12.is refl) (single (omega arith) (rw (c.bit_19-sf.ensures, c.bit_10-lm.ensures) at c.list_op.ensures))

pub returns-in-16 : goal.returns-in-16
unfolding commands parts_of NoneOf
returns-in-16 c = of c.args.c.now DPCS c.args.word (rw c.in-16.is refl) (single (omega arith) (rw (c.bit_19-sf.ensures, c.bit_10-lm.ensures) at c.list_dpcs.ensures))

pub returns-in-17 : goal.returns-in-17
unfolding commands parts_of NoneOf
returns-in-17 c = of c.args.c.now INTPL c.args.word (rw c.in-17.is refl) (single (omega arith) (rw (c.bit_19-sf.ensures, c.bit_10-lm.ensures) at c.list_intpl.ensures))

pub returns-in-18 : goal.returns-in-18
unfolding commands parts_of NoneOf
returns-in-18 c = of c.args.c.now MVMVA c.args.word (rw c.in-18.is refl) (single (omega arith) (rw (c.bit_19-sf.ensures, c.bit_10-lm.ensures) at c.list_mvmva.ensures))

pub returns-in-19 : goal.returns-in-19
unfolding commands parts_of NoneOf
returns-in-19 c = of c.args.c.now NCDS c.args.word (rw c.in-19.is refl) (single (omega arith) (rw (c.bit_19-sf.ensures, c.bit_10-lm.ensures) at c.list_ncds.ensures))

pub returns-in-20 : goal.returns-in-20
unfolding commands parts_of NoneOf
returns-in-20 c = of c.args.c.now CDP c.args.word (rw c.in-20.is refl) (single (omega arith) (rw (c.bit_19-sf.ensures, c.bit_10-lm.ensures) at c.list_cdp.ensures))

pub returns-in-22 : goal.returns-in-22
unfolding commands parts_of NoneOf
returns-in-22 c = of c.args.c.now NCDT c.args.word (rw c.in-22.is refl) (any_part (rw (c.bit_19-sf.ensures, c.bit_10-lm.ensures) at c.list_ncdt.ensures))

pub returns-in-27 : goal.returns-in-27
unfolding commands parts_of NoneOf
returns-in-27 c = of c.args.c.now NCCS c.args.word (rw c.in-27.is refl) (single (omega arith) (rw (c.bit_19-sf.ensures, c.bit_10-lm.ensures) at c.list_nccs.ensures))

pub returns-in-28 : goal.returns-in-28
unfolding commands parts_of NoneOf
returns-in-28 c = of c.args.c.now CC c.args.word (rw c.in-28.is refl) (single (omega arith) (rw (c.bit_19-sf.ensures, c.bit_10-lm.ensures) at c.list_cc.ensures))

pub returns-in-30 : goal.returns-in-30
unfolding commands parts_of NoneOf
returns-in-30 c = of c.args.c.now NCS c.args.word (rw c.in-30.is refl) (single (omega arith) (rw (c.bit_19-sf.ensures, c.bit_10-lm.ensures) at c.list_ncs.ensures))

pub returns-in-32 : goal.returns-in-32
unfolding commands parts_of NoneOf
returns-in-32 c = of c.args.c.now NCT c.args.word (rw c.in-32.is refl) (any_part (rw (c.bit_19-sf.ensures, c.bit_10-lm.ensures) at c.list_nct.ensures))

pub returns-in-40 : goal.returns-in-40
unfolding commands parts_of NoneOf
returns-in-40 c = of c.args.c.now SQR c.args.word (rw c.in-40.is refl) (single (omega arith) (rw (c.bit_19-sf.ensures, c.bit_10-lm.ensures) at c.list_sqr.ensures))

pub returns-in-41 : goal.returns-in-41
unfolding commands parts_of NoneOf
returns-in-41 c = of c.args.c.now DCPL c.args.word (rw c.in-41.is refl) (single (omega arith) (rw (c.bit_19-sf.ensures, c.bit_10-lm.ensures) at c.list_dcpl.ensures))

pub returns-in-42 : goal.returns-in-42
unfolding commands parts_of NoneOf
returns-in-42 c = of c.args.c.now DPCT c.args.word (rw c.in-42.is refl) (any_part (rw (c.bit_19-sf.ensures, c.bit_10-lm.ensures) at c.list_dpct.ensures))

pub returns-in-45 : goal.returns-in-45
unfolding commands parts_of NoneOf
returns-in-45 c = of c.args.c.now AVSZ3 c.args.word (rw c.in-45.is refl) (single (omega arith) c.list_avsz3.ensures)

pub returns-in-46 : goal.returns-in-46
unfolding commands parts_of NoneOf
returns-in-46 c = of c.args.c.now AVSZ4 c.args.word (rw c.in-46.is refl) (single (omega arith) c.list_avsz4.ensures)

pub returns-in-48 : goal.returns-in-48
unfolding commands parts_of NoneOf
returns-in-48 c = of c.args.c.now RTPT c.args.word (rw c.in-48.is refl) (any_part (rw c.bit_19-sf.ensures at c.list_rtpt.ensures))

pub returns-in-61 : goal.returns-in-61
unfolding commands parts_of NoneOf
returns-in-61 c = of c.args.c.now GPF c.args.word (rw c.in-61.is refl) (single (omega arith) (rw (c.bit_19-sf.ensures, c.bit_10-lm.ensures) at c.list_gpf.ensures))

pub returns-in-62 : goal.returns-in-62
unfolding commands parts_of NoneOf
returns-in-62 c = of c.args.c.now GPL c.args.word (rw c.in-62.is refl) (single (omega arith) (rw (c.bit_19-sf.ensures, c.bit_10-lm.ensures) at c.list_gpl.ensures))

pub returns-in-63 : goal.returns-in-63
unfolding commands parts_of NoneOf
returns-in-63 c = of c.args.c.now NCCT c.args.word (rw c.in-63.is refl) (any_part (rw (c.bit_19-sf.ensures, c.bit_10-lm.ensures) at c.list_ncct.ensures))

pub returns-in_default : goal.returns-in_default
unfolding commands parts_of NoneOf
returns-in_default c = of c.args.c.now unlisted c.args.word (lookup_none commands unlisted (c.args.word % 64) (Unit {0}) c.in_default.in_default-own.rest) (nothing _)
