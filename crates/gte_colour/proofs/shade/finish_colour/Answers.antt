-- The three channels, whose flags are those of the checks.
use mathlib.Core.Path.{◌≡◌}
use mathlib.Core.Bool.{Bool}
use Prim.Native.Nat.{ℕ}
use lib.IntN.{ℤ, pos}
use lib.Signed.{shr_z}
use mir.Syntax.{w16, w32, w64}
use Rattle.integers.specs.Bound.{back}
use Rattle.integers.specs.Clamp.{outside}
use Rattle.gte_arithmetic.specs.Checks.{or, raise, flags}
use Rattle.gte_arithmetic.specs.Values.{mac_of, ir_of, colour_of, sum_flag}
use Rattle.gte_line.specs.Line.{cell_of}
use Rattle.gte_arithmetic.specs.Triples.{Wide}
use Rattle.gte_arithmetic.proofs.Flags.{or_assoc, or_none}
use Rattle.gte_colour.specs.Shade.{colour_word, shade_checks, shade_of}
use Rattle.gte_colour.specs.declared.shade.Channel.{Channel}
use Rattle.gte_colour.proofs.shade.finish_colour.Goals as goal

abbrev channel : Bool → Bool → ℕ → ℕ → ℕ → ℕ → ℤ → Channel
channel sf lm over under bit cut x =
    record {
      mac = mac_of sf x;
      ir = ir_of lm (mac_of sf x);
      colour = colour_of (mac_of sf x);
      flag = or (cell_of sf lm over under bit x).flag (raise (outside (pos 0) (pos 0xff) (shr_z (mac_of sf x) 16)) cut);
    }

abbrev red : Bool → Bool → ℤ → Channel
red sf lm x = channel sf lm 0x4000_0000 0x800_0000 0x100_0000 0x20_0000 x

abbrev green : Bool → Bool → ℤ → Channel
green sf lm x = channel sf lm 0x2000_0000 0x400_0000 0x80_0000 0x10_0000 x

abbrev blue : Bool → Bool → ℤ → Channel
blue sf lm x = channel sf lm 0x1000_0000 0x200_0000 0x40_0000 0x8_0000 x

joined : (sf lm : Bool) (code : ℕ) (s : Wide)
    → let r = red sf lm s.x in
    let g = green sf lm s.y in
    let b = blue sf lm s.z in
    record { mac = record { x = r.mac; y = g.mac; z = b.mac }; ir = record { x = r.ir; y = g.ir; z = b.ir }; rgb = colour_word r.colour g.colour b.colour code; flag = or r.flag (or g.flag b.flag) } ≡ shade_of sf lm code s
unfolding cell_of shade_of shade_checks flags sum_flag
joined sf lm code s = simp (or_assoc, or_none)

pub returns : goal.returns
unfolding or
returns c =
    let is_r : (let a = c.args in c.channel_of-r.result ≡ red a.sf a.lm a.s.x) = rw (back w64 c.args.s.x c.struct_told-1.given.0.1) at c.channel_of-r.ensures.is in
    let is_g : (let a = c.args in c.channel_of-g.result ≡ green a.sf a.lm a.s.y) = rw (back w64 c.args.s.y c.struct_told-2-1.given.1.0.1) at c.channel_of-g.ensures.is in
    let is_b : (let a = c.args in c.channel_of-b.result ≡ blue a.sf a.lm a.s.z) = rw (back w64 c.args.s.z c.struct_told-3-1.given.1.1.0.1) at c.channel_of-b.ensures.is in
    rw (
      c.pack.ensures,
      back w32 c.channel_of-r.result.mac c.struct_told-4-1.given.0.1,
      back w32 c.channel_of-g.result.mac c.struct_told-5-1.given.0.1,
      back w32 c.channel_of-b.result.mac c.struct_told-6-1.given.0.1,
      back w16 c.channel_of-r.result.ir c.struct_told-7-1.given.1.0.1,
      back w16 c.channel_of-g.result.ir c.struct_told-8-1.given.1.0.1,
      back w16 c.channel_of-b.result.ir c.struct_told-9-1.given.1.0.1,
      is_r,
      is_g,
      is_b,
    ) (joined c.args.sf c.args.lm c.args.code c.args.s)
