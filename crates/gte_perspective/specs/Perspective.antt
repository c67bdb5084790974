-- Lines 5 to 7 of the perspective transformation of one vertex (001, as fixed in 01): the quotient, SX and SY, IR0.
use Rattle.std.specs.Prelude.{List, [], ◌∷◌, ◌≡◌, ℕ, ◌+◌, ◌*◌, ◌^◌, ℤ, pos, ◌+ℤ◌, ◌*ℤ◌}
use Rattle.std.specs.Int.Signed.{shr_z}
use Rattle.std.specs.Int.{w16}
use Rattle.std.proofs.Common.{of_z}
use Rattle.integers.specs.Wrap.{wrap}
use Rattle.gte_arithmetic.specs.Checks.{Check, flags, or}
use Rattle.gte_arithmetic.specs.Values.{screen_range, factor_range, limit_flag, screen_of, factor_of, mac0_flag, mac0_checks, division_check, screen_check, factor_check}
use Rattle.gte_arithmetic.specs.declared.values.Checked.{Checked}
use Rattle.gte_arithmetic.specs.declared.values.Camera.{Camera}
use Rattle.gte_division.specs.Division.{ratio_of}
use Rattle.gte_perspective.specs.declared.screen.Factor.{Factor}
use Rattle.gte_perspective.specs.declared.screen.Screen.{Screen}

-- a MAC0 value of lines 5 to 7: the quotient times a factor, plus an offset, exact
unfoldable pub exact_of : ℕ → ℤ → ℤ → ℤ
exact_of q k b = pos q *ℤ k +ℤ b

-- two signed halves in one word, the second high
unfoldable pub pair_of : ℤ → ℤ → ℕ
pair_of x y = of_z w16 x + of_z w16 y * 65536

-- what line 5 or 6 gives of its exact value, with bit 14 or 13
abbrev pub coordinate_of : ℤ → ℕ → Checked ℤ
coordinate_of x bit = record { v = screen_of (shr_z x 65536); flag = or (mac0_flag x) (limit_flag screen_range (shr_z x 65536) bit) }

-- what line 7 gives of its exact value: the MAC0 that stays, and IR0
abbrev pub cue_of : ℤ → Factor
cue_of x = record { mac0 = wrap (2 ^ 31) x; ir0 = factor_of (shr_z x 4096); flag = or (mac0_flag x) (limit_flag factor_range (shr_z x 4096) 0x1000) }

-- line 7 of a quotient
abbrev pub cue_at : ℕ → Camera → Factor
cue_at q k = cue_of (exact_of q k.dqa k.dqb)

-- line 7 of three vertices: what the last one leaves, with the flags of all
abbrev pub last_cue : Factor → Factor → Factor → Factor
last_cue a b d = record { mac0 = d.mac0; ir0 = d.ir0; flag = or a.flag (or b.flag d.flag) }

-- lines 5 to 7, from SZ3 and the two IR. Bit 17 stands on line 5, the first with the quotient.
unfoldable pub screen_checks : Camera → ℕ → ℤ → ℤ → List Check
screen_checks k sz ir1 ir2 =
    let q = ratio_of k.h sz in
    let x = exact_of q ir1 k.ofx in
    let y = exact_of q ir2 k.ofy in
    let d = exact_of q k.dqa k.dqb in
    division_check 5 k.h sz
    ∷ mac0_checks 5 x (screen_check 14 5 (shr_z x 65536)
    ∷ mac0_checks 6 y (screen_check 13 6 (shr_z y 65536)
    ∷ mac0_checks 7 d (factor_check 7 (shr_z d 4096) ∷ [])))

unfoldable pub on_screen : Camera → ℕ → ℤ → ℤ → Screen
on_screen k sz ir1 ir2 =
    let q = ratio_of k.h sz in
    let d = exact_of q k.dqa k.dqb in
    record {
      mac0 = wrap (2 ^ 31) d;
      xy = pair_of (screen_of (shr_z (exact_of q ir1 k.ofx) 65536)) (screen_of (shr_z (exact_of q ir2 k.ofy) 65536));
      ir0 = factor_of (shr_z d 4096);
      flag = flags (screen_checks k sz ir1 ir2);
    }

-- lines 5 and 6 set no bit, and xy holds their SX and SY
pub record Shown (q : ℕ) (k : Camera) (ir1 ir2 : ℤ) (xy : ℕ) : Type 0 where
  pub first : (coordinate_of (exact_of q ir1 k.ofx) 0x4000).flag ≡ 0
  pub second : (coordinate_of (exact_of q ir2 k.ofy) 0x2000).flag ≡ 0
  pub place : xy ≡ pair_of (coordinate_of (exact_of q ir1 k.ofx) 0x4000).v (coordinate_of (exact_of q ir2 k.ofy) 0x2000).v
