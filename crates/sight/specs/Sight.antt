-- Document 02, N5: whether a vertical curve is long enough for sight, "as whole products". D is the stopping distance in m, L the curve's length in
-- mm, i1 and i2 the incoming and the outgoing grade in millionths.
use Rattle.std.specs.Prelude.{Bool, cond, ℕ, ◌+◌, ◌*◌, leb, ℤ, pos, nat_abs, ◌-ℤ◌}
use Rattle.std.specs.Int.Signed.{lt_z}

-- "Crest and sag lengths are tested by that document's first case where the sight is at most the length and by its second otherwise": for a
-- change of grade of `change` millionths either way, and document 001's 412 or 122 + 3,5 D in tenths.
unfoldable pub long_enough : (D L change tenths : ℕ) → Bool
long_enough D L change tenths =
    cond (leb (1000 * D) L)
    (leb (D * D * change) (L * tenths))
    (leb (2000 * D * change) (L * change + tenths * 1000000))

-- 412 on a crest, 122 + 3,5 D in a sag, in tenths
abbrev pub crest_tenths : ℕ
crest_tenths = 4120

abbrev pub sag_tenths : ℕ → ℕ
sag_tenths D = 1220 + 35 * D

-- A crest where the incoming grade is the greater one, else a sag; without a change each length serves.
unfoldable pub sight_serves : (D : ℕ) (i1 i2 : ℤ) (L : ℕ) → Bool
sight_serves D i1 i2 L =
    long_enough D L (nat_abs (i1 -ℤ i2)) (cond (lt_z (pos 0) (i1 -ℤ i2)) crest_tenths (sag_tenths D))
