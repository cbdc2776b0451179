-- What is computed step by step on natural numbers is what the working rule says. Assumes nothing.
use mathlib.Core.Path.{◌≡◌, sym, ◌∙◌, ap}
use Prim.Native.Nat.{ℕ, ◌+◌, ◌-◌, ◌*◌, ◌/◌, ◌≤◌}
use lib.IntN.{ℤ, pos, ◌+ℤ◌, ◌-ℤ◌, ◌*ℤ◌}
use Rattle.numbers.specs.Whole.{◌÷◌}
use Rattle.numbers.proofs.Differences.{minus_le}
use Rattle.elements.specs.WorkingRule.{scale, rounded, half_angle, sine_of, cosine_of, spiral_x, spiral_y, centre_of, shift_of, arc_of, tan_of, tangent_of}
use Rattle.elements.specs.Answer.{values_by}

-- ---- X and k, or Y and p

pub computed_end : (L : ℕ) {x u : ℕ} {a : ℤ} → pos x ≡ a → pos u ≡ rounded (pos (L * x)) 1000000 → pos u ≡ rounded (pos L *ℤ a) 1000000
computed_end L ex e = e ∙ ap (λ (z : ℤ). rounded (pos L *ℤ z) 1000000) ex

pub computed_rest : (L R : ℕ) {x s u : ℕ} {a b : ℤ} → pos x ≡ a → pos s ≡ b
    → pos u ≡ rounded (pos (L * x)) 1000000 -ℤ rounded (pos (R * s)) 1000000
    → pos u ≡ rounded (pos L *ℤ a) 1000000 -ℤ rounded (pos R *ℤ b) 1000000
computed_rest L R ex es e = e ∙ (λ j. rounded (pos L *ℤ ex j) 1000000 -ℤ rounded (pos R *ℤ es j) 1000000)

-- 10⁹ less a cosine.
pub computed_one_less : {c t t' : ℕ} → t ≡ t' → pos c ≡ cosine_of t → c ≤ scale → pos (scale - c) ≡ pos scale -ℤ cosine_of t'
computed_one_less at e h = sym (minus_le h) ∙ ap (λ (z : ℤ). pos scale -ℤ z) (e ∙ ap cosine_of at)

-- ---- tan and TT

pub computed_tan : (A : ℕ) {h s c : ℕ} → h ≡ half_angle A → pos s ≡ sine_of h → pos c ≡ cosine_of h → pos (s * scale / c) ≡ tan_of A
unfolding tan_of
computed_tan A e es ec = λ j. (es ∙ ap sine_of e) j *ℤ pos scale ÷ (ec ∙ ap cosine_of e) j

pub computed_tt : (A R L : ℕ) {k p tan b : ℕ} → pos k ≡ centre_of R L → pos p ≡ shift_of R L → pos tan ≡ tan_of A
    → pos b ≡ rounded (pos ((1000 * R + p) * tan)) scale → pos (k + b) ≡ tangent_of A R L
unfolding tangent_of
computed_tt A R L ek ep eg eb =
    λ j. ek j +ℤ (eb ∙ (λ i. rounded ((pos (1000 * R) +ℤ ep i) *ℤ eg i) scale)) j

-- ---- the six values

pub computed_values : (A R L : ℕ) {x y k p d tt : ℕ} → pos x ≡ spiral_x R L → pos y ≡ spiral_y R L → pos k ≡ centre_of R L → pos p ≡ shift_of R L
    → pos d ≡ arc_of A R L → pos tt ≡ tangent_of A R L
    → record { X = pos x; Y = pos y; k = pos k; p = pos p; D = pos d; TT = pos tt } ≡ values_by A R L
unfolding values_by
computed_values A R L ex ey ek ep ed et = rw (ex, ey, ek, ep, ed, et)
