-- A turn that reaches a second reaches each earlier one, since from second to second the sine rises and the cosine does not; each turn
-- reaches 0. Assumes nothing.
use Rattle.std.proofs.Common.{◌≡◌, ℕ, ◌+◌, ◌*◌, ◌<◌, ◌≤◌, Bool, true, false, ltb, leb, pos, sym, refl, ◌∙◌, le_trans, le_of_lt, mul-le-mul_left, mul-zero, arith, ltb-false, ltb-true, le-leb, leb-true}
use Rattle.elements.specs.WorkingRule.{scale, full_angle, term, alternating, sine_of, cosine_of}
use Rattle.elements.proofs.SineAndCosine.{sine_between, cosine_between}
use Rattle.elements.proofs.TurnAngles.{turn_angle_most}
use Rattle.turns.specs.Turn.{reached}
use Rattle.turns.proofs.Rising.{sine_rises, cosine_falls}

angles_apart : (s t : ℕ) → s < t → full_angle s + 4848 ≤ full_angle t
unfolding full_angle
angles_apart s t h = omega arith

-- The test on natural numbers.
pub reached_by : (cross dot s : ℕ) {u v : ℕ} → pos u ≡ sine_of (full_angle s) → pos v ≡ cosine_of (full_angle s)
    → leb (dot * u) (cross * v) ≡ reached cross (pos dot) s
unfolding reached
reached_by cross dot s eu ev = rw (← eu, ← ev)

pub reached_earlier : (cross dot s t : ℕ) → s < t → t ≤ 216001 → reached cross (pos dot) t ≡ true → reached cross (pos dot) s ≡ true
reached_earlier cross dot s t before most e =
    let later = angles_apart s t before in
    let t_most = turn_angle_most t most in
    let s_most = turn_angle_most s (omega arith) in
    let sine = sine_between (full_angle s) s_most in
    let cosine = cosine_between (full_angle s) s_most in
    let sine' = sine_between (full_angle t) t_most in
    let cosine' = cosine_between (full_angle t) t_most in
    let up : sine.value < sine'.value =
    sine_rises (full_angle s) (full_angle t) later t_most sine.value sine'.value (sym sine.same) (sym sine'.same) in
    let down : cosine'.value ≤ cosine.value =
    cosine_falls (full_angle s) (full_angle t) later t_most cosine.value cosine'.value (sym cosine.same) (sym cosine'.same) in
    let there : dot * sine'.value ≤ cross * cosine'.value =
    leb-true _ _ (reached_by cross dot t (sym sine'.same) (sym cosine'.same) ∙ e) in
    sym (reached_by cross dot s (sym sine.same) (sym cosine.same))
    ∙ le-leb _ _ (le_trans (mul-le-mul_left dot (le_of_lt up)) (le_trans there (mul-le-mul_left cross down)))

-- No second from one that is not reached on is reached.
pub not_reached_later : (cross dot s t : ℕ) → s ≤ t → t ≤ 216001 → reached cross (pos dot) s ≡ false → reached cross (pos dot) t ≡ false
not_reached_later cross dot s t h most e = go (ltb s t) refl (reached cross (pos dot) t) refl
  where
    go : (l : Bool) → ltb s t ≡ l → (r : Bool) → reached cross (pos dot) t ≡ r → reached cross (pos dot) t ≡ false
    go false l r q = let same : s ≡ t = omega (arith, ltb-false s t l) in rw (← same) e
    go true l false q = q
    go true l true q = let there = reached_earlier cross dot s t (ltb-true s t l) most q in cc

pub reached_0 : (cross dot : ℕ) → reached cross (pos dot) 0 ≡ true
unfolding full_angle term alternating sine_of cosine_of
reached_0 cross dot =
    sym (reached_by cross dot 0 {u = 0} {v = scale} refl refl) ∙ rw (mul-zero dot) (le-leb 0 (cross * scale) (omega arith))
