-- Many checks in turn: they pass together exactly where each does, and a refusal is the first one's that does not. Assumes nothing.
use mathlib.Core.Path.{◌≡◌, refl, sym, ◌∙◌, ap}
use mathlib.Core.Logic.{⊎_elim}
use Prim.Native.Nat.{ℕ, zero, suc, ◌+◌, ◌-◌, ◌<◌}
use native.Mathlib.Nat.{add-zero, add-suc}
use native.Mathlib.Numerals.{add-one}
use native.Mathlib.Decide.{dec_lt}
use native.Mathlib.Omega.{arith}
use Rattle.refusals.specs.Outcomes.{passed, refused, first_of}
use Rattle.refusals.specs.Order.{Checks, in_turn, outcome, OneOf}
use Rattle.refusals.proofs.Joining.{passed_left, passed_right, never, refused_by, join}

module _ (each : ℕ → Checks) where
  -- One check more that passes.
  pub one_more : (i : ℕ) → outcome (in_turn each i) ≡ passed → outcome (each i) ≡ passed → outcome (in_turn each (i + 1)) ≡ passed
  unfolding first_of
  one_more i p q = ap (λ (n : ℕ). outcome (in_turn each n)) (add-one i) ∙ join p q

  stays : (i j : ℕ) {n p : ℕ} → outcome (in_turn each i) ≡ refused n p → outcome (in_turn each (i + j)) ≡ refused n p
  unfolding first_of
  stays i zero e = ap (λ (n : ℕ). outcome (in_turn each n)) (add-zero i) ∙ e
  stays i (suc j) e = ap (λ (n : ℕ). outcome (in_turn each n)) (add-suc i j) ∙ join (stays i j e) refl

  -- The first check that does not pass gives the refusal.
  pub first_refused : (i count : ℕ) {n p : ℕ} → i < count → outcome (in_turn each i) ≡ passed → outcome (each i) ≡ refused n p
      → outcome (in_turn each count) ≡ refused n p
  unfolding first_of
  first_refused i count h e q =
      let all : suc i + (count - suc i) ≡ count = omega arith in
      sym (ap (λ (n : ℕ). outcome (in_turn each n)) all) ∙ stays (suc i) (count - suc i) (join e q)

  -- Where each passes, all do,
  pub all_pass : (count : ℕ) → ((i : ℕ) → i < count → outcome (each i) ≡ passed) → outcome (in_turn each count) ≡ passed
  unfolding first_of
  all_pass zero e = refl
  all_pass (suc count) e = join (all_pass count (λ i h. e i (omega arith))) (e count (omega arith))

  -- and where all pass, each does.
  pub each_passes : (count : ℕ) → outcome (in_turn each count) ≡ passed → (i : ℕ) → i < count → outcome (each i) ≡ passed
  unfolding first_of
  each_passes zero e i h = absurd (omega arith)
  each_passes (suc count) e i h =
      go (dec_lt i count) (each_passes count (passed_left (outcome (in_turn each count)) _ e) i)
    where
      go : Dec (i < count) → (i < count → outcome (each i) ≡ passed) → outcome (each i) ≡ passed
      go (yes k) earlier = earlier k
      go (no k) earlier =
          let same : i ≡ count = omega arith in
          ap (λ (n : ℕ). outcome (each n)) same ∙ passed_right (outcome (in_turn each count)) _ e

  -- A refusal comes from one of them, and all before that one pass.
  pub find_first : (count : ℕ) {n p : ℕ} → outcome (in_turn each count) ≡ refused n p
      → OneOf count (λ i. outcome (each i) ≡ passed) (λ i. outcome (each i) ≡ refused n p)
  unfolding first_of
  find_first zero {n} {p} e = never n p e
  find_first (suc count) {n} {p} e =
      ⊎_elim (λ a. later (find_first count a)) (λ b. record { index = count; below = omega arith; before = each_passes count b.0; here = b.1 })
      (refused_by (outcome (in_turn each count)) (outcome (each count)) e)
    where
      later : OneOf count (λ i. outcome (each i) ≡ passed) (λ i. outcome (each i) ≡ refused n p)
          → OneOf (suc count) (λ i. outcome (each i) ≡ passed) (λ i. outcome (each i) ≡ refused n p)
      later f = record { index = f.index; below = omega (arith, f.below); before = f.before; here = f.here }

-- Checks that agree, in turn.
pub alike_in_turn : (f g : ℕ → Checks) (count : ℕ) → ((i : ℕ) → i < count → outcome (f i) ≡ outcome (g i))
    → outcome (in_turn f count) ≡ outcome (in_turn g count)
unfolding first_of
alike_in_turn f g zero e = refl
alike_in_turn f g (suc i) e = join (alike_in_turn f g i (λ k h. e k (omega arith))) (e i (omega arith))
