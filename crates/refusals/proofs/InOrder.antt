-- A refusal is the first in its order, for checks joined in any way: one of them does not hold, and each before it holds. Assumes nothing.
use mathlib.Core.Path.{◌≡◌, refl, sym, ◌∙◌, ap}
use mathlib.Core.Logic.{inl, inr, ⊎_elim}
use mathlib.Core.Bool.{Bool}
use Prim.Native.Nat.{ℕ}
use Rattle.refusals.specs.Outcomes.{passed, refused, need}
use Rattle.refusals.specs.Order.{Checks, unchecked, check, ◌⨾◌, in_turn, outcome, Hold, First}
use Rattle.refusals.proofs.Joining.{passed_left, passed_right, need_holds, need_refused, never, refused_by, join}
use Rattle.refusals.proofs.InTurn.{each_passes, find_first, first_refused, all_pass}

-- They pass together exactly where each holds.
pub all_hold : (c : Checks) → outcome c ≡ passed → Hold c
all_hold unchecked e = tt
all_hold (check holds number place) e = need_holds holds number place e
all_hold (a ⨾ b) e = (all_hold a (passed_left (outcome a) (outcome b) e), all_hold b (passed_right (outcome a) (outcome b) e))
all_hold (in_turn each count) e = λ i h. all_hold (each i) (each_passes each count e i h)

pub held : (c : Checks) → Hold c → outcome c ≡ passed
held unchecked h = refl
held (check holds number place) h = ap (λ (t : Bool). need t number place) h
held (a ⨾ b) h = join (held a h.0) (held b h.1)
held (in_turn each count) h = all_pass each count (λ i k. held (each i) (h i k))

-- They refuse with a number and a place exactly where these are the first's that does not hold.
pub first_in_order : (c : Checks) {n p : ℕ} → outcome c ≡ refused n p → First c n p
first_in_order unchecked {n} {p} e = never n p e
first_in_order (check holds number place) e = let t = need_refused holds number place e in (t.0, sym t.1, sym t.2)
first_in_order (a ⨾ b) e =
    ⊎_elim (λ q. inl (first_in_order a q)) (λ q. inr (all_hold a q.0, first_in_order b q.1)) (refused_by (outcome a) (outcome b) e)
first_in_order (in_turn each count) e =
    let f = find_first each count e in
    record {
      index = f.index;
      below = f.below;
      before = λ i h. all_hold (each i) (f.before i h);
      here = first_in_order (each f.index) f.here;
    }

pub refused_in_order : (c : Checks) {n p : ℕ} → First c n p → outcome c ≡ refused n p
refused_in_order unchecked f = absurd f
refused_in_order (check holds number place) f =
    ap (λ (t : Bool). need t number place) f.0 ∙ (λ j. refused (f.1 j) (f.2 j))
refused_in_order (a ⨾ b) f =
    ⊎_elim (λ q. join (refused_in_order a q) refl) (λ q. join (held a q.0) (refused_in_order b q.1)) f
refused_in_order (in_turn each count) f =
    first_refused each f.index count f.below
    (all_pass each f.index (λ i h. held (each i) (f.before i h)))
    (refused_in_order (each f.index) f.here)
