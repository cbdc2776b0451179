-- Adding up along a line: a total so far and what the elements that are left add to it are the whole total. Assumes nothing.
use mathlib.Core.Path.{◌≡◌, refl, sym, ◌∙◌, ap}
use mathlib.Core.Bool.{Bool}
use mathlib.Core.List.{List, [], ◌∷◌}
use Prim.Native.Nat.{ℕ, suc, ◌+◌, ◌-◌, ◌*◌, ◌<◌}
use native.Mathlib.Nat.{add-zero}
use native.Mathlib.Numerals.{add-one}
use native.Mathlib.Omega.{arith}
use lib.IntN.{ℤ, pos, ◌+ℤ◌, +ℤ_idl, +ℤ_idr, +ℤ_assoc}
use Rattle.line.specs.declared.Line.{Line}
use Rattle.line.specs.Checks.{curve_at}
use Rattle.stationing.specs.declared.ElementKind.{ElementKind}
use Rattle.stationing.specs.Stations.{spiral_at, arc_at, straight_at}
use Rattle.stationing.specs.LineElements.{Element, straight_element, spiral_in_element, arc_element, spiral_out_element, elements_from, elements_of, total}
use Rattle.totals.specs.Totals.{is_straight, is_spiral, is_arc, of_kind, total_of}
use Rattle.totals.proofs.ListTotals.{total_append}

-- The straight of distance i, and the curve behind it.
abbrev stretch : Line → ℕ → List Element
stretch line i = straight_element line i ∷ spiral_in_element line i ∷ arc_element line i ∷ spiral_out_element line i ∷ []

-- A number and what the elements from distance i on add to it are the whole total.
pub record UpTo (kinds : ElementKind → Bool) (line : Line) (i so_far : ℕ) : Type 0 where
  pub whole : pos so_far +ℤ total_of kinds (elements_from line i (line.count - i)) ≡ total_of kinds (elements_of line)

module _ (line : Line) where
  -- Before the first element nothing is added.
  pub none_yet : (kinds : ElementKind → Bool) → UpTo kinds line 0 0
  unfolding elements_of
  none_yet kinds =
      let all : line.count - 0 ≡ line.count = omega arith in
      record { whole = +ℤ_idl (total_of kinds (elements_from line 0 (line.count - 0))) ∙ ap (λ (k : ℕ). total_of kinds (elements_from line 0 k)) all }

  -- The next stretch adds what its elements of these kinds do.
  module _ {i : ℕ} (h : i < line.count) where
    added : (kinds : ElementKind → Bool) {so_far x : ℕ} → pos x ≡ total_of kinds (stretch line i) → UpTo kinds line i so_far → UpTo kinds line (i + 1) (so_far + x)
    unfolding elements_from
    added kinds {so_far} {x} e u =
        let k = line.count - (i + 1) in
        let curves : suc k ≡ line.count - i = omega arith in
        let rest = elements_from line (suc i) k in
        record {
          whole =
              ap (λ (m : ℕ). pos (so_far + x) +ℤ total_of kinds (elements_from line m k)) (add-one i)
              ∙ +ℤ_assoc (pos so_far) (pos x) (total_of kinds rest)
              ∙ ap (λ (z : ℤ). pos so_far +ℤ (z +ℤ total_of kinds rest)) e
              ∙ ap (λ (z : ℤ). pos so_far +ℤ z) (sym (total_append kinds (stretch line i) rest))
              ∙ ap (λ (m : ℕ). pos so_far +ℤ total_of kinds (elements_from line i m)) curves
              ∙ u.whole;
        }

    pub straight_added : {so_far x : ℕ} → pos x ≡ straight_at line i → UpTo is_straight line i so_far → UpTo is_straight line (i + 1) (so_far + x)
    unfolding of_kind total
    straight_added e u = added is_straight (e ∙ sym (+ℤ_idr (straight_at line i))) u

    pub spirals_added : {so_far : ℕ} → UpTo is_spiral line i so_far → UpTo is_spiral line (i + 1) (so_far + 2000 * (curve_at line i).spiral)
    unfolding of_kind total spiral_at
    spirals_added u = added is_spiral (ap pos (omega arith)) u

    pub arc_added : {so_far x : ℕ} → pos x ≡ arc_at line i → UpTo is_arc line i so_far → UpTo is_arc line (i + 1) (so_far + x)
    unfolding of_kind total
    arc_added e u = added is_arc (e ∙ sym (+ℤ_idr (arc_at line i))) u

  -- Behind the last curve the last straight is left.
  module _ {i : ℕ} (all : i ≡ line.count) where
    all_added : (kinds : ElementKind → Bool) {so_far x : ℕ} → pos x ≡ total_of kinds (straight_element line line.count ∷ []) → UpTo kinds line i so_far
        → pos (so_far + x) ≡ total_of kinds (elements_of line)
    unfolding elements_from
    all_added kinds {so_far} e u =
        let none : line.count - i ≡ 0 = omega arith in
        let left : elements_from line i (line.count - i) ≡ straight_element line line.count ∷ [] = λ j. elements_from line (all j) (none j) in
        ap (λ (z : ℤ). pos so_far +ℤ z) e ∙ ap (λ (es : List Element). pos so_far +ℤ total_of kinds es) (sym left) ∙ u.whole

    pub straights_whole : {so_far x : ℕ} → pos x ≡ straight_at line line.count → UpTo is_straight line i so_far → pos (so_far + x) ≡ total_of is_straight (elements_of line)
    unfolding of_kind total
    straights_whole e u = all_added is_straight (e ∙ sym (+ℤ_idr (straight_at line line.count))) u

    pub spirals_whole : {so_far : ℕ} → UpTo is_spiral line i so_far → pos so_far ≡ total_of is_spiral (elements_of line)
    unfolding of_kind total
    spirals_whole {so_far} u = ap pos (sym (add-zero so_far)) ∙ all_added is_spiral refl u

    pub arcs_whole : {so_far : ℕ} → UpTo is_arc line i so_far → pos so_far ≡ total_of is_arc (elements_of line)
    unfolding of_kind total
    arcs_whole {so_far} u = ap pos (sym (add-zero so_far)) ∙ all_added is_arc refl u
