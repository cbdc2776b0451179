-- The totals of an accepted line are natural numbers of µm: none is above 2,035 km, and the sum has at most 13 digits. Assumes nothing.
use mathlib.Core.Path.{◌≡◌, sym, ◌∙◌, ap}
use mathlib.Core.Bool.{Bool, true, false}
use mathlib.Core.List.{List, [], ◌∷◌}
use Prim.Native.Nat.{ℕ, zero, suc, ◌+◌, ◌-◌, ◌*◌, ◌<◌, ◌≤◌}
use native.Mathlib.Omega.{arith}
use lib.IntN.{ℤ, pos, ◌+ℤ◌}
use Rattle.numbers.specs.Whole.{Between}
use Rattle.numbers.proofs.Ranges.{natural, widen, sum_between}
use Rattle.line.specs.declared.Line.{Line}
use Rattle.line.specs.Checks.{curve_at}
use Rattle.stationing.specs.declared.ElementKind.{ElementKind}
use Rattle.stationing.specs.Stations.{spiral_at}
use Rattle.stationing.specs.LineElements.{Element, straight_element, spiral_in_element, arc_element, spiral_out_element, elements_from, elements_of, total}
use Rattle.stationing.proofs.Accepted.{Accepted}
use Rattle.totals.specs.Totals.{is_straight, is_spiral, is_arc, of_kind, total_of, TotalValues, totals_of, totals_by}
use Rattle.totals.proofs.ListTotals.{part, part_more}
use Rattle.totals.proofs.AddingUp.{UpTo}

part_between : (held : Bool) {z : ℤ} {most : ℕ} → Between z 0 most → Between (part held z) 0 most
part_between true b = b
part_between false b = natural 0 (omega arith) (omega arith)

-- An element more, of whatever kind.
added : (kinds : ElementKind → Bool) (e : Element) (es : List Element) {most rest : ℕ} → Between e.length 0 most
    → Between (total_of kinds es) 0 rest → Between (total_of kinds (e ∷ es)) 0 (most + rest)
added kinds e es l r = rw (part_more kinds e es) (sum_between (part_between (kinds e.kind) l) r)

module _ (line : Line) (ok : Accepted line) (kinds : ElementKind → Bool) where
  straight_between : (i : ℕ) → i ≤ line.count → Between (straight_element line i).length 0 20000000000
  straight_between i h = widen (ok.straight i h) (omega arith) (omega arith)

  spiral_between : (i : ℕ) → i < line.count → Between (spiral_at line i) 0 500000000
  unfolding spiral_at
  spiral_between i h = natural (1000 * (curve_at line i).spiral) (omega arith) (omega (arith, (ok.in_range.curve i h).L-most))

  none_between : Between (total_of kinds []) 0 0
  unfolding of_kind total
  none_between = natural 0 (omega arith) (omega arith)

  -- The elements from distance i on, where k curves follow it.
  from_between : (i k : ℕ) → i + k ≡ line.count → Between (total_of kinds (elements_from line i k)) 0 (20000000000 + 31471975510 * k)
  unfolding elements_from
  from_between i zero n =
      widen (added kinds (straight_element line i) [] (straight_between i (omega arith)) none_between) (omega arith) (omega arith)
  from_between i (suc k) n =
      let spiral = spiral_between i (omega arith) in
      let arc = widen (ok.arc i (omega arith)) (let h : 0 ≤ 1000 = omega arith in h) (let h : 10471975510 ≤ 10471975510 = omega arith in h) in
      let behind = added kinds (spiral_out_element line i) (elements_from line (suc i) k) spiral (from_between (suc i) k (omega arith)) in
      let curve = added kinds (spiral_in_element line i) _ spiral (added kinds (arc_element line i) _ arc behind) in
      widen (added kinds (straight_element line i) _ (straight_between i (omega arith)) curve) (omega arith) (omega arith)

  pub total_between : Between (total_of kinds (elements_of line)) 0 2034206432640
  unfolding elements_of
  total_between = widen (from_between 0 line.count (omega arith)) (omega arith) (omega (arith, ok.in_range.few))

  -- A total so far is no more.
  pub so_far_most : {i so_far : ℕ} → i ≤ line.count → UpTo kinds line i so_far → so_far ≤ 2034206432640
  so_far_most {i} {so_far} h u =
      let rest = from_between i (line.count - i) (omega arith) in
      let whole : pos (so_far + rest.value) ≡ pos total_between.value =
      ap (λ (z : ℤ). pos so_far +ℤ z) (sym rest.same) ∙ u.whole ∙ total_between.same in
      let sum : so_far + rest.value ≡ total_between.value = cc in
      omega (arith, total_between.high)

-- The four numbers.
pub record TotalsInRange (v : TotalValues) : Type 0 where
  pub straights : Between v.straights 0 2034206432640
  pub spirals : Between v.spirals 0 2034206432640
  pub arcs : Between v.arcs 0 2034206432640
  pub sum : Between v.sum 0 6102619297920

pub totals_in_range : (line : Line) → Accepted line → TotalsInRange (totals_by line)
unfolding totals_of totals_by
totals_in_range line ok =
    let straights = total_between line ok is_straight in
    let spirals = total_between line ok is_spiral in
    let arcs = total_between line ok is_arc in
    record { straights = straights; spirals = spirals; arcs = arcs; sum = sum_between (sum_between straights spirals) arcs }
