-- The calculator reads no unused entry and no side: lines that are alike where they are used have the same answer, the same row and the same
-- elements. Assumes nothing.
use mathlib.Core.Path.{◌≡◌, refl, sym, ◌∙◌, ap}
use mathlib.Core.List.{List, [], ◌∷◌, ◌++◌, map}
use Prim.Native.Nat.{ℕ, zero, suc, ◌+◌, ◌<◌, ◌≤◌}
use native.Mathlib.Decide.{dec_lt}
use native.Mathlib.Omega.{arith}
use lib.IntN.{nat_abs, ◌+ℤ◌}
use Rattle.refusals.specs.Order.{in_turn, outcome}
use Rattle.refusals.proofs.Joining.{join}
use Rattle.refusals.proofs.InTurn.{alike_in_turn}
use Rattle.refusals.proofs.FillWays.{same_fill}
use Rattle.line.specs.declared.Line.{Line}
use Rattle.line.specs.Ranges.{AlikeWhereUsed}
use Rattle.line.proofs.Unused.{unused_ignored}
use Rattle.stationing.proofs.StraightSteps.{after_inside, after_end}
use Rattle.stationing.specs.Stations.{spiral_at, arc_at, tangent_at, tangent_before, tangent_after, straight_at, points_at, former_st, end_of, curve_stations, stations_of, station_row}
use Rattle.stationing.specs.LineElements.{elements_from, elements_of}
use Rattle.stationing.specs.Answer.{design_checks_at, straight_check, alignment_checks, stations_in}

module _ (l m : Line) (alike : AlikeWhereUsed l m) where
  module _ (i : ℕ) (h : i < l.count) where
    pub same_spiral : spiral_at l i ≡ spiral_at m i
    unfolding spiral_at
    same_spiral = rw (alike.spiral i h)

    pub same_arc : arc_at l i ≡ arc_at m i
    unfolding arc_at
    same_arc = rw (alike.deflection i h, alike.radius i h, alike.spiral i h)

    same_tangent : tangent_at l i ≡ tangent_at m i
    unfolding tangent_at
    same_tangent = rw (alike.deflection i h, alike.radius i h, alike.spiral i h)

    same_curve_check : outcome (design_checks_at l i) ≡ outcome (design_checks_at m i)
    unfolding design_checks_at
    same_curve_check =
        rw (alike.speed, alike.crossfall, alike.deflection i h, alike.radius i h, alike.spiral i h)

  -- ---- straights

  same_before : (i : ℕ) → i ≤ l.count → tangent_before l i ≡ tangent_before m i
  unfolding tangent_before
  same_before zero h = refl
  same_before (suc i) h = same_tangent i h

  same_after : (i : ℕ) → tangent_after l i ≡ tangent_after m i
  same_after i = go (dec_lt i l.count)
    where
      go : Dec (i < l.count) → tangent_after l i ≡ tangent_after m i
      go (yes h) = after_inside l i h ∙ same_tangent i h ∙ sym (after_inside m i (omega (arith, alike.count)))
      go (no h) = after_end l i (omega arith) ∙ sym (after_end m i (omega (arith, alike.count)))

  pub same_straight : (i : ℕ) → i ≤ l.count → straight_at l i ≡ straight_at m i
  unfolding straight_at
  same_straight i h = rw (same_before i h, same_after i, alike.distance i h)

  same_straight_check : (i : ℕ) → i ≤ l.count → outcome (straight_check l i) ≡ outcome (straight_check m i)
  unfolding straight_check
  same_straight_check i h = rw (same_straight i h)

  -- ---- the checks

  same_curve_checks : outcome (in_turn (design_checks_at l) l.count) ≡ outcome (in_turn (design_checks_at m) m.count)
  same_curve_checks =
      alike_in_turn (design_checks_at l) (design_checks_at m) l.count same_curve_check ∙ ap (λ (n : ℕ). outcome (in_turn (design_checks_at m) n)) alike.count

  same_straight_checks : outcome (in_turn (straight_check l) (suc l.count)) ≡ outcome (in_turn (straight_check m) (suc m.count))
  same_straight_checks =
      alike_in_turn (straight_check l) (straight_check m) (suc l.count) (λ i h. same_straight_check i (omega arith))
      ∙ ap (λ (n : ℕ). outcome (in_turn (straight_check m) (suc n))) alike.count

  pub same_checks : outcome (alignment_checks l) ≡ outcome (alignment_checks m)
  unfolding alignment_checks
  same_checks = join (unused_ignored l m alike _) (join same_curve_checks same_straight_checks)

  -- ---- the stations

  same_former : (i : ℕ) → i ≤ l.count → former_st l i ≡ former_st m i
  unfolding former_st
  same_former zero h = rw alike.start
  same_former (suc i) h = rw (same_former i (omega arith), same_straight i (omega arith), same_spiral i h, same_arc i h)

  same_curves : (i : ℕ) → i ≤ l.count → curve_stations l i ≡ curve_stations m i
  unfolding curve_stations points_at
  same_curves zero h = refl
  same_curves (suc i) h =
      rw (same_curves i (omega arith), same_former i (omega arith), same_straight i (omega arith), same_spiral i h, same_arc i h)

  same_stations : station_row l ≡ station_row m
  unfolding station_row stations_of end_of
  same_stations =
      let n = l.count in
      let curves : curve_stations l n ≡ curve_stations m m.count = same_curves n (omega arith) ∙ ap (curve_stations m) alike.count in
      let former : former_st l n ≡ former_st m m.count = same_former n (omega arith) ∙ ap (former_st m) alike.count in
      let straight : straight_at l n ≡ straight_at m m.count = same_straight n (omega arith) ∙ ap (straight_at m) alike.count in
      λ j. map nat_abs (curves j ++ ((former j +ℤ straight j) ∷ []))

  -- ---- the elements in order

  same_elements_from : (i k : ℕ) → i + k ≡ l.count → elements_from l i k ≡ elements_from m i k
  unfolding elements_from
  same_elements_from i zero n = rw (same_straight i (omega arith))
  same_elements_from i (suc k) n =
      rw (same_straight i (omega arith), same_spiral i (omega arith), same_arc i (omega arith), same_elements_from (suc i) k (omega arith))

  pub same_elements : elements_of l ≡ elements_of m
  unfolding elements_of
  same_elements = same_elements_from 0 l.count (omega arith) ∙ ap (elements_from m 0) alike.count

  -- The same answer and the same row, whatever row is lent.
  pub same_call : (row : List ℕ) → stations_in l row ≡ stations_in m row
  unfolding stations_in
  same_call row = same_fill (alignment_checks l) (alignment_checks m) (station_row l) (station_row m) row same_checks same_stations
