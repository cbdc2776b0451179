-- The call reads no unused entry, and a curve's side changes the sign of y alone. Assumes nothing.
use mathlib.Core.Path.{◌≡◌, refl, sym, ◌∙◌, ap}
use mathlib.Core.Bool.{Bool, true, false, cond}
use mathlib.Core.List.{List, [], ◌∷◌}
use Prim.Native.Nat.{ℕ, zero, suc, ◌+◌, ◌-◌, ◌<◌}
use native.Mathlib.Omega.{arith}
use lib.IntN.{ℤ, pos, nat_abs, ◌+ℤ◌, ◌-ℤ◌}
use Rattle.refusals.specs.Order.{outcome}
use Rattle.refusals.specs.Replying.{reply_to, reply}
use Rattle.line.specs.declared.Line.{Line}
use Rattle.line.specs.Checks.{curve_at}
use Rattle.line.specs.Ranges.{AlikeWhereUsed}
use Rattle.elements.specs.SpiralPoint.{offset_x, offset_y, Offsets}
use Rattle.stationing.specs.declared.ElementKind.TheVariants.{Straight}
use Rattle.stationing.specs.Stations.{straight_at}
use Rattle.stationing.specs.LineElements.{Element, straight_element, spiral_in_element, arc_element, spiral_out_element, elements_from, elements_of, total, line_length, Placed, placed_from, placed_elements}
use Rattle.orders.proofs.Unused.{same_straight, same_checks, same_elements}
use Rattle.pegs.specs.Pegs.{along_line, holds, last_straight, holding, element_under, sided, curve_offsets, offsets_on, PegValues, peg_on, peg_by, station_check, peg_checks, peg_reply}
use Rattle.numbers.proofs.Signs.{size_negative}

-- Offsets without the side, and a peg with such.
abbrev without_side : Offsets → Offsets
without_side o = record { x = o.x; y = pos (nat_abs o.y) }

abbrev pub unsided : PegValues → PegValues
unsided v = record { kind = v.kind; number = v.number; length = v.length; offsets = without_side v.offsets }

either_side : (left left' : Bool) (y : ℤ) → nat_abs (sided left y) ≡ nat_abs (sided left' y)
either_side false false y = refl
either_side false true y = sym (size_negative y)
either_side true false y = size_negative y
either_side true true y = refl

module _ (l m : Line) (alike : AlikeWhereUsed l m) where
  same_placed : placed_elements l ≡ placed_elements m
  unfolding placed_elements
  same_placed = ap (placed_from (pos 0)) (same_elements l m alike)

  same_length : line_length l ≡ line_length m
  unfolding line_length
  same_length = ap total (same_elements l m alike)

  same_last : last_straight l ≡ last_straight m
  unfolding last_straight
  same_last =
      let straight : straight_at l l.count ≡ straight_at m m.count = same_straight l m alike l.count (omega arith) ∙ ap (straight_at m) alike.count in
      λ j. record {
        element = record { kind = Straight; number = alike.count j; length = straight j };
        begin = same_length j -ℤ straight j;
      }

  same_under : (along : ℤ) → element_under l along ≡ element_under m along
  unfolding element_under
  same_under along = λ j. holding along (same_placed j) (same_last j)

  same_along : (station : ℕ) → along_line l station ≡ along_line m station
  unfolding along_line
  same_along station = rw alike.start

  -- The same refusals.
  pub same_outcome : (station : ℕ) → outcome (peg_checks l station) ≡ outcome (peg_checks m station)
  unfolding peg_checks station_check
  same_outcome station = rw (same_checks l m alike, same_along station, same_length)

  -- What two lines give of the offsets of each curve's spirals alike, they give of a peg's.
  module _ (view : Offsets → Offsets) (spirals : (i : ℕ) → i < l.count → (z : ℕ) → view (curve_offsets (curve_at l i) z) ≡ view (curve_offsets (curve_at m i) z)) where
    Viewed : Element → Type 0
    Viewed e = (z : ℤ) → view (offsets_on e.kind (curve_at l (e.number - 1)) z) ≡ view (offsets_on e.kind (curve_at m (e.number - 1)) z)

    straight_viewed : (i : ℕ) → Viewed (straight_element l i)
    unfolding Viewed
    straight_viewed i z = refl

    arc_viewed : (i : ℕ) → Viewed (arc_element l i)
    unfolding Viewed
    arc_viewed i z = refl

    spiral_viewed : (i : ℕ) → i < l.count → Viewed (spiral_in_element l i) × Viewed (spiral_out_element l i)
    unfolding Viewed
    spiral_viewed i h =
        let entry : suc i - 1 ≡ i = omega arith in
        (λ z. rw entry (spirals i h (nat_abs z)), λ z. rw entry (spirals i h (nat_abs z)))

    either : (t : Bool) (p q : Placed) → Viewed p.element → Viewed q.element → Viewed (cond t p q).element
    either true p q v w = v
    either false p q v w = w

    one_viewed : (along b : ℤ) (e : Element) (es : List Element) (last : Placed) → Viewed e → Viewed (holding along (placed_from (b +ℤ e.length) es) last).element
        → Viewed (holding along (placed_from b (e ∷ es)) last).element
    unfolding placed_from holding
    one_viewed along b e es last v w =
        either (holds along (record { element = e; begin = b })) (record { element = e; begin = b }) (holding along (placed_from (b +ℤ e.length) es) last) v w

    -- The element that holds a length is one of them.
    holding_viewed : (along : ℤ) (last : Placed) → Viewed last.element → (i k : ℕ) (b : ℤ) → i + k ≡ l.count
        → Viewed (holding along (placed_from b (elements_from l i k)) last).element
    unfolding elements_from placed_from holding
    holding_viewed along last v i zero b n = one_viewed along b (straight_element l i) [] last (straight_viewed i) v
    holding_viewed along last v i (suc k) b n =
        let spiral = spiral_viewed i (omega arith) in
        let rest = elements_from l (suc i) k in
        one_viewed along b (straight_element l i) (spiral_in_element l i ∷ arc_element l i ∷ spiral_out_element l i ∷ rest) last (straight_viewed i)
        (one_viewed along _ (spiral_in_element l i) (arc_element l i ∷ spiral_out_element l i ∷ rest) last spiral.0
        (one_viewed along _ (arc_element l i) (spiral_out_element l i ∷ rest) last (arc_viewed i)
        (one_viewed along _ (spiral_out_element l i) rest last spiral.1 (holding_viewed along last v (suc i) k _ (omega arith)))))

    under_viewed : (along : ℤ) → Viewed (element_under l along).element
    unfolding element_under placed_elements elements_of last_straight
    under_viewed along = holding_viewed along (last_straight l) (straight_viewed l.count) 0 l.count (pos 0) (omega arith)

    -- A peg, its offsets viewed so.
    abbrev viewed : PegValues → PegValues
    viewed v = record { kind = v.kind; number = v.number; length = v.length; offsets = view v.offsets }

    same_viewed : (along : ℤ) → viewed (peg_by l along) ≡ viewed (peg_by m along)
    unfolding peg_by Viewed
    same_viewed along =
        let p = element_under l along in
        (λ j. record { kind = p.element.kind; number = p.element.number; length = (peg_on l along p).length; offsets = under_viewed along (peg_on l along p).length j })
        ∙ ap (λ (q : Placed). viewed (peg_on m along q)) (same_under along)

  -- The side changes the sign of y alone: without it the pegs are the same.
  pub same_but_side : (along : ℤ) → unsided (peg_by l along) ≡ unsided (peg_by m along)
  same_but_side along =
      same_viewed without_side
      (λ i h z. rw (alike.radius i h, alike.spiral i h) (λ j. record { x = offset_x (curve_at m i).radius (curve_at m i).spiral z; y = pos (either_side (curve_at l i).left (curve_at m i).left (offset_y (curve_at m i).radius (curve_at m i).spiral z) j) }))
      along

  -- Where the sides of the curves are the same too, so is the answer.
  pub same_pegs : ((i : ℕ) → i < l.count → (curve_at l i).left ≡ (curve_at m i).left) → (station : ℕ) → peg_reply l station ≡ peg_reply m station
  unfolding peg_reply reply
  same_pegs sides station =
      let pegs = same_viewed (λ (o : Offsets). o) (λ i h z. rw (alike.radius i h, alike.spiral i h, sides i h)) in
      λ j. reply_to (same_outcome station j) ((ap (peg_by l) (same_along station) ∙ pegs (along_line m station)) j)
