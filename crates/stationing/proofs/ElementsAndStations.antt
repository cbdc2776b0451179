-- A line's elements add up: each spiral in lies between TS and SC of its curve, each arc between SC and CS, each spiral out between CS and ST, each
-- straight between the ST before it and the next TS; so their ends in order are the row. Assumes nothing.
use mathlib.Core.Path.{◌≡◌, refl, sym, ◌∙◌, ap}
use mathlib.Core.List.{[], ◌∷◌, ◌++◌, map, append_assoc, map-append}
use Prim.Native.Nat.{ℕ, zero, suc, ◌+◌}
use native.Mathlib.Omega.{arith}
use lib.IntN.{ℤ, pos, ◌+ℤ◌, +ℤ_assoc, +ℤ_idr}
use Rattle.line.specs.declared.Line.{Line}
use Rattle.stationing.specs.Stations.{spiral_at, arc_at, straight_at, former_st, points_at, end_of, curve_stations, stations_of}
use Rattle.stationing.specs.LineElements.{straight_element, spiral_in_element, arc_element, spiral_out_element, elements_from, elements_of, total, line_length, placed_from, placed_elements, start_station, Span, span_of, straight_span, curve_spans, spans_of}

-- A length more, behind one that brings a to c.
onward : (a b x : ℤ) {c : ℤ} → a +ℤ b ≡ c → a +ℤ (b +ℤ x) ≡ c +ℤ x
onward a b x h = sym (+ℤ_assoc a b x) ∙ ap (λ (z : ℤ). z +ℤ x) h

module _ (line : Line) where
  -- Behind those of the first i curves, the elements from distance i on are what is left.
  spans_from : (i k : ℕ) (b : ℤ) → i + k ≡ line.count → start_station line +ℤ b ≡ former_st line i
      → curve_spans line i ++ map (span_of line) (placed_from b (elements_from line i k)) ≡ spans_of line
  unfolding elements_from placed_from spans_of end_of curve_spans points_at former_st
  spans_from i zero b n f =
      let all : i ≡ line.count = omega arith in
      let end = onward (start_station line) b (straight_at line i) f in
      (λ j. curve_spans line i ++ (record { element = straight_element line i; begin = f j; end = end j } ∷ []))
      ∙ (λ j. curve_spans line (all j) ++ (straight_span line (all j) (former_st line (all j) +ℤ straight_at line (all j)) ∷ []))
  spans_from i (suc k) b n f =
      let start = start_station line in
      let TS = b +ℤ straight_at line i in
      let SC = TS +ℤ spiral_at line i in
      let CS = SC +ℤ arc_at line i in
      let at_ts = onward start b (straight_at line i) f in
      let at_sc = onward start TS (spiral_at line i) at_ts in
      let at_cs = onward start SC (arc_at line i) at_sc in
      let at_st = onward start CS (spiral_at line i) at_cs in
      let rest = map (span_of line) (placed_from (CS +ℤ spiral_at line i) (elements_from line (suc i) k)) in
      (λ j. curve_spans line i
      ++ (record { element = straight_element line i; begin = f j; end = at_ts j }
      ∷ record { element = spiral_in_element line i; begin = at_ts j; end = at_sc j }
      ∷ record { element = arc_element line i; begin = at_sc j; end = at_cs j }
      ∷ record { element = spiral_out_element line i; begin = at_cs j; end = at_st j }
      ∷ rest))
      ∙ sym (append_assoc (curve_spans line i) _ rest)
      ∙ spans_from (suc i) k _ (omega arith) at_st

  -- Each element lies between the stations of its name.
  pub between_stations : map (span_of line) (placed_elements line) ≡ spans_of line
  unfolding placed_elements elements_of curve_spans former_st
  between_stations = spans_from 0 line.count (pos 0) (omega arith) (+ℤ_idr (start_station line))

  -- So their ends are the numbers of the row.
  curve_ends : (i : ℕ) → map (λ (s : Span). s.end) (curve_spans line i) ≡ curve_stations line i
  unfolding curve_spans curve_stations
  curve_ends zero = refl
  curve_ends (suc i) =
      let at = points_at line i in
      map-append (λ (s : Span). s.end) (curve_spans line i) _ ∙ (λ j. curve_ends i j ++ (at.TS ∷ at.SC ∷ at.CS ∷ at.ST ∷ []))

  pub ends_are_stations : map (λ (s : Span). s.end) (map (span_of line) (placed_elements line)) ≡ stations_of line
  unfolding spans_of stations_of
  ends_are_stations =
      ap (map (λ (s : Span). s.end)) between_stations
      ∙ map-append (λ (s : Span). s.end) (curve_spans line line.count) _
      ∙ (λ j. curve_ends line.count j ++ (end_of line ∷ []))

  -- What the elements from distance i on add up to brings the ST before it to the end.
  total_from : (i k : ℕ) → i + k ≡ line.count → former_st line i +ℤ total (elements_from line i k) ≡ end_of line
  unfolding elements_from total end_of former_st
  total_from i zero n =
      let all : i ≡ line.count = omega arith in
      ap (λ (z : ℤ). former_st line i +ℤ z) (+ℤ_idr (straight_at line i)) ∙ (λ j. former_st line (all j) +ℤ straight_at line (all j))
  total_from i (suc k) n =
      let rest = total (elements_from line (suc i) k) in
      sym (+ℤ_assoc (former_st line i) (straight_at line i) _)
      ∙ sym (+ℤ_assoc (former_st line i +ℤ straight_at line i) (spiral_at line i) _)
      ∙ sym (+ℤ_assoc (former_st line i +ℤ straight_at line i +ℤ spiral_at line i) (arc_at line i) _)
      ∙ sym (+ℤ_assoc (former_st line i +ℤ straight_at line i +ℤ spiral_at line i +ℤ arc_at line i) (spiral_at line i) rest)
      ∙ total_from (suc i) k (omega arith)

  -- The line's length brings the start to the end.
  pub length_to_end : start_station line +ℤ line_length line ≡ end_of line
  unfolding line_length elements_of former_st
  length_to_end = total_from 0 line.count (omega arith)
