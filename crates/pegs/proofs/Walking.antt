-- The walk over a line's elements, one after the other, to the one that holds a length: each step on natural numbers. Assumes nothing.
use mathlib.Core.Path.{◌≡◌, refl, sym, ◌∙◌, ap, subst}
use mathlib.Core.Bool.{true, false}
use mathlib.Core.List.{List, [], ◌∷◌}
use Prim.Native.Nat.{ℕ, zero, suc, ◌+◌, ◌-◌, ◌*◌, ◌≤◌, ◌<◌}
use native.Mathlib.Numerals.{add-one}
use native.Mathlib.Decide.{dec_lt}
use native.Mathlib.Omega.{arith}
use lib.IntN.{pos, ◌+ℤ◌, ◌-ℤ◌, +ℤ_idl}
use lib.Signed.{le_z}
use borrow.Author.Tests.{le-leb, lt-leb, le-ltb, lt-ltb}
use Rattle.numbers.proofs.Differences.{minus_le}
use Rattle.refusals.specs.Replying.{answered, declined, reply}
use Rattle.refusals.proofs.Replied.{passed_reply, refused_reply}
use Rattle.line.specs.declared.Line.{Line}
use Rattle.line.specs.Checks.{curve_at}
use Rattle.stationing.specs.declared.ElementKind.TheVariants.{Straight, SpiralIn, Arc, SpiralOut}
use Rattle.stationing.specs.Stations.{spiral_at, arc_at, straight_at}
use Rattle.stationing.specs.LineElements.{Element, straight_element, spiral_in_element, arc_element, spiral_out_element, elements_from, elements_of, total, line_length, Placed, placed_from, placed_elements}
use Rattle.stationing.proofs.Accepted.{Accepted}
use Rattle.pegs.specs.Pegs.{holds, last_straight, holding, element_under, PegValues, peg_on, peg_by, station_check}
use Rattle.pegs.specs.Steps.{plain_peg, spiral_peg, peg_in_curve}
use Rattle.pegs.proofs.ElementLengths.{total_is, Sum, lengths_from}

-- ---- one element: it holds the length, begins later, or has ended

module _ (along b l : ℕ) (e : Element) (is : e.length ≡ pos l) where
  pub first_held : b ≤ along → along < b + l → holds (pos along) (record { element = e; begin = pos b }) ≡ true
  unfolding holds
  first_held h k = rw (is, le-leb b along h, lt-ltb along (b + l) k)

  pub not_begun : along < b → holds (pos along) (record { element = e; begin = pos b }) ≡ false
  unfolding holds
  not_begun h = rw (lt-leb b along h)

  pub ended : b + l ≤ along → holds (pos along) (record { element = e; begin = pos b }) ≡ false
  unfolding holds
  ended h = rw (is, le-leb b along (omega arith), le-ltb along (b + l) h)

  module _ (es : List Element) (last : Placed) where
    pub held : b ≤ along → along < b + l → holding (pos along) (placed_from (pos b) (e ∷ es)) last ≡ record { element = e; begin = pos b }
    unfolding placed_from holding
    held h k = rw (first_held h k)

    pub gone_by : b + l ≤ along → holding (pos along) (placed_from (pos b) (e ∷ es)) last ≡ holding (pos along) (placed_from (pos (b + l)) es) last
    unfolding placed_from holding
    gone_by h = rw (ended h, is)

-- ---- the line

-- The elements from distance i on, where `curves` follow it, are what is left of the line: they begin at the length b, and the one under `along`
-- is among them.
pub record Reached (line : Line) (along i curves b : ℕ) : Type 0 where
  pub all : i + curves ≡ line.count
  pub under : element_under line (pos along) ≡ holding (pos along) (placed_from (pos b) (elements_from line i curves)) (last_straight line)
  pub left : line_length line ≡ pos b +ℤ total (elements_from line i curves)

-- The last straight begins where its length, s, is left of the line.
pub last_begins : (line : Line) (b s : ℕ) → straight_at line line.count ≡ pos s → line_length line ≡ pos (b + (s + 0))
    → last_straight line ≡ record { element = straight_element line line.count; begin = pos b }
unfolding last_straight
last_begins line b s straight far =
    let at_b : line_length line -ℤ straight_at line line.count ≡ pos b =
    (λ j. far j -ℤ straight j) ∙ minus_le (let h : s ≤ b + (s + 0) = omega arith in h) ∙ ap pos (omega arith) in
    rw at_b

-- A length lies on the line, and this is its peg.
pub record PegFound (line : Line) (along : ℕ) (peg : PegValues) : Type 0 where
  pub inside : le_z (pos along) (line_length line) ≡ true
  pub same : peg ≡ peg_by line (pos along)

module _ (line : Line) (ok : Accepted line) where
  module _ (along : ℕ) where
    pub from_start : Reached line along 0 line.count 0
    unfolding element_under placed_elements elements_of line_length
    from_start =
        record {
          all = omega arith;
          under = refl;
          left = sym (+ℤ_idl (total (elements_from line 0 line.count)));
        }

    -- The test of 17, where the line's length is known.
    not_beyond : (far : ℕ) → line_length line ≡ pos far → along ≤ far → le_z (pos along) (line_length line) ≡ true
    not_beyond far e h = rw (e, le-leb along far h)

    module _ (i b s : ℕ) (straight : pos s ≡ straight_at line i) where
      -- ---- on the straight of distance i

      straight_peg : {p : Placed} → b ≤ along → element_under line (pos along) ≡ p → p ≡ record { element = straight_element line i; begin = pos b }
          → plain_peg Straight i (along - b) ≡ peg_by line (pos along)
      unfolding peg_by
      straight_peg h e q = rw (e, q, minus_le h)

      -- What is left, the last straight or one with a curve behind it, reaches its end at least.
      pub on_straight : (k : ℕ) → Reached line along i k b → b ≤ along → along < b + s → PegFound line along (plain_peg Straight i (along - b))
      unfolding elements_from total spiral_at
      on_straight zero r h l =
          record {
            inside = not_beyond (b + (s + 0)) (r.left ∙ rw (← straight)) (omega arith);
            same = straight_peg h r.under (held along b s (straight_element line i) (sym straight) [] (last_straight line) h l);
          }
      on_straight (suc k) r h l =
          let d = ok.arc i (omega (arith, r.all)) in
          let L = 1000 * (curve_at line i).spiral in
          let rest = lengths_from line ok (suc i) k (omega (arith, r.all)) in
          record {
            inside = not_beyond (b + (s + (L + (d.value + (L + rest.sum))))) (r.left ∙ rw (← straight, d.same, total_is rest.lengths)) (omega arith);
            same = straight_peg h r.under (held along b s (straight_element line i) (sym straight) _ (last_straight line) h l);
          }

      -- ---- in the curve behind it

      module _ (k d : ℕ) (arc : pos d ≡ arc_at line i) (r : Reached line along i (suc k) b) where
        abbrev L : ℕ
        L = 1000 * (curve_at line i).spiral

        -- TS, by the length from the start.
        abbrev TS : ℕ
        TS = b + s

        -- Those behind the straight.
        abbrev curve : List Element
        curve = spiral_in_element line i ∷ arc_element line i ∷ spiral_out_element line i ∷ elements_from line (suc i) k

        behind_straight : TS ≤ along → element_under line (pos along) ≡ holding (pos along) (placed_from (pos TS) curve) (last_straight line)
        unfolding elements_from
        behind_straight h = r.under ∙ gone_by along b s (straight_element line i) (sym straight) _ (last_straight line) h

        -- What is left behind the curve.
        rest : Sum line (suc i) k
        rest = lengths_from line ok (suc i) k (omega (arith, r.all))

        whole_line : line_length line ≡ pos (b + (s + (L + (d + (L + rest.sum)))))
        unfolding elements_from total spiral_at
        whole_line = r.left ∙ rw (← straight, ← arc, total_is rest.lengths)

        -- The peg of the element that is under the length.
        under_peg : {p : Placed} {peg : PegValues} → element_under line (pos along) ≡ p → peg ≡ peg_on line (pos along) p → peg ≡ peg_by line (pos along)
        unfolding peg_by
        under_peg e q = q ∙ ap (peg_on line (pos along)) (sym e)

        -- The curve with the number i + 1 stands at entry i.
        entry : suc i - 1 ≡ i
        entry = omega arith

        module _ (h : TS ≤ along) where
          on_spiral_in : along < TS + L → spiral_peg SpiralIn (suc i) (curve_at line i) (along - TS) ≡ peg_by line (pos along)
          unfolding spiral_at
          on_spiral_in l =
              under_peg
              (behind_straight h ∙ held along TS L (spiral_in_element line i) refl _ (last_straight line) h l)
              (rw (minus_le h, entry))

          on_arc : TS + L ≤ along → along < TS + L + d → plain_peg Arc (suc i) (along - TS - L) ≡ peg_by line (pos along)
          unfolding spiral_at
          on_arc g l =
              let from_sc : along - TS - L ≡ along - (TS + L) = omega arith in
              under_peg
              (behind_straight h
              ∙ gone_by along TS L (spiral_in_element line i) refl _ (last_straight line) g
              ∙ held along (TS + L) d (arc_element line i) (sym arc) _ (last_straight line) g l)
              (rw (minus_le g, from_sc))

          on_spiral_out : TS + L + d ≤ along → along < TS + L + d + L
              → spiral_peg SpiralOut (suc i) (curve_at line i) (L + d + L - (along - TS)) ≡ peg_by line (pos along)
          unfolding spiral_at
          on_spiral_out g l =
              let back : TS + L + d + L - along ≡ L + d + L - (along - TS) = omega arith in
              under_peg
              (behind_straight h
              ∙ gone_by along TS L (spiral_in_element line i) refl _ (last_straight line) (omega arith)
              ∙ gone_by along (TS + L) d (arc_element line i) (sym arc) _ (last_straight line) g
              ∙ held along (TS + L + d) L (spiral_out_element line i) refl _ (last_straight line) g l)
              (rw (minus_le (let k : along ≤ TS + L + d + L = omega arith in k), back, entry))

        pub in_curve_lem : b + s ≤ along → along - (b + s) < 2000 * (curve_at line i).spiral + d
            → PegFound line along (peg_in_curve (suc i) (curve_at line i) d (along - (b + s)))
        unfolding peg_in_curve
        in_curve_lem h l =
            record {
              inside = not_beyond (b + (s + (L + (d + (L + rest.sum))))) whole_line (omega arith);
              same = by_part (dec_lt inside L) (dec_lt inside (L + d));
            }
          where
            inside : ℕ
            inside = along - (b + s)

            by_part : Dec (inside < L) → Dec (inside < L + d) → peg_in_curve (suc i) (curve_at line i) d inside ≡ peg_by line (pos along)
            by_part (yes p) q = rw (lt-ltb inside L p) (on_spiral_in h (omega arith))
            by_part (no p) (yes q) = rw (le-ltb inside L (omega arith), lt-ltb inside (L + d) q) (on_arc h (omega arith) (omega arith))
            by_part (no p) (no q) = rw (le-ltb inside L (omega arith), le-ltb inside (L + d) (omega arith)) (on_spiral_out h (omega arith) (omega arith))

        pub next_distance : b + s + (2000 * (curve_at line i).spiral + d) ≤ along → Reached line along (suc i) k (b + s + (2000 * (curve_at line i).spiral + d))
        unfolding spiral_at
        next_distance h =
            let far : b + s + L + d + L ≡ b + s + (2000 * (curve_at line i).spiral + d) = omega arith in
            let under =
            behind_straight (omega arith)
            ∙ gone_by along (b + s) L (spiral_in_element line i) refl _ (last_straight line) (omega arith)
            ∙ gone_by along (b + s + L) d (arc_element line i) (sym arc) _ (last_straight line) (omega arith)
            ∙ gone_by along (b + s + L + d) L (spiral_out_element line i) refl _ (last_straight line) (omega arith)
            ∙ ap (λ (n : ℕ). holding (pos along) (placed_from (pos n) (elements_from line (suc i) k)) (last_straight line)) far in
            record {
              all = omega (arith, r.all);
              under = under;
              left = whole_line ∙ rw (total_is rest.lengths) (ap pos (omega arith));
            }

    -- ---- on the last straight, and beyond it

    module _ (b s : ℕ) (straight : pos s ≡ straight_at line line.count) (r : Reached line along line.count 0 b) where
      line_ends : line_length line ≡ pos (b + (s + 0))
      unfolding elements_from total
      line_ends = r.left ∙ rw (← straight)

      pub on_last : b ≤ along → along ≤ b + s → PegFound line along (plain_peg Straight line.count (along - b))
      unfolding elements_from placed_from holding
      on_last h l =
          record {
            inside = not_beyond (b + (s + 0)) line_ends (omega arith);
            same = straight_peg line.count b s straight h r.under (by_end (dec_lt along (b + s)));
          }
        where
          last : Element
          last = straight_element line line.count

          by_end : Dec (along < b + s)
              → holding (pos along) (placed_from (pos b) (elements_from line line.count 0)) (last_straight line) ≡ record { element = straight_element line line.count; begin = pos b }
          by_end (yes k) = held along b s last (sym straight) [] (last_straight line) h k
          by_end (no k) = gone_by along b s last (sym straight) [] (last_straight line) (omega arith) ∙ last_begins line b s (sym straight) line_ends

      pub beyond : b + s < along → le_z (pos along) (line_length line) ≡ false
      beyond h = rw (line_ends, lt-leb along (b + (s + 0)) (omega arith))

    -- ---- the same, by the rest of the length behind what is reached

    found_reply : {peg : PegValues} → PegFound line along peg → answered peg ≡ reply (station_check line (pos along)) (peg_by line (pos along))
    unfolding station_check
    found_reply f =
        passed_reply (station_check line (pos along)) (peg_by line (pos along)) (rw (le-leb 0 along (omega arith), f.inside)) f.same

    module _ (rest : ℕ) (within : rest ≤ along) where
      back : along - (along - rest) ≡ rest
      back = omega arith

      module _ (i s : ℕ) (straight : pos s ≡ straight_at line i) where
        pub at_straight : (k : ℕ) → Reached line along i k (along - rest) → rest < s
            → answered (plain_peg Straight i rest) ≡ reply (station_check line (pos along)) (peg_by line (pos along))
        at_straight k r h =
            ap (λ (l : ℕ). answered (plain_peg Straight i l)) (sym back)
            ∙ found_reply (on_straight i (along - rest) s straight k r (omega arith) (omega arith))

        module _ (k d : ℕ) (arc : pos d ≡ arc_at line i) (r : Reached line along i (suc k) (along - rest)) (past : s ≤ rest) where
          pub at_curve : rest - s < 2000 * (curve_at line i).spiral + d
              → answered (peg_in_curve (i + 1) (curve_at line i) d (rest - s)) ≡ reply (station_check line (pos along)) (peg_by line (pos along))
          at_curve h =
              let inside : along - (along - rest + s) ≡ rest - s = omega arith in
              (λ j. answered (peg_in_curve (add-one i j) (curve_at line i) d (sym inside j)))
              ∙ found_reply (in_curve_lem i (along - rest) s straight k d arc r (omega arith) (omega arith))

          pub at_next : 2000 * (curve_at line i).spiral + d ≤ rest - s
              → Reached line along (i + 1) k (along - (rest - s - (2000 * (curve_at line i).spiral + d)))
          at_next h =
              let begins : along - rest + s + (2000 * (curve_at line i).spiral + d) ≡ along - (rest - s - (2000 * (curve_at line i).spiral + d)) = omega arith in
              rw (add-one i) (subst (Reached line along (suc i) k) begins (next_distance i (along - rest) s straight k d arc r (omega arith)))

      module _ (s : ℕ) (straight : pos s ≡ straight_at line line.count) (r : Reached line along line.count 0 (along - rest)) where
        pub at_last : rest ≤ s → answered (plain_peg Straight line.count rest) ≡ reply (station_check line (pos along)) (peg_by line (pos along))
        at_last h =
            ap (λ (l : ℕ). answered (plain_peg Straight line.count l)) (sym back)
            ∙ found_reply (on_last (along - rest) s straight r (omega arith) (omega arith))

        pub at_beyond : s < rest → declined 17 0 ≡ reply (station_check line (pos along)) (peg_by line (pos along))
        unfolding station_check
        at_beyond h =
            refused_reply (station_check line (pos along)) (peg_by line (pos along))
            (rw (le-leb 0 along (omega arith), beyond (along - rest) s straight r (omega arith)))
