-- The row of stations, curve by curve: what is stored, and that it fits 64 bits. Assumes nothing.
use mathlib.Core.Path.{◌≡◌, sym, ◌∙◌, ap}
use mathlib.Core.List.{List, [], ◌∷◌, ◌++◌, map, map-append}
use Prim.Native.Nat.{ℕ, zero, suc, ◌+◌, ◌*◌, ◌≤◌}
use native.Mathlib.Numerals.{add-one}
use native.Mathlib.Omega.{arith}
use lib.IntN.{pos, nat_abs, ◌+ℤ◌}
use lib.ListN.{length, take, drop, get_or, set, length-append}
use lib.Seq.{set_at, take_at, drop_at, drop-cons, drop-drop, append_snoc}
use Rattle.line.specs.declared.Line.{Line}
use Rattle.stationing.specs.Stations.{spiral_at, arc_at, straight_at, former_st, points_at, end_of, curve_stations, stations_of, station_row}
use Rattle.stationing.specs.Answer.{station_count}
use Rattle.stationing.specs.Arrays.{four_from}

-- The numbers of the first i curves.
abbrev pub numbers_to : Line → ℕ → List ℕ
numbers_to line i = map nat_abs (curve_stations line i)

pub numbers_length : (line : Line) (i : ℕ) → length (numbers_to line i) ≡ 4 * i
unfolding curve_stations
numbers_length line zero = omega arith
numbers_length line (suc i) =
    ap length (map-append nat_abs (curve_stations line i) _) ∙ length-append (numbers_to line i) _ ∙ omega (arith, numbers_length line i)

module _ (line : Line) (i : ℕ) {former straight spiral arc : ℕ} (f : pos former ≡ former_st line i) (s : pos straight ≡ straight_at line i) where
  -- The next ST, and the four numbers of a curve.
  module _ (l : pos spiral ≡ spiral_at line i) (d : pos arc ≡ arc_at line i) where
    pub next_st : {st : ℕ} → st ≡ former + straight + spiral + arc + spiral → pos st ≡ former_st line (i + 1)
    unfolding former_st
    next_st e = ap pos e ∙ (λ j. f j +ℤ s j +ℤ l j +ℤ d j +ℤ l j) ∙ simp add-one

    four_numbers : four_from former straight spiral arc
        ≡ map nat_abs ((points_at line i).TS ∷ (points_at line i).SC ∷ (points_at line i).CS ∷ (points_at line i).ST ∷ [])
    unfolding points_at
    four_numbers =
        λ j. map nat_abs
        ((f j +ℤ s j) ∷ (f j +ℤ s j +ℤ l j) ∷ (f j +ℤ s j +ℤ l j +ℤ d j) ∷ (f j +ℤ s j +ℤ l j +ℤ d j +ℤ l j) ∷ [])

    -- One curve more in the row.
    pub curve_stored : (row₀ row row' : List ℕ) → 4 * i + 4 ≤ length row₀ → row ≡ numbers_to line i ++ drop (4 * i) row₀
        → row' ≡ take (4 * i) row ++ four_from former straight spiral arc ++ drop (4 * i + 4) row
        → row' ≡ numbers_to line (i + 1) ++ drop (4 * (i + 1)) row₀
    unfolding curve_stations
    curve_stored row₀ row row' h e q =
        let n = numbers_length line i in
        let four = map nat_abs ((points_at line i).TS ∷ (points_at line i).SC ∷ (points_at line i).CS ∷ (points_at line i).ST ∷ []) in
        let t : take (4 * i) row ≡ numbers_to line i = ap (take (4 * i)) e ∙ take_at (numbers_to line i) _ (4 * i) n in
        let d : drop (4 * i) row ≡ drop (4 * i) row₀ = ap (drop (4 * i)) e ∙ drop_at (numbers_to line i) _ (4 * i) n in
        let d' : drop (4 * i + 4) row ≡ drop (4 * i + 4) row₀ =
        sym (drop-drop 4 (4 * i) row) ∙ ap (drop 4) d ∙ drop-drop 4 (4 * i) row₀ in
        let m : 4 * (i + 1) ≡ 4 * i + 4 = omega arith in
        let all : numbers_to line (suc i) ≡ numbers_to line i ++ four = map-append nat_abs (curve_stations line i) _ in
        q ∙ (λ j. t j ++ four_numbers j ++ d' j) ∙ sym (rw (m, add-one i, all))

-- The end, after the last curve.
pub end_stored : (line : Line) {station straight : ℕ} → pos station ≡ former_st line line.count → pos straight ≡ straight_at line line.count
    → (row₀ row : List ℕ) → station_count line ≤ length row₀ → row ≡ numbers_to line line.count ++ drop (4 * line.count) row₀
    → set row (4 * line.count) (station + straight) ≡ station_row line ++ drop (station_count line) row₀
unfolding station_row stations_of end_of
end_stored line {station} {straight} f s row₀ row h e =
    let n = 4 * line.count in
    let front = numbers_to line line.count in
    let rest = drop (station_count line) row₀ in
    let next : drop n row₀ ≡ get_or row₀ n 0 ∷ rest = drop-cons row₀ n 0 (omega arith) ∙ rw (add-one n) in
    let end : station + straight ≡ nat_abs (former_st line line.count +ℤ straight_at line line.count) = λ j. nat_abs (f j +ℤ s j) in
    ap (λ (r : List ℕ). set r n (station + straight)) (e ∙ ap (λ (r : List ℕ). front ++ r) next)
    ∙ set_at front _ rest _ n (numbers_length line line.count)
    ∙ sym (append_snoc front (station + straight) rest)
    ∙ (λ j. front ++ (end j ∷ []) ++ rest)
    ∙ ap (λ (r : List ℕ). r ++ rest) (sym (map-append nat_abs (curve_stations line line.count) _))
