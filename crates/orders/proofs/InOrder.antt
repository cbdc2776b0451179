-- The stations of a line that passes 3 to 15 never go back, from the start to the end, and each fits 64 bits. Assumes nothing.
use mathlib.Core.Path.{◌≡◌, refl, ◌∙◌, ap}
use mathlib.Core.List.{List, [], ◌∷◌, ◌++◌, map, map-append}
use Prim.Native.Nat.{ℕ, zero, suc, ◌+◌, ◌*◌, ◌<◌, ◌≤◌}
use native.Mathlib.Omega.{arith}
use lib.IntN.{ℤ, pos, nat_abs}
use lib.ListN.{get_or}
use Rattle.numbers.specs.Whole.{Between}
use Rattle.numbers.proofs.Ranges.{widen, sum_between}
use Rattle.refusals.specs.Outcomes.{passed}
use Rattle.refusals.specs.Order.{outcome}
use Rattle.line.specs.declared.Line.{Line}
use Rattle.stationing.specs.Stations.{points_at, former_st, end_of, curve_stations, stations_of, station_row}
use Rattle.stationing.specs.Answer.{alignment_checks}
use Rattle.orders.specs.Order.{Ascent, done, up}
use Rattle.stationing.proofs.RowSteps.{numbers_to}
use Rattle.stationing.proofs.Accepted.{Accepted, accepted}
use Rattle.stationing.proofs.FormerST.{spiral_between, former_between}

-- One ascent after the other.
joined : {a b c : ℕ} {xs ys : List ℕ} → Ascent a xs b → Ascent b ys c → Ascent a (xs ++ ys) c
joined done t = t
joined (up h s) t = up h (joined s t)

-- No number is above the last.
last_most : {a b : ℕ} {xs : List ℕ} → Ascent a xs b → (a ≤ b) × ((k : ℕ) → get_or xs k 0 ≤ b)
last_most done = (omega arith, λ k. omega arith)
last_most (up {x} {b} {xs} h s) =
    let t = last_most s in
    (omega (arith, h, t.0), λ k. each k t.0 t.1)
  where
    each : (k : ℕ) → x ≤ b → ((k : ℕ) → get_or xs k 0 ≤ b) → get_or (x ∷ xs) k 0 ≤ b
    each zero p q = p
    each (suc k) p q = q k

-- A station and a length after it.
farther : (a b : ℕ) {c : ℕ} {xs : List ℕ} → Ascent (a + b) xs c → Ascent a ((a + b) ∷ xs) c
farther a b t = up {a = a} {x = a + b} (omega arith) t

-- The four stations of the curve at entry i.
abbrev pub four_at : Line → ℕ → List ℤ
four_at line i = (points_at line i).TS ∷ (points_at line i).SC ∷ (points_at line i).CS ∷ (points_at line i).ST ∷ []

module _ (line : Line) (ok : Accepted line) where
  end_between : Between (end_of line) 0 6068000000000
  unfolding end_of
  end_between =
      let few = ok.in_range.few in
      widen (sum_between (former_between line ok line.count (omega arith)) (ok.straight line.count (omega arith))) (omega arith) (omega arith)

  module _ (i : ℕ) (h : i < line.count) where
    four_exact : map pos (map nat_abs (four_at line i)) ≡ four_at line i
    unfolding points_at
    four_exact =
        rw ((former_between line ok i (omega arith)).same, (ok.straight i (omega arith)).same, (spiral_between line ok i h).same, (ok.arc i h).same)

    four_ascent : Ascent (nat_abs (former_st line i)) (map nat_abs (four_at line i)) (nat_abs (former_st line (suc i)))
    unfolding points_at former_st
    four_ascent =
        rw ((former_between line ok i (omega arith)).same, (ok.straight i (omega arith)).same, (spiral_between line ok i h).same, (ok.arc i h).same)
        (farther _ _ (farther _ _ (farther _ _ (farther _ _ done))))

  numbers_exact : (i : ℕ) → i ≤ line.count → map pos (numbers_to line i) ≡ curve_stations line i
  unfolding curve_stations
  numbers_exact zero h = refl
  numbers_exact (suc i) h =
      ap (map pos) (map-append nat_abs (curve_stations line i) (four_at line i))
      ∙ map-append pos (numbers_to line i) (map nat_abs (four_at line i))
      ∙ (λ j. numbers_exact i (omega arith) j ++ four_exact i h j)

  numbers_ascent : (i : ℕ) → i ≤ line.count → Ascent (1000 * line.start) (numbers_to line i) (nat_abs (former_st line i))
  unfolding curve_stations former_st
  numbers_ascent zero h = done
  numbers_ascent (suc i) h =
      rw (map-append nat_abs (curve_stations line i) (four_at line i)) (joined (numbers_ascent i (omega arith)) (four_ascent i h))

  end_ascent : Ascent (nat_abs (former_st line line.count)) (nat_abs (end_of line) ∷ []) (nat_abs (end_of line))
  unfolding end_of
  end_ascent =
      rw ((former_between line ok line.count (omega arith)).same, (ok.straight line.count (omega arith)).same) (farther _ _ done)

-- The row's numbers are the stations themselves, which are not below zero; none is below the one before it; and none is above 6,068 km.
pub record InOrder (line : Line) : Type 0 where
  pub exact : map pos (station_row line) ≡ stations_of line
  pub never_back : Ascent (1000 * line.start) (station_row line) (nat_abs (end_of line))
  pub most : (k : ℕ) → get_or (station_row line) k 0 ≤ 6068000000000

pub in_order : (line : Line) → outcome (alignment_checks line) ≡ passed → InOrder line
unfolding station_row stations_of
in_order line e = record { exact = exact; never_back = ascent; most = λ k. omega (arith, (last_most ascent).1 k, end_most) }
  where
    ok : Accepted line
    ok = accepted line e

    curves : List ℤ
    curves = curve_stations line line.count

    end : Between (end_of line) 0 6068000000000
    end = end_between line ok

    end_exact : pos (nat_abs (end_of line)) ≡ end_of line
    end_exact = rw end.same

    exact : map pos (map nat_abs (curves ++ (end_of line ∷ []))) ≡ curves ++ (end_of line ∷ [])
    exact =
        ap (map pos) (map-append nat_abs curves (end_of line ∷ []))
        ∙ map-append pos (map nat_abs curves) (nat_abs (end_of line) ∷ [])
        ∙ (λ j. numbers_exact line ok line.count (omega arith) j ++ (end_exact j ∷ []))

    ascent : Ascent (1000 * line.start) (map nat_abs (curves ++ (end_of line ∷ []))) (nat_abs (end_of line))
    ascent =
        rw (map-append nat_abs curves (end_of line ∷ []))
        (joined (numbers_ascent line ok line.count (omega arith)) (end_ascent line ok))

    end_most : nat_abs (end_of line) ≤ 6068000000000
    end_most = rw end.same end.high
