-- The refusal table, what answers say, and replies and buffers of a call that writes 1 and 2, by computation. Assumes nothing.
use mathlib.Core.Path.{◌≡◌, refl}
use mathlib.Core.Bool.{false}
use mathlib.Core.List.{List, [], ◌∷◌, map}
use Prim.Native.Nat.{ℕ}
use Rattle.std.specs.Prelude.{Ok, Err}
use Rattle.refusals.specs.declared.Refusal.{Refusal}
use Rattle.refusals.specs.declared.Refusal.TheVariants.{Truncated, Edition, CurveCount, Speed, Crossfall, Start, Trailing, Distance, Deflection, Radius, Spiral, LeastRadius, LeastSpiral, ShortArc, ShortStraight, SmallBuffer, Station, Coordinate, NoTurn, WideTurn, VerticalCurve, Grade, Sight, FarStart, Thousandth}
use Rattle.refusals.specs.Table.{number_of, place_of}
use Rattle.refusals.specs.Outcomes.{refused, outcome_of}
use Rattle.refusals.specs.Order.{unchecked, check}
use Rattle.refusals.specs.Filling.{filled, unfilled, fill_reply_of, with_room, fill}

-- Document 01's table from its first row to its last, and document 02's numbers; a place is 20 more than the number.
abbrev table : List Refusal
table =
    Truncated ∷ Edition ∷ CurveCount ∷ Speed ∷ Crossfall ∷ Start ∷ Trailing
    ∷ Distance 28 ∷ Deflection 29 ∷ Radius 30 ∷ Spiral 31 ∷ LeastRadius 32 ∷ LeastSpiral 33 ∷ ShortArc 34 ∷ ShortStraight 35
    ∷ SmallBuffer ∷ Station ∷ Coordinate ∷ NoTurn 39 ∷ WideTurn 40 ∷ VerticalCurve 41 ∷ Grade 42 ∷ Sight 43 ∷ FarStart ∷ Thousandth ∷ []

pub record Examples : Type 0 where
  pub numbers : map number_of table ≡ 1 ∷ 2 ∷ 3 ∷ 4 ∷ 5 ∷ 6 ∷ 7 ∷ 8 ∷ 9 ∷ 10 ∷ 11 ∷ 12 ∷ 13 ∷ 14 ∷ 15 ∷ 16 ∷ 17 ∷ 18 ∷ 19 ∷ 20 ∷ 21 ∷ 22 ∷ 23 ∷ 24 ∷ 25 ∷ []
  pub places : map place_of table ≡ 0 ∷ 0 ∷ 0 ∷ 0 ∷ 0 ∷ 0 ∷ 0 ∷ 28 ∷ 29 ∷ 30 ∷ 31 ∷ 32 ∷ 33 ∷ 34 ∷ 35 ∷ 0 ∷ 0 ∷ 0 ∷ 39 ∷ 40 ∷ 41 ∷ 42 ∷ 43 ∷ 0 ∷ 0 ∷ []
  pub verdict_says : outcome_of {T = Unit {0}} (Err (Distance 64)) ≡ refused 8 64
  pub count_says : fill_reply_of (Ok 257) ≡ filled 257
  pub refusal_says : fill_reply_of (Err (Distance 64)) ≡ unfilled 8 64
  pub exact : (fill {A = ℕ} unchecked (1 ∷ 2 ∷ []) (7 ∷ 8 ∷ [])).reply ≡ filled 2
  pub too_small : (fill {A = ℕ} unchecked (1 ∷ 2 ∷ []) (7 ∷ [])).reply ≡ unfilled 16 0
  pub sixteen_last : (fill {A = ℕ} (check false 14 3) (1 ∷ 2 ∷ []) (7 ∷ [])).reply ≡ unfilled 14 3
  pub remainder : (fill {A = ℕ} unchecked (1 ∷ 2 ∷ []) (7 ∷ 8 ∷ 9 ∷ [])).buffer ≡ 1 ∷ 2 ∷ 9 ∷ []
  pub as_lent : (fill {A = ℕ} unchecked (1 ∷ 2 ∷ []) (7 ∷ [])).buffer ≡ 7 ∷ []
  pub after_a_refusal : (fill {A = ℕ} (check false 14 3) (1 ∷ 2 ∷ []) (7 ∷ 8 ∷ 9 ∷ [])).buffer ≡ 7 ∷ 8 ∷ 9 ∷ []

pub examples : Examples
unfolding with_room fill
examples =
    record {
      numbers = refl;
      places = refl;
      verdict_says = refl;
      count_says = refl;
      refusal_says = refl;
      exact = refl;
      too_small = refl;
      sixteen_last = refl;
      remainder = refl;
      as_lent = refl;
      after_a_refusal = refl;
    }
