-- The name and the curve of a row's number. Assumes nothing.
use mathlib.Core.Path.{◌≡◌, refl}
use Prim.Native.Nat.{ℕ, zero, suc, ◌+◌, ◌/◌, ◌%◌}
use native.Mathlib.Omega.{arith}
use lib.ListN.{length}
use borrow.Author.Tests.{eq-eqb, ne_eqb}
use Rattle.report.specs.Numbers.{ascii}
use Rattle.report.specs.Text.{turn_name, point_name, point_curve}

pub name_length : (turn : ℕ) → length (turn_name turn) ≡ 2
unfolding turn_name ascii
name_length zero = refl
name_length (suc zero) = refl
name_length (suc (suc zero)) = refl
name_length (suc (suc (suc turn))) = refl

module _ (count i : ℕ) where
  -- The last number is the end.
  pub end_name : i + 1 ≡ count → point_name count i ≡ ascii "END"
  unfolding point_name
  end_name e = rw (eq-eqb (suc i) count (omega (arith, e))) refl

  pub end_curve : i + 1 ≡ count → point_curve count i ≡ 0
  unfolding point_curve
  end_curve e = rw (eq-eqb (suc i) count (omega (arith, e))) refl

  -- Those before it are the points of curves.
  pub point_name_lem : (i + 1 ≡ count → ⊥) → point_name count i ≡ turn_name (i % 4)
  unfolding point_name
  point_name_lem n = rw (ne_eqb (suc i) count (λ e. n (omega (arith, e)))) refl

  pub point_curve_lem : (i + 1 ≡ count → ⊥) → point_curve count i ≡ suc (i / 4)
  unfolding point_curve
  point_curve_lem n = rw (ne_eqb (suc i) count (λ e. n (omega (arith, e)))) refl
