-- The call for one curve's elements (document 01, "Order" and "Working rule"): what is answered for any A, R, L.
use Rattle.std.specs.Prelude.{ℕ, ℤ, pos, Result}
use Rattle.std.specs.Int.Signed.{le_z}
use Rattle.refusals.specs.declared.Refusal.{Refusal}
use Rattle.refusals.specs.Order.{Checks, check, ◌⨾◌}
use Rattle.refusals.specs.Replying.{Reply, reply_by, reply}
use Rattle.line.specs.Checks.{curve_checks}
use Rattle.elements.specs.declared.Elements.{Elements}
use Rattle.elements.specs.WorkingRule.{spiral_x, spiral_y, centre_of, shift_of, arc_of, tangent_of}

-- "The element call returns X, Y, k, p, D, TT.", in µm
pub record Values : Type 0 where
  pub X : ℤ
  pub Y : ℤ
  pub k : ℤ
  pub p : ℤ
  pub D : ℤ
  pub TT : ℤ

-- Those of an answer's elements.
abbrev pub values_of : Elements → Values
values_of e =
    record {
      X = pos e.x;
      Y = pos e.y;
      k = pos e.centre;
      p = pos e.shift;
      D = pos e.arc;
      TT = pos e.tangent;
    }

-- What each case of the call's answer says.
abbrev pub reply_of : Result Elements Refusal → Reply Values
reply_of r = reply_by values_of r

-- The six values by the working rule.
unfoldable pub values_by : ℕ → ℕ → ℕ → Values
values_by A R L =
    record {
      X = spiral_x R L;
      Y = spiral_y R L;
      k = centre_of R L;
      p = shift_of R L;
      D = arc_of A R L;
      TT = tangent_of A R L;
    }

-- 14: "arc D under 1,000 µm"
unfoldable pub arc_check : ℕ → ℕ → ℕ → ℕ → Checks
arc_check A R L place = check (le_z (pos 1000) (arc_of A R L)) 14 place

-- "checks 9, 10, 11, 14 with place 0"
unfoldable pub element_checks : ℕ → ℕ → ℕ → Checks
element_checks A R L = curve_checks A R L 0 ⨾ arc_check A R L 0

-- What the call answers.
unfoldable pub element_reply : ℕ → ℕ → ℕ → Reply Values
element_reply A R L = reply (element_checks A R L) (values_by A R L)
