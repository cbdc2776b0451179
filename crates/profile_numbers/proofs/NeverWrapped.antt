-- No number is wrapped: where the checks pass, each field is the number that was given for it. Assumes nothing.
use mathlib.Core.Path.{◌≡◌, refl, ◌∙◌, ap}
use mathlib.Core.List.{List}
use Prim.Native.Nat.{ℕ, suc, ◌+◌, ◌*◌, ◌≤◌, ◌<◌}
use native.Mathlib.Omega.{arith}
use lib.IntN.{ℤ, pos, negsuc}
use Rattle.refusals.specs.Outcomes.{passed}
use Rattle.refusals.specs.Order.{outcome}
use Rattle.refusals.proofs.Joining.{passed_left, passed_right}
use Rattle.line.proofs.Entries.{entries_get}
use Rattle.profile.specs.declared.Vertex.{Vertex}
use Rattle.profile.specs.Vertices.{blank_vertex, station_of, grade_of, length_of}
use Rattle.profile.specs.Checks.{range_checks, profile_checks, height_checks}
use Rattle.profile.specs.Checked.{ProfileInRange}
use Rattle.profile.proofs.InRange.{profile_in_range}
use Rattle.profile_numbers.specs.Numbers.{vertex_count, number_at, unsigned, vertex_of, profile_of, count_check, numbers_checks}
use Rattle.profile_numbers.specs.Fields.{FieldsAre}

-- A number whose field is in range is its field.
itself : (z : ℤ) → unsigned z ≤ 200000000 → pos (unsigned z) ≡ z
unfolding unsigned
itself (pos n) h = refl
itself (negsuc n) h = absurd (omega arith)

module _ (numbers : List ℤ) (station : ℕ) (h : outcome (numbers_checks numbers station) ≡ passed) where
  ranged : ProfileInRange (profile_of numbers)
  unfolding numbers_checks height_checks profile_checks
  ranged =
      let p = profile_of numbers in
      profile_in_range p
      (passed_left (outcome (range_checks p)) _ (passed_left (outcome (profile_checks p)) _ (passed_right (outcome (count_check numbers)) _ h)))

  pub fields_are : FieldsAre numbers (profile_of numbers)
  unfolding profile_of station_of grade_of length_of
  fields_are =
      let at = λ (i : ℕ) (more : i < vertex_count numbers). entries_get 32 (vertex_count numbers) i (vertex_of numbers) blank_vertex blank_vertex more ranged.few in
      record {
        speed = itself (number_at numbers 0) (omega (arith, ranged.speed_most));
        start = itself (number_at numbers 1) (ranged.near 0 (omega arith));
        height = refl;
        grade = refl;
        station = λ i more.
            let e = ap (λ (v : Vertex). v.station) (at i more) in
            ap pos e ∙ itself (number_at numbers (4 + 3 * i)) (omega (arith, e, ranged.near (suc i) more));
        outgoing = λ i more. ap (λ (v : Vertex). v.grade) (at i more);
        length = λ i more.
            let e = ap (λ (v : Vertex). v.length) (at i more) in
            ap pos e ∙ itself (number_at numbers (4 + 3 * i + 2)) (omega (arith, e, ranged.most i more));
      }
