-- The reader refuses with 1 to 11 alone, at places up to n. Assumes nothing.
use mathlib.Core.List.{List}
use Prim.Native.Nat.{ℕ}
use native.Mathlib.Omega.{arith}
use Rattle.refusals.proofs.Numbers.{Refuses, wider}
use Rattle.line.specs.Checks.{head_checks, body_checks}
use Rattle.line.proofs.Numbers.{head_numbers_lem, body_numbers}
use Rattle.packed_sheet.specs.declared.Edition.{Edition}
use Rattle.packed_sheet.specs.Reading.{head_of, count_of, line_of, size_checks, frame_checks, read_checks_as, edition_of, read_checks}

module _ (E : Edition) (s : List ℕ) where
  frame_numbers : Refuses 1 11 (count_of E s) (frame_checks E s)
  unfolding frame_checks size_checks
  frame_numbers =
      let head = head_of E s in
      let fields = head_numbers_lem (count_of E s) E.greatest head.count head.speed head.crossfall head.start in
      let size : Refuses 1 11 (count_of E s) (size_checks E s (count_of E s)) = ((omega arith, omega arith, omega arith), λ _. (omega arith, omega arith, omega arith)) in
      ((omega arith, omega arith, omega arith), λ _. ((omega arith, omega arith, omega arith), λ _. (wider (head_checks E.greatest head.count head.speed head.crossfall head.start) fields (omega arith) (omega arith) (omega arith), λ _. size)))

  pub read_as_numbers : Refuses 1 11 (count_of E s) (read_checks_as E s)
  unfolding read_checks_as
  read_as_numbers =
      let body = body_numbers (count_of E s) (line_of E s) (count_of E s) (omega arith) in
      (frame_numbers, λ _. wider (body_checks (line_of E s) (count_of E s)) body (omega arith) (omega arith) (omega arith))

pub read_numbers : (s : List ℕ) → Refuses 1 11 (count_of (edition_of s) s) (read_checks s)
read_numbers s = read_as_numbers (edition_of s) s
