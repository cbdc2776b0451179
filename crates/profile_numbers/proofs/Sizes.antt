-- What the count of numbers says of the whole call: the call refuses where it does, and answers as for the profile of the numbers where it passes.
-- Assumes nothing.
use mathlib.Core.Path.{◌≡◌, ◌∙◌, ap}
use mathlib.Core.Logic.{⊎_elim}
use mathlib.Core.List.{List}
use Prim.Native.Nat.{ℕ}
use lib.Dec.{leb}
use lib.IntN.{ℤ}
use Rattle.refusals.specs.Outcomes.{passed, refused, need}
use Rattle.refusals.specs.Order.{outcome}
use Rattle.refusals.specs.Replying.{Reply, reply}
use Rattle.refusals.proofs.Joining.{passed_left, refused_by}
use Rattle.refusals.proofs.Replied.{first_passed}
use Rattle.profile.specs.declared.Profile.{Profile}
use Rattle.profile.specs.Checks.{range_checks, profile_checks, height_checks}
use Rattle.profile.specs.HeightAt.{height_by, height_reply}
use Rattle.profile_numbers.specs.Numbers.{vertex_count, profile_of, count_check, numbers_checks, size_checks}

module _ (numbers : List ℤ) (station : ℕ) where
  pub size_refused : {n p : ℕ} → outcome (size_checks numbers) ≡ refused n p → outcome (numbers_checks numbers station) ≡ refused n p
  unfolding size_checks numbers_checks height_checks profile_checks range_checks profile_of
  size_refused h =
      ⊎_elim (λ e. rw e) (λ q. rw (q.0, q.1)) (refused_by (outcome (count_check numbers)) (need (leb (vertex_count numbers) 32) 3 0) h)

  pub size_passed : {answer : Reply ℤ} {p : Profile} → outcome (size_checks numbers) ≡ passed → p ≡ profile_of numbers → answer ≡ height_reply p station
      → answer ≡ reply (numbers_checks numbers station) (height_by (profile_of numbers) station)
  unfolding size_checks numbers_checks height_reply
  size_passed h e told =
      told ∙ ap (λ (p : Profile). height_reply p station) e
      ∙ first_passed (count_check numbers) (height_checks (profile_of numbers) station) (height_by (profile_of numbers) station)
      (passed_left (outcome (count_check numbers)) _ h)
