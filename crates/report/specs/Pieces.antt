-- What the private steps of `report` promise: a piece of text put into the caller's bytes.
use Rattle.std.specs.Prelude.{◌≡◌, List, ◌++◌, ℕ, ◌+◌, length, take, drop}

-- `piece` stands from index `at` up to `end`; all else is as it was.
pub record Wrote (before after : List ℕ) (at end : ℕ) (piece : List ℕ) : Type 0 where
  pub ends : end ≡ at + length piece
  pub holds : after ≡ take at before ++ piece ++ drop end before
