-- What a call of the library for C and Rust returns, over document 01's "Refusal table".
use Rattle.std.specs.Prelude.{ℕ, ◌+◌, ◌*◌, ◌^◌}
use Rattle.refusals.specs.Filling.{FillReply, filled, unfilled}

-- A reply as one number, as `include/pokyandi.h` says: a count as it is; "a refusal returns its number and a place", the number from
-- bit 32 on, the place below.
unfoldable pub answer_number : FillReply → ℕ
answer_number (filled count) = count
answer_number (unfilled number place) = number * 2 ^ 32 + place
