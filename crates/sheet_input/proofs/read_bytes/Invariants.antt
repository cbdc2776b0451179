-- `read_bytes` is safe and ends. Assumes nothing.
use Rattle.std.proofs.Common.{length, ◌-◌, ◌≤◌, ◌≡◌}
use Rattle.sheet_input.proofs.read_bytes.Given as goal

-- The size counts bytes of the buffer, whose length stays.
abbrev pub invariant-loop-size : goal.invariant-loop-size
invariant-loop-size g l = (l.size ≤ length l.bytes) × (length l.bytes ≡ length l.initial.bytes)

-- Each turn but the last reads a byte or more.
abbrev pub decreases-loop-size : goal.decreases-loop-size
decreases-loop-size g l = length l.bytes - l.size
