-- `series`: after term j the sum is the definition's. Where the last term was added, the next one, which is no greater, is taken from it.
-- Assumes nothing.
use mathlib.Core.Path.{◌≡◌}
use Prim.Native.Nat.{◌+◌, ◌-◌, ◌*◌, ◌%◌, ◌≤◌}
use lib.IntN.{pos}
use lib.ListN.{get_or}
use Rattle.elements.specs.WorkingRule.{term, alternating}
use Rattle.elements.proofs.series.series.Given as goal

abbrev pub invariant-loop-j : goal.invariant-loop-j
invariant-loop-j l =
    record {
      term_is : l.term ≡ term (λ i. get_or l.divisors (i - 1) 0) l.first l.z l.j;
      sum_is : pos (l.added - l.taken) ≡ alternating (term (λ i. get_or l.divisors (i - 1) 0) l.first l.z) l.j;
      falls : l.term ≤ l.first;
      few_added : l.added ≤ (l.j + 1) * 1047202399;
      above : l.taken ≤ l.added;
      last_added : l.j % 2 ≡ 0 → l.taken + l.term ≤ l.added;
    }
