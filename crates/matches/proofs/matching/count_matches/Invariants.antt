use Rattle.std.proofs.Common.{◌≡◌, ◌+◌, ◌≤◌, length}
use Rattle.matches.specs.Places.{places}
use Rattle.matches.proofs.matching.count_matches.Given as goal

-- what is left to look at gives the rest of the count
abbrev pub invariant-loop-at : goal.invariant-loop-at
invariant-loop-at l = record {
  counted : l.count + length (places l.needle l.rest) ≡ length (places l.needle l.text);
  low : l.count + length l.rest ≤ length l.text;
}

abbrev pub decreases-loop-at : goal.decreases-loop-at
decreases-loop-at l = length l.rest
