use Rattle.std.proofs.Common.{◌≡◌, length}
use Rattle.pairs.specs.Lists.{scope}
use Rattle.redaction.specs.Drafts.{Kept, state_of}
use Rattle.redaction.specs.Orders.{longest_first}
use Rattle.redaction.specs.Redactions.{steps}
use Rattle.redaction.proofs.DownLaws.{down_from}
use Rattle.redaction.proofs.draft.Draft.take_pairs.Given as goal

-- what is left gives the rest
abbrev pub invariant-loop-size : goal.invariant-loop-size
invariant-loop-size l =
    let n = length l.initial.self.area.now in
    record {
      taken : steps n (state_of l.self) (down_from l.size (scope l.pairs)) ≡ steps n (state_of l.initial.self) (longest_first (scope l.pairs));
      kept : Kept l.initial.self l.self;
    }

abbrev pub decreases-loop-size : goal.decreases-loop-size
decreases-loop-size l = l.size
