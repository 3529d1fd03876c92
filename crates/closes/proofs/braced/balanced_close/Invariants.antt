use Rattle.closes.proofs.BracedLaws.{Balancing}
use Rattle.closes.proofs.braced.balanced_close.Given as goal

abbrev pub invariant-loop-i : goal.invariant-loop-i
invariant-loop-i l = Balancing l.body l.depth l.i
