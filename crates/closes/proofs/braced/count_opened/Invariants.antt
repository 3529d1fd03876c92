use Rattle.closes.proofs.OpenedLaws.{Counting}
use Rattle.closes.proofs.braced.count_opened.Given as goal

abbrev pub invariant-loop-i : goal.invariant-loop-i
invariant-loop-i l = Counting l.bytes l.count l.i
