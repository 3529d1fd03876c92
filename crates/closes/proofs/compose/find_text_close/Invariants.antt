use Rattle.closes.proofs.ComposeLaws.{Scanning}
use Rattle.closes.proofs.compose.find_text_close.Given as goal

abbrev pub invariant-loop-offset : goal.invariant-loop-offset
invariant-loop-offset l = Scanning l.start l.text l.initial.work l.work l.depth l.skip_next l.last_close l.offset
