use Rattle.std.proofs.Common.{rules}
use Rattle.stack.proofs.Laws.{inside, kept, outside, unwritten, written, written_in}
use Rattle.stack.proofs.Stack.set.Goals as goal

pub returns-then-at-self : goal.returns-then-at-self
returns-then-at-self g c = search (rules, inside, written, written_in)

pub returns-else-at-self : goal.returns-else-at-self
returns-else-at-self g c = search (rules, outside, unwritten, kept)
