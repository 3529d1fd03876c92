use Rattle.std.proofs.Common.{true, false, arith}
use Rattle.closes.proofs.OpenedLaws.{counting_end, counting_on}
use Rattle.closes.proofs.braced.count_opened.Goals as goal
use Rattle.closes.proofs.braced.count_opened.Goals.{then-bytes-i, else-bytes-i}

pub loop-i-preserved : goal.loop-i-preserved
loop-i-preserved c =
    elim c.if-bytes-i.branch [
      | then-bytes-i w ↦ counting_on c.loop-i.invariant c.loop-i-test.true true w.if-bytes-i.true w.count-is
      | else-bytes-i w ↦ counting_on c.loop-i.invariant c.loop-i-test.true false w.if-bytes-i.false (omega (arith, w.count-is))
    ]

pub returns : goal.returns
returns c = counting_end c.loop-i.invariant c.loop-i-test.false
