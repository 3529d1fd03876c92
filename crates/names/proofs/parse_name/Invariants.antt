use Rattle.std.proofs.Common.{◌-◌, length}
use Rattle.names.proofs.ReadLaws.{Reading}
use Rattle.names.proofs.parse_name.Given as goal

abbrev pub invariant-loop-ch : goal.invariant-loop-ch
invariant-loop-ch l = Reading l.syntax l.input l.initial.work l.work l.end

abbrev pub decreases-loop-ch : goal.decreases-loop-ch
decreases-loop-ch l = length l.input - l.end
