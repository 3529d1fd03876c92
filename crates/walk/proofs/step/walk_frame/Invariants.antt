use Rattle.std.proofs.Common.{◌-◌}
use Rattle.walk.proofs.Walking.{Walking}
use Rattle.walk.proofs.step.walk_frame.Given as goal

abbrev pub invariant-items : goal.invariant-items
invariant-items g l =
    Walking (g.S.PropertySource.means l.given.source.now) l.given.max_depth l.given.text.now l.depth l.initial.frame l.initial.walk l.frame l.walk

abbrev pub decreases-items : goal.decreases-items
decreases-items g l = l.frame.end - l.frame.cursor
