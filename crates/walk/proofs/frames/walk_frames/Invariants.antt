use Rattle.walk.specs.Slots.{open_frames}
use Rattle.walk.specs.Stacks.{measure}
use Rattle.walk.proofs.Stacking.{Walked}
use Rattle.walk.proofs.frames.walk_frames.Given as goal

abbrev pub invariant-loop-frame : goal.invariant-loop-frame
invariant-loop-frame g l =
    Walked g.F.FrameSlot.kept (g.S.PropertySource.means l.given.source.now) l.given.max_depth l.given.text.now l.initial.frames l.initial.walk l.frames l.walk

abbrev pub decreases-loop-frame : goal.decreases-loop-frame
decreases-loop-frame g l = measure (open_frames g.F.FrameSlot.kept l.frames)
