-- The frames that lent memory holds.
use Rattle.std.specs.Prelude.{ℕ, zero, suc, List, [], ◌∷◌, ◌++◌, length, map, if◌then◌else◌, nat_lt}
use Rattle.names.specs.declared.PropertySyntax.{PropertySyntax}
use Rattle.names.specs.declared.PropertySyntax.TheVariants.{Braced, BracedOrBare, DockerCompose}
use Rattle.references.specs.declared.error.Span.{Span}
use Rattle.items.specs.declared.action.FrameCompletion.{FrameCompletion}
use Rattle.items.specs.declared.action.FrameCompletion.TheVariants.{Root, Append, RequiredButUnset, RequiredButEmpty}
use Rattle.stack.specs.declared.Stack.{Stack}
use Rattle.stack.specs.Held.{held}
use Rattle.walk.specs.declared.frame.ExpansionFrame.{ExpansionFrame}
use Rattle.walk.specs.declared.record.FrameRecord.{FrameRecord}

-- the frames that are open: those that the slots in use hold, the first opened at the front
abbrev pub open_frames : {F : Type 0} → (F → ExpansionFrame) → Stack F → List ExpansionFrame
open_frames kept s = map kept (held s)

-- the frames xs with x on top, where the memory has slots for one more
abbrev pub one_more : ℕ → List ExpansionFrame → ExpansionFrame → List ExpansionFrame
one_more slots xs x = if nat_lt (length xs) slots then xs ++ x ∷ [] else xs

-- the syntax with a number: any number is that of some syntax
abbrev pub syntax_numbered : ℕ → PropertySyntax
syntax_numbered zero = Braced
syntax_numbered (suc zero) = BracedOrBare
syntax_numbered (suc (suc n)) = DockerCompose

-- the completion with a number, which may have a name at a place
abbrev pub completion_numbered : ℕ → Span → FrameCompletion
completion_numbered zero name = Root
completion_numbered (suc zero) name = Append
completion_numbered (suc (suc zero)) name = RequiredButUnset name
completion_numbered (suc (suc (suc n))) name = RequiredButEmpty name

-- the frame that a record holds: any numbers are some frame
abbrev pub frame_kept : FrameRecord → ExpansionFrame
frame_kept r =
    record {
      start = r.start;
      cursor = r.cursor;
      end = r.end;
      syntax = syntax_numbered r.syntax;
      completion = completion_numbered r.completion (record { start = r.name_start; end = r.name_end });
    }
