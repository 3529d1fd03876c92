-- What the code of the walk keeps: how far the events have come.
use Rattle.std.specs.Prelude.{◌≡◌, ℕ, suc, ◌+◌, ◌-◌, ◌^◌, ◌<◌, ◌≤◌, ◌||◌, Bool, true, false, List, [], ◌∷◌, length, take, drop, Some, None, Ok, Err, Option, Result, ◌==◌, nat_lt}
use Rattle.std.specs.Borrow.{GName}
use denote.Ref.{MutBor, at_last}
use Rattle.budget.specs.declared.WorkBudget.{WorkBudget}
use Rattle.names.specs.declared.PropertySyntax.{PropertySyntax}
use Rattle.source.specs.Shapes.{Shape, unset, empty, shapes, values}
use Rattle.references.specs.declared.error.PropertyError.{PropertyError}
use Rattle.items.specs.declared.action.Action.{Action}
use Rattle.items.specs.declared.action.Action.TheVariants.{Keep, Dollar, Property, Nothing, Interpolate}
use Rattle.items.specs.declared.action.FrameCompletion.{FrameCompletion}
use Rattle.items.specs.declared.action.FrameCompletion.TheVariants.{Root, Append, RequiredButUnset, RequiredButEmpty}
use Rattle.items.specs.Pieces.{Piece, literal, literals, shows, spelled}
use Rattle.items.specs.Items.{inner}
use Rattle.items.specs.Looks.{Known, act_of}
use Rattle.output.specs.declared.Output.{Output}
use Rattle.output.specs.Outputs.{Holds}
use Rattle.walk.specs.Endings.{has_message}
use Rattle.walk.specs.declared.frame.ExpansionFrame.{ExpansionFrame}
use Rattle.walk.specs.declared.marks.Marks.{Marks}
use Rattle.walk.specs.declared.state.Walk.{Walk}
use Rattle.expansion.specs.Events.{Event, acts, begins, emits, message, nest, replaced, trace}
use Rattle.expansion.specs.Walks.{Outcome, run, shown, stopped}

abbrev pub marked_replaced : ℕ → Marks → Marks
marked_replaced depth marks = record { changed = marks.changed || (depth == 1); shows = marks.shows }

abbrev pub marked_shows : ℕ → Marks → Marks
marked_shows len marks = record { changed = marks.changed; shows = marks.shows || nat_lt 0 len }

-- the events behind a completed frame with the text w
abbrev pub completed : FrameCompletion → List ℕ → List Event → List Event
completed Root w es = es
completed Append w es = es
completed (RequiredButUnset name) w es = message unset name w ∷ []
completed (RequiredButEmpty name) w es = message empty name w ∷ []

-- a walk after its work, its marks and its output changed; and after work was done
abbrev pub changed : WorkBudget → Marks → Output → Walk → Walk
changed work marks out now = record { work = work; marks = marks; out = at_last now.out out }

abbrev pub worked : WorkBudget → Walk → Walk
worked work now = record { work = work; marks = now.marks; out = now.out }

-- What stays as it is through a walk: the output and its area that were lent, the limit of the work, and the outcome that it comes to.
pub record Aim : Type 0 where
  pub loan : GName
  pub lent : MutBor (List ℕ)
  pub limit : ℕ
  pub whole : Outcome

-- a walk with this output and this limit is the one of the aim
pub record Bound (aim : Aim) (out : GName) (most : ℕ) : Type 0 where
  pub loan : out ≡ aim.loan
  pub limit : most ≡ aim.limit

-- A walk has come so far that the events es are left. They put out at most `left` bytes of the text.
pub record Reached (means : List ℕ → Option (List ℕ)) (deep : ℕ) (aim : Aim) (left : ℕ) (es : List Event) (now : Walk) : Type 0 where
  pub bound : Bound aim now.out.ghost_name now.work.limit
  pub pieces : List Piece
  pub goes : run (shapes means) (record { depth = deep; work = now.work.limit }) now.work.total now.marks.changed pieces es ≡ aim.whole
  pub marked : now.marks.shows ≡ shows (shapes means) pieces
  pub holds : Holds now.out.now aim.lent (spelled (values means) pieces)
  pub few : length (literals pieces) + left < 2 ^ 64

-- what is told of a refusal: the output holds it, if the refusal has a message; else it is nothing
abbrev pub Tells : Bool → Output → MutBor (List ℕ) → List ℕ → Type 0
Tells true out lent told = Holds out lent told
Tells false out lent told = told ≡ []

-- the walk stopped there
pub record Stopped (aim : Aim) (now : Walk) (e : PropertyError) : Type 0 where
  pub bound : Bound aim now.out.ghost_name now.work.limit
  pub told : List ℕ
  pub is : aim.whole ≡ stopped now.work.total e told
  pub short : length told < 2 ^ 64
  pub tells : Tells (has_message e) now.out.now aim.lent told
  -- whatever was put out before
  pub old : List ℕ
  pub holds : Holds now.out.now aim.lent old

abbrev pub Proper : FrameCompletion → Type 0
Proper Root = ⊥
Proper Append = Unit {0}
Proper (RequiredButUnset name) = Unit {0}
Proper (RequiredButEmpty name) = Unit {0}

-- selected text ends before its close, and is no text of its own
abbrev pub Selectable : ℕ → Action → Type 0
Selectable close (Keep b) = Unit {0}
Selectable close Dollar = Unit {0}
Selectable close (Property name len) = Unit {0}
Selectable close Nothing = Unit {0}
Selectable close (Interpolate text completion) = (length text.now ≤ close) × Proper completion

-- what an action is asked for: the length of a value is known, and selected text lies before its close
pub record Askable (means : List ℕ → Option (List ℕ)) (close : ℕ) (a : Action) : Type 0 where
  pub known : Known means a
  pub lies : Selectable close a

-- the text that an action selects, and what is done with it
abbrev pub text_of : Action → List ℕ
text_of (Keep b) = []
text_of Dollar = []
text_of (Property name len) = []
text_of Nothing = []
text_of (Interpolate text completion) = text.now

abbrev pub completion_of : Action → FrameCompletion
completion_of (Keep b) = Root
completion_of Dollar = Root
completion_of (Property name len) = Root
completion_of Nothing = Root
completion_of (Interpolate text completion) = completion

-- how many bytes of the text an action puts out at most
abbrev pub room_of : Action → ℕ
room_of (Keep b) = 1
room_of Dollar = 1
room_of (Property name len) = 0
room_of Nothing = 0
room_of (Interpolate text completion) = length text.now

-- the frame of a text that ends at the close
abbrev pub frame_of : ℕ → PropertySyntax → List ℕ → FrameCompletion → ExpansionFrame
frame_of close s w completion = record { start = close - length w; cursor = close - length w; end = close; syntax = inner s; completion = completion }

abbrev pub Opens : ℕ → PropertySyntax → List ℕ → FrameCompletion → Result (Option ExpansionFrame) PropertyError → Type 0
Opens close s w completion (Ok None) = Unit {0}
Opens close s w completion (Ok (Some y)) = y ≡ frame_of close s w completion
Opens close s w completion (Err e) = Unit {0}

-- an action opens the frame y, which it does only for selected text
abbrev pub OpensAt : ℕ → PropertySyntax → Action → ExpansionFrame → Type 0
OpensAt close s (Keep b) y = ⊥
OpensAt close s Dollar y = ⊥
OpensAt close s (Property name len) y = ⊥
OpensAt close s Nothing y = ⊥
OpensAt close s (Interpolate text completion) y = y ≡ frame_of close s text.now completion

abbrev pub OpensBy : ℕ → PropertySyntax → Action → Result (Option ExpansionFrame) PropertyError → Type 0
OpensBy close s a (Ok None) = Unit {0}
OpensBy close s a (Ok (Some y)) = OpensAt close s a y
OpensBy close s a (Err e) = Unit {0}

-- what comes before the events of a text that is selected in a frame of the depth d
abbrev pub begun_by : ℕ → FrameCompletion → List Event → List Event
begun_by d Root es = replaced d ∷ es
begun_by d Append es = replaced d ∷ es
begun_by d (RequiredButUnset name) es = begins ∷ es
begun_by d (RequiredButEmpty name) es = begins ∷ es

-- the events of selected text, once it is charged: where it need not be walked, and where it has to be
abbrev pub put_events : ℕ → List ℕ → FrameCompletion → List Event → List Event
put_events d w completion es = begun_by d completion (emits (literal w) (completed completion w es))

abbrev pub open_events : (ℕ → List ℕ → List Event → List Event) → ℕ → ℕ → List ℕ → FrameCompletion → List Event → List Event
open_events nested d at w completion es = nest d ∷ begun_by d completion (nested at w (completed completion w es))

module _ (means : List ℕ → Option (List ℕ)) (deep : ℕ) where
  -- the walk went on, with es left; or it stopped
  abbrev pub Goes : Aim → ℕ → List Event → Walk → Result (Unit {0}) PropertyError → Type 0
  Goes aim left es now (Ok r) = Reached means deep aim left es now
  Goes aim left es now (Err e) = Stopped aim now e

  -- the walk went on, with es left; or a text that was selected is to be walked first; or it stopped
  abbrev pub Applied : (ℕ → List ℕ → List Event → List Event) → Aim → ℕ → List Event → ℕ → List ℕ → FrameCompletion → Walk → Result (Option ExpansionFrame) PropertyError → Type 0
  Applied nested aim left es at w completion now (Ok None) = Reached means deep aim left es now
  Applied nested aim left es at w completion now (Ok (Some y)) = Reached means deep aim (length w + left) (nested at w (completed completion w es)) now
  Applied nested aim left es at w completion now (Err e) = Stopped aim now e

  -- in any walk that is at the end of a message with the text w: the output holds the message, whose length is n, and no work is done
  pub record Message (aim : Aim) (w : List ℕ) (before after : Walk) (n : ℕ) (pieces : List Piece) : Type 0 where
    pub loan : after.out.ghost_name ≡ before.out.ghost_name
    pub work : after.work ≡ before.work
    pub holds : Holds after.out.now aim.lent (shown (shapes means) w pieces)
    pub len : n ≡ length (shown (shapes means) w pieces)
    pub short : n < 2 ^ 64

  abbrev pub TellsMessage : List ℕ → Walk → Walk → ℕ → Type 0
  TellsMessage w before after n =
      (aim : Aim) (left : ℕ) (es : List Event) (r : Reached means deep aim left es before) → Message aim w before after n r.pieces

  -- in any walk: events are passed; with them a frame's end; selected text; an action in a frame of the depth d
  abbrev pub Passes : (List Event → List Event) → Walk → Walk → Type 0
  Passes events before after = (aim : Aim) (left : ℕ) (es : List Event) → Reached means deep aim left (events es) before → Reached means deep aim left es after

  abbrev pub Ends : (ℕ → ℕ) → (List Event → List Event) → Walk → Walk → Result (Unit {0}) PropertyError → Type 0
  Ends room events before after r =
      (aim : Aim) (left : ℕ) (es : List Event) → Reached means deep aim (room left) (events es) before → Goes aim left es after r

  abbrev pub Selects : (ℕ → List ℕ → List Event → List Event) → (List Event → List Event) → ℕ → List ℕ → FrameCompletion → Walk → Walk → Result (Option ExpansionFrame) PropertyError → Type 0
  Selects nested events at w completion before after r =
      (aim : Aim) (left : ℕ) (es : List Event)
      → Reached means deep aim (length w + left) (events es) before
      → Applied nested aim left es at w completion after r

  abbrev pub Applies : (ℕ → List ℕ → List Event → List Event) → ℕ → PropertySyntax → ℕ → Action → Walk → Walk → Result (Option ExpansionFrame) PropertyError → Type 0
  Applies nested d s close a before after r =
      (aim : Aim) (left : ℕ) (es : List Event)
      → Reached means deep aim (room_of a + left) (acts nested d s (act_of close a) es) before
      → Applied nested aim left es (close - length (text_of a)) (text_of a) (completion_of a) after r

-- the bytes from a to e of a text, and how many are left in a frame
abbrev pub part : List ℕ → ℕ → ℕ → List ℕ
part text a e = drop a (take e text)

abbrev pub rest : ExpansionFrame → ℕ
rest x = x.end - x.cursor

abbrev pub moved : ExpansionFrame → ℕ → ExpansionFrame
moved x k = record { start = x.start; cursor = k; end = x.end; syntax = x.syntax; completion = x.completion }

-- the events that are left in a frame, at most f frames being nested in it, and then es
abbrev pub frame_events : (List ℕ → Shape) → List ℕ → (f d : ℕ) → ExpansionFrame → List Event → List Event
frame_events sh text f d x es = trace f d sh x.syntax x.cursor (part text x.cursor x.end) es

-- a frame y inside of another, whose cursor came from k to next
pub record Nests (k next : ℕ) (n : ℕ) (y : ExpansionFrame) : Type 0 where
  pub begins : y.cursor ≡ y.start
  pub ordered : y.start ≤ y.end
  pub within : y.end ≤ n
  pub shorter : k + (rest y + 5) ≤ next
  pub inside : next ≤ n

abbrev pub Nested : ℕ → ℕ → ℕ → Result (Option ExpansionFrame) PropertyError → Type 0
Nested k next n (Ok None) = Unit {0}
Nested k next n (Ok (Some y)) = Nests k next n y
Nested k next n (Err e) = Unit {0}

module _ (means : List ℕ → Option (List ℕ)) (deep : ℕ) (text : List ℕ) where
  -- the frame came to its end; or to y, where another is to be walked first; or the walk stopped
  abbrev pub Framed : Aim → (f d left : ℕ) → List Event → ExpansionFrame → Walk → Result (Option ExpansionFrame) PropertyError → Type 0
  Framed aim f d left es y now (Ok None) = Reached means deep aim left es now
  Framed aim f d left es y now (Ok (Some x)) =
      Reached means deep aim (rest x + (rest y + left)) (frame_events (shapes means) text f (d + 1) x (completed x.completion (part text x.start x.end) (frame_events (shapes means) text (suc f) d y es))) now
  Framed aim f d left es y now (Err e) = Stopped aim now e

  -- a frame x of the depth d is walked, in any walk
  abbrev pub Frames : ℕ → ExpansionFrame → Walk → ExpansionFrame → Walk → Result (Option ExpansionFrame) PropertyError → Type 0
  Frames d x before y after r =
      (f : ℕ) (aim : Aim) (left : ℕ) (es : List Event)
      → Reached means deep aim (rest x + left) (frame_events (shapes means) text (suc f) d x es) before
      → Framed aim f d left es y after r

  -- it is walked on, from x to y
  abbrev pub Onward : ℕ → ExpansionFrame → Walk → ExpansionFrame → Walk → Type 0
  Onward d x before y after =
      (f : ℕ) (aim : Aim) (left : ℕ) (es : List Event)
      → Reached means deep aim (rest x + left) (frame_events (shapes means) text (suc f) d x es) before
      → Reached means deep aim (rest y + left) (frame_events (shapes means) text (suc f) d y es) after
