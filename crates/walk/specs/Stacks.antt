-- The frames that are open, the first opened at the front.
use Rattle.std.specs.Prelude.{ℕ, ◌+◌, ◌-◌, ◌*◌, ◌/◌, ◌<◌, ◌≤◌, List, [], ◌∷◌, length, Ok, Err, Option, Result}
use Rattle.names.specs.declared.PropertySyntax.{PropertySyntax}
use Rattle.source.specs.Shapes.{Shape, shapes}
use Rattle.references.specs.declared.error.PropertyError.{PropertyError}
use Rattle.walk.specs.declared.frame.ExpansionFrame.{ExpansionFrame}
use Rattle.walk.specs.declared.state.Walk.{Walk}
use Rattle.expansion.specs.Events.{Event, events}
use Rattle.walk.specs.Frames.{Aim, Goes, Reached, completed, frame_events, part, rest}

-- the frame with i others below it lies in the text of n bytes, and what is left of it is shorter by five for each of those
pub record Sound1 (n i : ℕ) (x : ExpansionFrame) : Type 0 where
  pub ordered : x.start ≤ x.end
  pub within : x.end ≤ n
  pub shorter : 5 * i + rest x ≤ n

abbrev pub Sound : ℕ → ℕ → List ExpansionFrame → Type 0
Sound n i [] = Unit {0}
Sound n i (x ∷ xs) = Sound1 n i x × Sound n (i + 1) xs

-- the bytes left in all frames
abbrev pub left : List ExpansionFrame → ℕ
left [] = 0
left (x ∷ xs) = rest x + left xs

-- the events that are left in the frame with i others below it, and then es
abbrev pub events_at : (List ℕ → Shape) → List ℕ → ℕ → ExpansionFrame → List Event → List Event
events_at sh text i x es = frame_events sh text (length text - i) (i + 1) x (completed x.completion (part text x.start x.end) es)

-- the events that are left in all frames, those of the newest first, and then es
abbrev pub pending : (List ℕ → Shape) → List ℕ → ℕ → List ExpansionFrame → List Event → List Event
pending sh text i [] es = es
pending sh text i (x ∷ xs) es = pending sh text (i + 1) xs (events_at sh text i x es)

-- the frames are sound, and the memory for `slots` frames is enough
pub record Fit (text : List ℕ) (slots : ℕ) (xs : List ExpansionFrame) : Type 0 where
  pub some : 0 < length text
  pub enough : length text / 5 < slots
  pub held : length xs ≤ slots
  pub sound : Sound (length text) 0 xs

abbrev pub measure : List ExpansionFrame → ℕ
measure xs = left xs + length xs

-- the newest frame was walked on, and the frames xs became ys
pub record Turned (text : List ℕ) (slots : ℕ) (xs ys : List ExpansionFrame) : Type 0 where
  pub fit : Fit text slots ys
  pub less : measure ys < measure xs

abbrev pub Turns : List ℕ → ℕ → List ExpansionFrame → List ExpansionFrame → Result (Unit {0}) PropertyError → Type 0
Turns text slots xs ys (Ok r) = Turned text slots xs ys
Turns text slots xs ys (Err e) = Unit {0}

-- in any walk: the frames xs are open, and then ys are; or it stopped
abbrev pub Runs : (List ℕ → Option (List ℕ)) → ℕ → List ℕ → List ExpansionFrame → Walk → List ExpansionFrame → Walk → Result (Unit {0}) PropertyError → Type 0
Runs means deep text xs before ys after r =
    (aim : Aim)
    → Reached means deep aim (left xs) (pending (shapes means) text 0 xs []) before
    → Goes means deep aim (left ys) (pending (shapes means) text 0 ys []) after r

-- a whole text, in any walk over it
abbrev pub Walks : (List ℕ → Option (List ℕ)) → ℕ → PropertySyntax → List ℕ → Walk → Walk → Result (Unit {0}) PropertyError → Type 0
Walks means deep s text before after r =
    (aim : Aim) → Reached means deep aim (length text) (events (shapes means) s text) before → Goes means deep aim 0 [] after r
