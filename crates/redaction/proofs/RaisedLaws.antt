-- A larger area changes nothing that a smaller one had room for. Assumes nothing.
use Rattle.std.proofs.Common.{◌≡◌, ℕ, ◌≤◌, Bool, true, false, cond, leb, List, [], ◌∷◌, length, unwrap_or, refl, ap, ◌∙◌, arith}
use Rattle.std.proofs.lemmas.Bool.{cond-true, le-leb, leb-true}
use Rattle.matches.specs.Places.{places}
use Rattle.pairs.specs.Lookups.{lookup}
use Rattle.pairs.specs.Pairs.{Pair}
use Rattle.redaction.specs.Orders.{longest_first}
use Rattle.redaction.specs.Redactions.{Redacted, State, ended, fitted, identified, redacted, shown, step, steps, too_short, turn}
use Rattle.answers.specs.Told.{refused, replaced, unchanged}
use Rattle.redaction.specs.Redactions.State.{fallen, going, short}
use Rattle.redaction.specs.Splices.{spliced}

-- no text was too long
abbrev Room : State → Type 0
Room (going done text) = Unit {0}
Room fallen = Unit {0}
Room (short m) = ⊥

-- the redaction is not refused
abbrev pub Answered : Redacted → Type 0
Answered unchanged = Unit {0}
Answered (replaced text) = Unit {0}
Answered (refused e message) = ⊥

module _ (n m : ℕ) (more : n ≤ m) where
  fitted_raised : (text : List ℕ) → Room (fitted n text) → fitted m text ≡ fitted n text
  fitted_raised text room = go (leb (length text) n) refl room
    where
      go : (b : Bool) → leb (length text) n ≡ b → Room (cond b (going true text) (short (length text))) → fitted m text ≡ cond b (going true text) (short (length text))
      go true t r = cond-true _ _ _ (le-leb (length text) m (omega (arith, leb-true (length text) n t)))
      go false t r = absurd r

  turn_raised : (done : Bool) (text : List ℕ) (p : Pair) (at : List ℕ) → Room (turn n done text p at) → turn m done text p at ≡ turn n done text p at
  turn_raised done text p [] room = refl
  turn_raised done text p (at ∷ []) room = fitted_raised (spliced at (length p.1) p.0 text) room
  turn_raised done text p (at ∷ next ∷ rest) room = refl

  step_raised : (s : State) (p : Pair) → Room (step n s p) → step m s p ≡ step n s p
  step_raised (going done text) p room = turn_raised done text p (places p.1 text) room
  step_raised fallen p room = refl
  step_raised (short k) p room = refl

  -- once a text was too long, the redaction stays so
  room_before : (s : State) (ps : List Pair) → Room (steps n s ps) → Room s
  room_before (going done text) ps room = tt
  room_before fallen ps room = tt
  room_before (short k) [] room = room
  room_before (short k) (p ∷ ps) room = room_before (short k) ps room

  steps_raised : (s : State) (ps : List Pair) → Room (steps n s ps) → steps m s ps ≡ steps n s ps
  steps_raised s [] room = refl
  steps_raised s (p ∷ ps) room =
      ap (λ t. steps m t ps) (step_raised s p (room_before (step n s p) ps room)) ∙ steps_raised (step n s p) ps room

  pub shown_raised : (text : List ℕ) → Answered (shown n text) → shown m text ≡ shown n text
  shown_raised text ok = go (leb (length text) n) refl ok
    where
      go : (b : Bool) → leb (length text) n ≡ b → Answered (cond b (replaced text) (refused (too_short (length text)) [])) → shown m text ≡ cond b (replaced text) (refused (too_short (length text)) [])
      go true t r = cond-true _ _ _ (le-leb (length text) m (omega (arith, leb-true (length text) n t)))
      go false t r = absurd r

  ended_room : (fallback : List ℕ) (s : State) → Answered (ended n fallback s) → Room s
  ended_room fallback (going done text) ok = tt
  ended_room fallback fallen ok = tt
  ended_room fallback (short k) ok = ok

  ended_raised : (fallback : List ℕ) (s : State) → Answered (ended n fallback s) → ended m fallback s ≡ ended n fallback s
  ended_raised fallback (going true text) ok = refl
  ended_raised fallback (going false text) ok = shown_raised fallback ok
  ended_raised fallback fallen ok = shown_raised fallback ok
  ended_raised fallback (short k) ok = refl

  pub redacted_raised : (fallback : List ℕ) (ps : List Pair) (text : List ℕ) → Answered (redacted n fallback ps text) → redacted m fallback ps text ≡ redacted n fallback ps text
  redacted_raised fallback [] text ok = refl
  redacted_raised fallback (p ∷ ps) text ok =
      let s : State = going false text in
      let qs : List Pair = longest_first (p ∷ ps) in
      ap (ended m fallback) (steps_raised s qs (ended_room fallback (steps n s qs) ok)) ∙ ended_raised fallback (steps n s qs) ok

  pub identified_raised : (fallback : List ℕ) (ps : List Pair) (name : List ℕ) → Answered (identified n fallback ps name) → identified m fallback ps name ≡ identified n fallback ps name
  identified_raised fallback [] name ok = refl
  identified_raised fallback (p ∷ ps) name ok = shown_raised (unwrap_or (lookup (p ∷ ps) name) fallback) ok
