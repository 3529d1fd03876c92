-- The redaction of a message, a value or an identifier, in an area of n bytes, by the pairs of a scope.
use Rattle.std.specs.Prelude.{ℕ, Bool, true, false, cond, List, [], ◌∷◌, length, codes, nat_le}
use Rattle.std.specs.Option.{unwrap_or}
use Rattle.answers.specs.Told.{Told, unchanged, replaced, refused, fitting}
use Rattle.answers.specs.declared.OutputTooShort.{OutputTooShort}
use Rattle.matches.specs.Places.{places}
use Rattle.pairs.specs.Lookups.{lookup}
use Rattle.pairs.specs.Pairs.{Pair}
use Rattle.redaction.specs.Orders.{longest_first}
use Rattle.redaction.specs.Splices.{spliced}

-- How a redaction stands: with the text as it then is, and whether something was replaced; given up for the fallback; or at a text of that length that does not fit.
pub data State : Type 0 where
  going : Bool → List ℕ → State
  fallen : State
  short : ℕ → State

-- A text that was made has to fit.
abbrev pub fitted : ℕ → List ℕ → State
fitted n text = cond (nat_le (length text) n) (going true text) (short (length text))

-- One match of the pair's result is replaced by its text; more give the fallback.
abbrev pub turn : ℕ → Bool → List ℕ → Pair → List ℕ → State
turn n done text p [] = going done text
turn n done text p (at ∷ []) = fitted n (spliced at (length p.1) p.0 text)
turn n done text p (at ∷ next ∷ more) = fallen

abbrev pub step : ℕ → State → Pair → State
step n (going done text) p = turn n done text p (places p.1 text)
step n fallen p = fallen
step n (short m) p = short m

abbrev pub steps : ℕ → State → List Pair → State
steps n s [] = s
steps n s (p ∷ ps) = steps n (step n s p) ps

-- What a redaction tells: the text given may be shown, another, or none, since one of that length did not fit.
abbrev pub Redacted : Type 0
Redacted = Told OutputTooShort

abbrev pub too_short : ℕ → OutputTooShort
too_short needed = record { needed = needed }

abbrev pub shown : ℕ → List ℕ → Redacted
shown n text = fitting n too_short text (replaced text)

-- Without a replacement it is the fallback.
abbrev pub ended : ℕ → List ℕ → State → Redacted
ended n fallback (going true text) = replaced text
ended n fallback (going false text) = shown n fallback
ended n fallback fallen = shown n fallback
ended n fallback (short m) = refused (too_short m) []

-- A message or a value. Without a pair it is unchanged.
abbrev pub redacted : ℕ → List ℕ → List Pair → List ℕ → Redacted
redacted n fallback [] text = unchanged
redacted n fallback (p ∷ ps) text = ended n fallback (steps n (going false text) (longest_first (p ∷ ps)))

-- What a message shows in place of its text.
abbrev pub message_fallback : List ℕ
message_fallback = codes "invalid interpolated scalar value"

-- An identifier: the text of the first pair whose result it is, else the fallback.
abbrev pub identified : ℕ → List ℕ → List Pair → List ℕ → Redacted
identified n fallback [] name = unchanged
identified n fallback (p ∷ ps) name = shown n (unwrap_or (lookup (p ∷ ps) name) fallback)
