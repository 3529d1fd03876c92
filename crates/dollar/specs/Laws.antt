-- Which bytes a value has shows in no outcome but in a new text, and in whether memory suffices.
use Rattle.std.specs.Prelude.{◌≡◌, ℕ, Bool, true, not, ◌||◌, ◌==◌, List, Option}
use Rattle.std.specs.Option.{option_and_then}
use Rattle.source.specs.Shapes.{shape}
use Rattle.session.specs.Calls.{Called}
use Rattle.session.specs.Sessions.{is_sound}
use Rattle.dollar.specs.Calls.{LentPairs, area_after, outcome_of, pairs_of, session_after}
use Rattle.dollar.specs.Held.{Meaning, source_means}
use Rattle.dollar.specs.Tables.{kind_numbered}
use Rattle.dollar.specs.declared.outcome.DollarOutcome.{DollarOutcome}
use Rattle.dollar.specs.declared.sessions.DollarSession.{DollarSession}

-- what a table and a stem mean to a session: where its kind has no such number, nothing is set
abbrev pub lent_means : DollarSession → (table stem : List ℕ) → Meaning
lent_means d table stem name = option_and_then (λ kind. source_means kind table stem name) (kind_numbered d.table_kind)

-- What a call is lent of a source and of a pair memory.
pub record Lent : Type 0 where
  pub table : List ℕ
  pub stem : List ℕ
  pub pairs : LentPairs

-- Two such under which each name is unset, has an empty value, or has a filled one alike, and the pair memory belongs to its marks alike.
pub record Alike (d : DollarSession) (a b : Lent) : Type 0 where
  pub names : (name : List ℕ) → shape (lent_means d a.table a.stem name) ≡ shape (lent_means d b.table b.stem name)
  pub sound : is_sound (pairs_of a.pairs) ≡ is_sound (pairs_of b.pairs)

-- an outcome in which a value's length has no part: any but a new text, an output area that is too short and a full pair memory
abbrev pub is_firm : DollarOutcome → Bool
is_firm o = not (o.replaced == 1 || (o.refusal == 10 || o.refusal == 11))

-- Two calls on one session, with an output area of n bytes: an outcome that is firm under one is the same under the other, with the message that comes with it;
-- and the session is left the same.
pub record SameCall (d : DollarSession) (n : ℕ) (x y : Option Called) : Type 0 where
  pub outcome : is_firm (outcome_of x) ≡ true → outcome_of y ≡ outcome_of x
  pub outcome_back : is_firm (outcome_of y) ≡ true → outcome_of x ≡ outcome_of y
  pub area : is_firm (outcome_of x) ≡ true → area_after n y ≡ area_after n x
  pub session : session_after d y ≡ session_after d x

-- `done`: what calls of one kind come to. Of one session, with so many frames and an output area of n bytes, and of one text.
abbrev pub ValuesDoNotShow : (DollarSession → (table stem : List ℕ) → LentPairs → (frames n : ℕ) → (text : List ℕ) → Option Called) → Type 0
ValuesDoNotShow done =
    (d : DollarSession) (frames n : ℕ) (text : List ℕ) (a b : Lent) → Alike d a b
    → SameCall d n (done d a.table a.stem a.pairs frames n text) (done d b.table b.stem b.pairs frames n text)
