-- What a call of C comes to, and what it leaves.
use Rattle.std.specs.Prelude.{ℕ, List, Some, None, Option, replicate}
use Rattle.std.specs.Option.{option_map}
use Rattle.answers.specs.Told.{answer_of, area_of}
use Rattle.pairs.specs.Pairs.{Pair, firsts}
use Rattle.pairs.specs.declared.record.PairRecord.{PairRecord}
use Rattle.scopes.specs.Marks.{innermost}
use Rattle.scopes.specs.Notes.{PairMemory, memory}
use Rattle.session.specs.Breaches.{kept_breach}
use Rattle.session.specs.Calls.{Called, heard}
use Rattle.session.specs.Sessions.{key_call, value_call}
use Rattle.dollar.specs.Held.{breach_of, kept, marks_kept, marks_of, session_of}
use Rattle.dollar.specs.Outcomes.{bad_session, told_as}
use Rattle.dollar.specs.declared.marks.DollarMarks.{DollarMarks}
use Rattle.dollar.specs.declared.outcome.DollarOutcome.{DollarOutcome}
use Rattle.dollar.specs.declared.sessions.DollarSession.{DollarSession}

-- The pair memory as C lends it.
pub record LentPairs : Type 0 where
  pub marks : DollarMarks
  pub records : List PairRecord
  pub bytes : List ℕ

abbrev pub lent : DollarMarks → List PairRecord → List ℕ → LentPairs
lent m records bytes = record { marks = m; records = records; bytes = bytes }

-- the pair memory that it is
abbrev pub pairs_of : LentPairs → PairMemory
pairs_of y = memory (marks_of y.marks) y.records y.bytes

-- the memory as it is handed back
abbrev pub pairs_kept : PairMemory → LentPairs
pairs_kept y = lent (marks_kept y.marks) y.records y.bytes

-- the pairs that a redaction goes by: those of the innermost open scope, each once
abbrev pub scope_in : LentPairs → List Pair
scope_in y = firsts (innermost (marks_of y.marks) y.records y.bytes)

-- What a key call and a value call tell, with the pair memory y; none where the session is none.
module _ (d : DollarSession) (table stem : List ℕ) (y : LentPairs) (frames area : ℕ) (text : List ℕ) where
  abbrev pub key_done : Option Called
  key_done = option_map (λ p. key_call (λ m. m) p (pairs_of y) frames area text) (session_of d table stem)

  abbrev pub value_done : Option Called
  value_done = option_map (λ p. value_call (λ m. m) p (pairs_of y) frames area text) (session_of d table stem)

-- The outcome, and what is left of the session, the output area and the pair memory, by what a call tells.
abbrev pub outcome_of : Option Called → DollarOutcome
outcome_of None = bad_session
outcome_of (Some called) = told_as (answer_of called.0)

abbrev pub session_after : DollarSession → Option Called → DollarSession
session_after d None = d
session_after d (Some called) = kept d called.1 (kept_breach (breach_of d) (answer_of called.0))

-- an output area of n bytes
abbrev pub area_after : (n : ℕ) → Option Called → List ℕ
area_after n None = replicate n 0
area_after n (Some called) = area_of n called.0

abbrev pub pairs_after : LentPairs → (text : List ℕ) → Option Called → LentPairs
pairs_after y text None = y
pairs_after y text (Some called) = pairs_kept (heard (pairs_of y) text called.0)
