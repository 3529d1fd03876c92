-- What opening a session comes to.
use Rattle.std.specs.Prelude.{◌≡◌, ◌≢◌, ℕ, true, List, Some, None, Ok, Err, Option, Result}
use Rattle.source.specs.declared.error.SourceError.{SourceError}
use Rattle.names.specs.declared.PropertySyntax.{PropertySyntax}
use Rattle.stem.specs.Stems.{stem_lawful, stem_verdict}
use Rattle.session.specs.Sessions.{made}
use Rattle.tables.specs.Blocks.{block_format}
use Rattle.tables.specs.Books.{book_format}
use Rattle.tables.specs.Meaning.{Tells}
use Rattle.tables.specs.Rows.{rows}
use Rattle.dollar.specs.Held.{closed, session_of, source_means, syntax_numbered}
use Rattle.dollar.specs.Outcomes.{bad_session, numbered, source_refused}
use Rattle.dollar.specs.Tables.{kind_numbered, kind_verdict, table_means}
use Rattle.dollar.specs.declared.opening.OpenError.{OpenError}
use Rattle.dollar.specs.declared.opening.OpenError.TheVariants.{Unknown, Unlawful}
use Rattle.dollar.specs.declared.outcome.DollarOutcome.{DollarOutcome}
use Rattle.dollar.specs.declared.sessions.DollarSession.{DollarSession}
use Rattle.dollar.specs.declared.table.TableKind.{TableKind}
use Rattle.dollar.specs.declared.table.TableKind.TheVariants.{Empty, Book, Block}

-- the check of a stem, where that of the table has passed
abbrev pub stem_next : Result (Unit {0}) SourceError → Result (Unit {0}) SourceError → Result (Unit {0}) OpenError
stem_next (Err e) v = Err (Unlawful e)
stem_next (Ok u) (Err e) = Err (Unlawful e)
stem_next (Ok u) (Ok w) = Ok tt

abbrev pub known_checked : Option TableKind → Option PropertySyntax → (table stem : List ℕ) → Result (Unit {0}) OpenError
known_checked None s table stem = Err Unknown
known_checked (Some kind) None table stem = Err Unknown
known_checked (Some kind) (Some s) table stem = stem_next (kind_verdict kind table) (stem_verdict stem)

-- Whether a session may be opened: the numbers of the kind and the syntax are looked at first, then the table, then the stem.
abbrev pub open_checked : (kind syntax : ℕ) → (table stem : List ℕ) → Result (Unit {0}) OpenError
open_checked kind syntax table stem = known_checked (kind_numbered kind) (syntax_numbered syntax) table stem

abbrev pub open_refused : OpenError → DollarOutcome
open_refused Unknown = bad_session
open_refused (Unlawful e) = source_refused e

-- the outcome
abbrev pub open_told : Result (Unit {0}) OpenError → DollarOutcome
open_told (Ok u) = numbered 0
open_told (Err e) = open_refused e

-- The session after that: no work done and no limit passed; none where the opening is refused.
abbrev pub opened : Result (Unit {0}) OpenError → (kind syntax depth work : ℕ) → DollarSession
opened (Ok u) kind syntax depth work =
    record { table_kind = kind; syntax = syntax; max_depth = depth; max_work = work; total = 0; breach = 0; breach_reached = 0; breach_limit = 0 }
opened (Err e) kind syntax depth work = closed

-- A lawful table is read so that it tells its rows.
abbrev pub RowsTold : TableKind → List ℕ → Type 0
RowsTold Empty table = (name : List ℕ) → table_means Empty table name ≡ None
RowsTold Book table = Tells book_format (rows book_format table) (table_means Book table)
RowsTold Block table = Tells block_format (rows block_format table) (table_means Block table)

-- The numbers d stand for the session that was asked for: no work done and no limit passed, over a table that tells its rows and under a lawful stem.
pub record Begun (kind syntax depth work : ℕ) (table stem : List ℕ) (d : DollarSession) : Type 0 where
  pub table_kind : TableKind
  pub of_kind : kind_numbered kind ≡ Some table_kind
  pub written : PropertySyntax
  pub of_syntax : syntax_numbered syntax ≡ Some written
  pub session : session_of d table stem ≡ Some (made (source_means table_kind table stem) written depth work)
  pub told : RowsTold table_kind table
  pub lawful : stem_lawful stem ≡ true

-- An opening that answers begins that session. After one that is refused there is none, whatever is lent to it.
pub record Opens (kind syntax depth work : ℕ) (table stem : List ℕ) (outcome : DollarOutcome) (d : DollarSession) : Type 0 where
  pub answered : outcome.refusal ≡ 0 → Begun kind syntax depth work table stem d
  pub refused : outcome.refusal ≢ 0 → (t s : List ℕ) → session_of d t s ≡ None
