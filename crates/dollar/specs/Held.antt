-- What the numbers that C keeps stand for.
use Rattle.std.specs.Prelude.{ℕ, cond, ◌==◌, List, Some, None, Option}
use Rattle.std.specs.Bool.{then_some}
use Rattle.names.specs.declared.PropertySyntax.{PropertySyntax}
use Rattle.names.specs.declared.PropertySyntax.TheVariants.{Braced, BracedOrBare, DockerCompose}
use Rattle.scopes.specs.declared.marks.RedactionMarks.{RedactionMarks}
use Rattle.stem.specs.Stems.{stem_lawful, under}
use Rattle.session.specs.Sessions.{made, with_breach, with_total}
use Rattle.session.specs.declared.breach.BudgetBreach.{BudgetBreach}
use Rattle.session.specs.declared.breach.BudgetBreach.TheVariants.{PropertyExpansionDepth, PropertyInterpolationWork}
use Rattle.session.specs.declared.session.PropertyInterpolation.{PropertyInterpolation}
use Rattle.dollar.specs.Tables.{kind_numbered, table_means}
use Rattle.dollar.specs.declared.marks.DollarMarks.{DollarMarks}
use Rattle.dollar.specs.declared.marks.DollarScope.{DollarScope}
use Rattle.dollar.specs.declared.sessions.DollarSession.{DollarSession}
use Rattle.dollar.specs.declared.table.TableKind.{TableKind}

-- where a scope starts, if one is open, as two numbers
abbrev pub scope_kept : Option ℕ → DollarScope
scope_kept None = record { is_open = 0; start = 0 }
scope_kept (Some s) = record { is_open = 1; start = s }

abbrev pub start_of : (is_open start : ℕ) → Option ℕ
start_of is_open start = cond (is_open == 0) None (Some start)

abbrev pub scope_of : DollarScope → Option ℕ
scope_of s = start_of s.is_open s.start

-- The marks that the numbers stand for, and the numbers that stand for marks.
abbrev pub marks_of : DollarMarks → RedactionMarks
marks_of m = record { records = m.records; bytes = m.bytes; start = start_of m.is_open m.start }

abbrev pub marks_kept : RedactionMarks → DollarMarks
marks_kept m = record { records = m.records; bytes = m.bytes; is_open = (scope_kept m.start).is_open; start = (scope_kept m.start).start }

-- the syntax with a number
abbrev pub syntax_numbered : ℕ → Option PropertySyntax
syntax_numbered n = cond (n == 1) (Some Braced) (cond (n == 2) (Some BracedOrBare) (cond (n == 3) (Some DockerCompose) None))

-- the breach with a number; any other number is none
abbrev pub breach_numbered : (n reached limit : ℕ) → Option BudgetBreach
breach_numbered n reached limit =
    cond (n == 8) (Some (PropertyExpansionDepth reached limit)) (cond (n == 9) (Some (PropertyInterpolationWork reached limit)) None)

abbrev pub breach_of : DollarSession → Option BudgetBreach
breach_of d = breach_numbered d.breach d.breach_reached d.breach_limit

-- A source, by what it means.
abbrev pub Meaning : Type 0
Meaning = List ℕ → Option (List ℕ)

-- what a table means under a stem; under an unlawful one nothing is set
abbrev pub source_means : TableKind → (table stem : List ℕ) → Meaning
source_means kind table stem name = under (then_some (stem_lawful stem) stem) (table_means kind table) name

-- a session in which some work was done, and some limit passed
abbrev pub stood : {S : Type 0} → S → PropertySyntax → DollarSession → PropertyInterpolation S
stood source syntax d = with_breach (with_total (made source syntax d.max_depth d.max_work) d.total) (breach_of d)

abbrev pub session_known : DollarSession → (table stem : List ℕ) → Option TableKind → Option PropertySyntax → Option (PropertyInterpolation Meaning)
session_known d table stem None s = None
session_known d table stem (Some kind) None = None
session_known d table stem (Some kind) (Some s) = Some (stood (source_means kind table stem) s d)

-- The session that the numbers stand for, over a table and a stem, its source told by what it means; none where kind or syntax has no such number.
abbrev pub session_of : DollarSession → (table stem : List ℕ) → Option (PropertyInterpolation Meaning)
session_of d table stem = session_known d table stem (kind_numbered d.table_kind) (syntax_numbered d.syntax)

-- what is kept where there is no session
abbrev pub closed : DollarSession
closed = record { table_kind = 0; syntax = 0; max_depth = 0; max_work = 0; total = 0; breach = 0; breach_reached = 0; breach_limit = 0 }

-- The numbers with another total and another breach.
abbrev pub kept : DollarSession → (total : ℕ) → Option BudgetBreach → DollarSession
kept d total None = record d { total = total; breach = 0; breach_reached = 0; breach_limit = 0 }
kept d total (Some (PropertyExpansionDepth reached limit)) = record d { total = total; breach = 8; breach_reached = reached; breach_limit = limit }
kept d total (Some (PropertyInterpolationWork reached limit)) = record d { total = total; breach = 9; breach_reached = reached; breach_limit = limit }
