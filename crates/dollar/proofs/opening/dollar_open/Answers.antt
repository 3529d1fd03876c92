use Rattle.std.proofs.Common.{sym, subst}
use Rattle.dollar.specs.Opening.{Opens, open_told, opened}
use Rattle.dollar.proofs.OpeningLaws.{opens}
use Rattle.dollar.proofs.opening.dollar_open.Goals as goal

pub returns-clause-opens : goal.returns-clause-opens
returns-clause-opens c =
    let a = c.args in
    let checked = c.check_open-checked in
    subst (λ o. Opens a.table_kind a.syntax a.max_depth a.max_work a.table.now a.stem.now o c.opened.result)
    (sym c.told_open.ensures)
    (subst (λ d. Opens a.table_kind a.syntax a.max_depth a.max_work a.table.now a.stem.now (open_told checked.result) d)
    (sym c.opened.ensures)
    (subst (λ r. Opens a.table_kind a.syntax a.max_depth a.max_work a.table.now a.stem.now (open_told r) (opened r a.table_kind a.syntax a.max_depth a.max_work))
    (sym checked.ensures)
    (opens a.table_kind a.syntax a.max_depth a.max_work a.table.now a.stem.now)))
