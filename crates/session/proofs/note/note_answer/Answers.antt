use Rattle.std.proofs.Common.{length, ap, ◌∙◌}
use Rattle.answers.specs.Told.{answer_of}
use Rattle.scopes.specs.Notes.{memory}
use Rattle.session.specs.Shown.{denied}
use Rattle.session.proofs.NoteLaws.{placed, unplaced_refused}
use Rattle.session.proofs.note.note_answer.Goals as goal

pub returns-in-Ok : goal.returns-in-Ok
returns-in-Ok c =
    placed (memory c.args.marks.now c.args.records.now c.args.bytes.now) c.args.text.now (length c.args.area.now) c.in-Replaced.field-0 c.args.answer c.in-Replaced.is
    c.args.area.now c.text.result.now c.text.ensures c.in-Ok.field-0 _ c.in-Ok.ensures.says c.in-Ok.ensures.memory

pub returns-in-Err : goal.returns-in-Err
returns-in-Err c =
    let n = length c.args.area.now in
    unplaced_refused (memory c.args.marks.now c.args.records.now c.args.bytes.now) c.args.text.now n c.in-Replaced.field-0 c.args.answer c.in-Replaced.is
    c.args.area.now c.text.result.now c.text.ensures c.in-Err.full _ _ _ c.in-Err.ensures.says c.in-Err.ensures.memory
    (c.refuse.ensures.answer ∙ ap (λ e. answer_of (denied e)) c.from.ensures) c.refuse.ensures.area
