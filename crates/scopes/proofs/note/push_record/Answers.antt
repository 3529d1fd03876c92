use Rattle.std.proofs.Common.{length, set, ◌∙◌, ap₂, rules}
use Rattle.scopes.proofs.NotesLaws.{set_behind}
use Rattle.scopes.proofs.note.push_record.Goals as goal

pub returns : goal.returns
returns c =
    let made = c.with_len-stack.ensures in
    let after = c.push.ensures.memory ∙ ap₂ (λ m h. set m (length h) c.args.new) made.memory made.elements ∙ set_behind c.args.records.now c.args.used c.args.new in
    let loan = c.push.ensures.loan ∙ made.loan in
    search rules
