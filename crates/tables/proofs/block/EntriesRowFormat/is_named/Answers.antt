use Rattle.std.proofs.Common.{ℕ, List, length, Some, sym, ap, ◌∙◌}
use Rattle.std.proofs.lemmas.Option.{slice_get-get_or}
use Rattle.tables.proofs.Naming.{by_next}
use Rattle.tables.proofs.block.EntriesRowFormat.is_named.Goals as goal

pub returns-in-Some : goal.returns-in-Some
returns-in-Some c =
    let row : List ℕ = c.args.row.now in
    let k : ℕ = length c.args.name.now in
    let there = c.in-Some.ensures.lookup.3 in
    sym (by_next c.args.name.now row c.in-Some.field-0.now (slice_get-get_or row k 0 there.0 ∙ ap Some (sym (there.1 0))) c.if-byte-ne61.true)
