use Rattle.std.proofs.Common.{rules, ◌<◌, length, ℕ, List, tests, sym, ◌∙◌}
use Rattle.std.specs.Str.{bytes_eq}
use Rattle.std.proofs.lemmas.Iterator.Search.{position_from_yields_List}
use Rattle.std.proofs.lemmas.Iterator.Adapters.{position_from-zero}
use Rattle.matches.proofs.WindowsLaws.{first_part, gives_parts, parts}
use Rattle.matches.proofs.matching.find_by_places.Goals as goal

pub returns-clause-says : goal.returns-clause-says
returns-clause-says c =
    let n : List ℕ = c.args.needle.now in
    let text : List ℕ = c.args.text.now in
    let some : 0 < length n = search (rules, tests) in
    position_from_yields_List (λ w. bytes_eq w n) _ _ c.position.result c.position.ensures.ran (gives_parts n text some c.windows.ensures.size c.windows.ensures.rest) (λ x b q k. search (rules, tests))
    ∙ position_from-zero (λ w. bytes_eq w n) (parts (length n) text)
    ∙ sym (first_part n some 0 text)
