use Rattle.std.proofs.Common.{ℕ, ◌+◌, List, length, ap, ◌∙◌}
use Rattle.std.specs.List.{slice_get}
use Rattle.std.proofs.lemmas.List.{take_rest}
use Rattle.matches.specs.Places.{places}
use Rattle.matches.proofs.PlacesLaws.{often, once}
use Rattle.matches.proofs.matching.sole_match.Goals as goal

pub returns-in-None-clause-says : goal.returns-in-None-clause-says
returns-in-None-clause-says c =
    let n : List ℕ = c.args.needle.now in
    let k : ℕ = c.in-Some.at + length n in
    once n c.args.text.now c.in-Some.at c.in-Some.ensures.some c.in-Some.ensures.says (c.in-None.ensures.says ∙ ap (λ (bs : List ℕ). slice_get (places n bs) 0) (take_rest c.args.text.now k))

pub returns-in-Some-find_match-clause-says : goal.returns-in-Some-find_match-clause-says
returns-in-Some-find_match-clause-says c =
    let n : List ℕ = c.args.needle.now in
    let k : ℕ = c.in-Some.at + length n in
    often n c.args.text.now c.in-Some.at c.in-Some.ensures.some c.in-Some.ensures.says c.in-Some-find_match.field-0
    (c.in-Some-find_match.ensures.says ∙ ap (λ (bs : List ℕ). slice_get (places n bs) 0) (take_rest c.args.text.now k))
