use Rattle.std.proofs.Common.{◌&&◌, ◌∙◌, refl, rules, tests}
use Rattle.std.proofs.lemmas.Iterator.{YieldsList-from_slice}
use Rattle.std.proofs.lemmas.Iterator.Search.{all_from_yields_List}
use Rattle.std.proofs.lemmas.List.Recursion.{same_from_clauses}
use Rattle.std.specs.List.{list_all}
use Rattle.pairs.specs.Records.{all_within, within}
use Rattle.pairs.proofs.record.are_within.Goals as goal

pub returns : goal.returns
returns c =
    let test = within c.args.n in
    all_from_yields_List test _ _ c.all.result c.all.ensures.ran (YieldsList-from_slice c.args.records.now (cc)) (λ x b q k. search (rules, tests))
    ∙ same_from_clauses (list_all test) (all_within c.args.n) (λ r b. test r && b) refl (λ _ _. refl) (λ _ _. refl) c.args.records.now
