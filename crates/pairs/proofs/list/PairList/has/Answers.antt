use Rattle.std.proofs.Common.{◌||◌, List, ◌∙◌, refl, rules, tests}
use Rattle.std.proofs.lemmas.Iterator.Consumers.{YieldsList-from_first}
use Rattle.std.proofs.lemmas.Iterator.Search.{any_from_yields_List}
use Rattle.std.proofs.lemmas.List.Recursion.{same_from_clauses}
use Rattle.std.specs.List.{list_any}
use Rattle.pairs.specs.Lists.{listed, pairs_left}
use Rattle.pairs.specs.Pairs.{Pair, has, same_pair}
use Rattle.pairs.specs.Records.{pair_read}
use Rattle.pairs.proofs.list.PairList.has.Goals as goal

pub returns : goal.returns
returns c =
    let ps : List Pair = listed c.args.self.now in
    let p : Pair = pair_read c.args.pair in
    let test = λ (q : Pair). same_pair q p in
    any_from_yields_List test c.any.new.self _ c.any.result c.any.ensures.ran (YieldsList-from_first pair_read pairs_left ps c.iter.ensures) (λ x b q k. search (rules, tests))
    ∙ same_from_clauses (list_any test) (λ qs. has qs p) (λ q b. test q || b) refl (λ _ _. refl) (λ _ _. refl) ps
