use Rattle.std.proofs.Common.{◌≡◌, max, leb, List, map, unwrap_or, sym, ap, ◌∙◌, rules, tests}
use Rattle.std.proofs.lemmas.Iterator.{YieldsList-from_map}
use Rattle.std.proofs.lemmas.Iterator.Consumers.{YieldsList-at, YieldsList-from_filter, YieldsList-from_first, max_from_yields_List}
use Rattle.std.specs.List.{filter, reduce}
use Rattle.std.specs.Option.{option_map}
use Rattle.std.proofs.lemmas.Iterator.Adapters.{option_map_id}
use Rattle.pairs.specs.Lists.{listed, pairs_left}
use Rattle.pairs.specs.Pairs.{Pair}
use Rattle.pairs.specs.Records.{pair_read}
use Rattle.pairs.specs.Sizes.{size}
use Rattle.pairs.proofs.ListsLaws.{best_within}
use Rattle.pairs.proofs.list.PairList.size_within.Goals as goal

pub returns : goal.returns
returns c =
    let ps : List Pair = listed c.args.self.now in
    let found : option_map (λ x. x) c.max.result ≡ reduce max (filter (λ s. leb s c.args.most) (map size ps)) =
    max_from_yields_List c.filter.result c.max.result c.max.ensures.ran
    (YieldsList-from_filter _ (λ s. leb s c.args.most)
    (YieldsList-at c.filter.ensures.source (YieldsList-from_map _ size (YieldsList-at c.map.ensures.source (YieldsList-from_first pair_read pairs_left ps c.iter.ensures)) c.map.ensures.closure (λ x r q k. search rules)))
    c.filter.ensures.closure (λ x b q k. search (rules, tests))) in
    c.unwrap_or.ensures ∙ ap (λ r. unwrap_or r 0) (sym (option_map_id c.max.result) ∙ found) ∙ best_within c.args.most ps
