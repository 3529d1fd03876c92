use Rattle.std.proofs.Common.{◌≡◌, List, sym, ap, ◌∙◌, rules, tests}
use Rattle.std.proofs.lemmas.Iterator.Consumers.{YieldsList-from_first}
use Rattle.std.proofs.lemmas.Iterator.Search.{find_from_yields_List}
use Rattle.std.specs.List.{find}
use Rattle.std.specs.Option.{option_map}
use Rattle.std.specs.Str.{bytes_eq}
use Rattle.pairs.specs.Lists.{listed, pairs_left}
use Rattle.pairs.specs.Pairs.{Pair}
use Rattle.pairs.specs.Records.{pair_read}
use Rattle.pairs.proofs.ListsLaws.{looked_up}
use Rattle.pairs.proofs.list.PairList.text_of.Goals as goal

pub returns : goal.returns
returns c =
    let ps : List Pair = listed c.args.self.now in
    let test = λ (q : Pair). bytes_eq q.1 c.args.res.now in
    let found : option_map pair_read c.find.result ≡ find test ps =
    find_from_yields_List test c.find.new.self _ c.find.result c.find.ensures.ran (YieldsList-from_first pair_read pairs_left ps c.iter.ensures) (λ x b q k. search (rules, tests)) in
    let text : option_map (λ x. x.now) c.map.result ≡ option_map (λ p. p.0) (option_map pair_read c.find.result) = search rules in
    text ∙ ap (option_map (λ p. p.0)) found ∙ sym (looked_up c.args.res.now ps)
