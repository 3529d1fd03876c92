use Rattle.std.proofs.Common.{◌≡◌, ℕ, min, List, length, take, sym, ap, ◌∙◌, arith}
use Rattle.std.proofs.lemmas.List.{take-map}
use Rattle.pairs.specs.Records.{pair_of, pairs_in}
use Rattle.pairs.specs.declared.record.PairRecord.{PairRecord}
use Rattle.pairs.proofs.RecordsLaws.{take_bound}
use Rattle.pairs.proofs.list.PairList.first.Goals as goal

pub returns : goal.returns
returns c =
    let bytes : List ℕ = c.args.self.now.bytes.now in
    let rs : List PairRecord = c.args.self.now.records.now in
    let end : c.min-end.result ≡ min c.args.n (length rs) = omega (arith, c.min-end.ensures) in
    ap (λ k. pairs_in bytes (take k rs)) end
    ∙ ap (pairs_in bytes) (take_bound rs c.args.n (length rs) (omega arith))
    ∙ sym (take-map (pair_of bytes) c.args.n rs)
