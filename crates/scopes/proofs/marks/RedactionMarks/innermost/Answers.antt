use Rattle.std.proofs.Common.{◌≡◌, ℕ, ◌-◌, ◌≤◌, min, List, length, take, drop, sym, ap, ◌∙◌, arith}
use Rattle.pairs.specs.Pairs.{Pair}
use Rattle.pairs.specs.Records.{pairs_in}
use Rattle.pairs.specs.declared.record.PairRecord.{PairRecord}
use Rattle.pairs.proofs.RecordsLaws.{take_bound}
use Rattle.scopes.specs.Marks.{from_start}
use Rattle.scopes.proofs.MarksLaws.{pairs_drop}
use Rattle.scopes.proofs.marks.RedactionMarks.innermost.Goals as goal

pub returns-in-Some : goal.returns-in-Some
returns-in-Some c =
    let rs : List PairRecord = c.args.records.now in
    let bytes : List ℕ = c.args.bytes.now in
    let used : ℕ = c.args.self.now.records in
    let start : ℕ = c.in-Some.start in
    let k : c.min-used.result - 0 ≡ min used (length rs) = omega (arith, c.min-used.ensures) in
    let low : length rs ≤ length rs = omega arith in
    let front : take (c.min-used.result - 0) rs ≡ take used rs = ap (λ n. take n rs) k ∙ take_bound rs used (length rs) low in
    let inner : List Pair = drop start (pairs_in bytes (take used rs)) in
    c.since-in-Some.ensures.listed ∙ ap (λ xs. pairs_in bytes (drop start xs)) front ∙ pairs_drop bytes start (take used rs)
    ∙ ap (λ s. from_start s (pairs_in bytes (take used rs))) (sym c.in-Some.is)
