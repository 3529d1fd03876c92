use Rattle.std.proofs.Common.{◌≡◌, ℕ, suc, ◌+◌, ◌-◌, List, length, take, drop, sym, ap, ◌∙◌, arith}
use Rattle.std.proofs.lemmas.List.{length-drop, take_rest}
use Rattle.matches.specs.Places.{places}
use Rattle.matches.proofs.PlacesLaws.{count_none, count_on}
use Rattle.matches.proofs.matching.count_matches.Goals as goal

pub loop-at-preserved : goal.loop-at-preserved
loop-at-preserved c =
    let n : List ℕ = c.args.needle.now in
    let rest : List ℕ = c.loop-at.rest.now in
    let k : ℕ = c.in-Some.at + length n in
    let left : take (length rest - k) (drop k rest) ≡ drop k rest = take_rest rest k in
    let found : length (places n rest) ≡ suc (length (places n (drop k rest))) = count_on n c.in-Some.ensures.some rest c.in-Some.at (sym c.in-Some.ensures.says) in
    record {
      counted = ap (λ bs. c.loop-at.count + 1 + length (places n bs)) left ∙ omega arith;
      low = omega (arith, ap length left, length-drop k rest, c.in-Some.ensures.some, c.in-Some.ensures.within);
    }

pub returns : goal.returns
returns c = omega (arith, count_none (places c.args.needle.now c.loop-at.rest.now) (sym c.in_default.ensures.says))
