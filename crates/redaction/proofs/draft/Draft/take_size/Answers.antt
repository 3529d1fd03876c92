use Rattle.std.proofs.Common.{◌≡◌, ℕ, ◌+◌, List, [], ◌∷◌, ◌++◌, length, take, if◌then◌else◌, sym, ap, ◌∙◌, subst, arith}
use Rattle.std.proofs.lemmas.Result.{err_from_is_err_and}
use Rattle.pairs.specs.Lists.{listed, pairs_left}
use Rattle.pairs.specs.Pairs.{Pair, has}
use Rattle.pairs.specs.Records.{pair_read}
use Rattle.pairs.specs.Sizes.{of_size}
use Rattle.pairs.proofs.FirstsLaws.{firsts_news}
use Rattle.pairs.proofs.News.{news}
use Rattle.redaction.specs.Drafts.{Kept, given_up, state_of}
use Rattle.redaction.specs.Redactions.{State, step, steps}
use Rattle.redaction.specs.declared.draft.Unmade.{Unmade}
use Rattle.redaction.proofs.StepsLaws.{front_more, kept_by, left_next, left_other, passed_up, steps_given_up}
use Rattle.redaction.proofs.draft.Draft.take_size.Goals as goal
use Rattle.redaction.proofs.draft.Draft.take_size.Goals.{then-pair-size+in_ok-take_pair, else-pair-size}

pub returns-in_err-take_pair-clause-says : goal.returns-in_err-take_pair-clause-says
returns-in_err-take_pair-clause-says c =
    let n : ℕ = length c.args.self.now.area.now in
    let k : ℕ = c.args.size in
    let ps : List Pair = listed c.args.pairs.now in
    let seen : List Pair = take c.loop-i.i ps in
    let p : Pair = pair_read c.in-Some.pair in
    let rest : List Pair = pairs_left c.next.new.self in
    let was : State = state_of c.loop-i.self in
    let err = err_from_is_err_and c.from_residual.result c.from_residual.ensures.1 in
    let e : Unmade = c.in_err-take_pair.field-0.0 in
    let taken : given_up e ≡ (if has seen p then was else step n was p) =
    c.in_err-take_pair.ensures.says ∙ ap (λ qs. if has qs p then was else step (length c.loop-i.self.area.now) was p) c.first.ensures
    ∙ ap (λ m. if has seen p then was else step m was p) c.loop-i.invariant.kept.room in
    let left : List Pair = of_size k (news (seen ++ (p ∷ [])) rest) in
    passed_up c.take_pair.new.self c.from_residual.result e err.0 err.1 err.2
    ∙ sym (steps_given_up n e left)
    ∙ ap (λ s. steps n s left) taken
    ∙ sym (left_next n k seen p rest was c.if-pair-size.true)
    ∙ sym (ap (λ qs. steps n was (of_size k (news seen qs))) c.in-Some.ensures.steps)
    ∙ c.loop-i.invariant.taken
    ∙ ap (λ qs. steps n (state_of c.args.self.now) (of_size k qs)) (sym (firsts_news ps))

pub loop-i-preserved : goal.loop-i-preserved
loop-i-preserved c =
    let n : ℕ = length c.args.self.now.area.now in
    let k : ℕ = c.args.size in
    let ps : List Pair = listed c.args.pairs.now in
    let seen : List Pair = take c.loop-i.i ps in
    let p : Pair = pair_read c.in-Some.pair in
    let rest : List Pair = pairs_left c.next.new.self in
    let was : State = state_of c.loop-i.self in
    let here : pairs_left c.loop-i.pair-iterator ≡ p ∷ rest = c.in-Some.ensures.steps in
    let on = front_more ps c.loop-i.i p rest (sym c.loop-i.invariant.rest ∙ here) in
    let begun : steps n was (of_size k (news seen (p ∷ rest))) ≡ steps n (state_of c.args.self.now) (of_size k (news [] ps)) =
    sym (ap (λ qs. steps n was (of_size k (news seen qs))) here) ∙ c.loop-i.invariant.taken in
    let next : (s : State) → steps n s (of_size k (news (take (c.loop-i.i + 1) ps) rest)) ≡ steps n s (of_size k (news (seen ++ (p ∷ [])) rest)) =
    λ s. ap (λ qs. steps n s (of_size k (news qs rest))) on.2 in
    let both : (steps n (state_of c.if-pair-size.self) (of_size k (news (take (c.loop-i.i + 1) ps) rest)) ≡ steps n (state_of c.args.self.now) (of_size k (news [] ps)))
    × Kept c.args.self.now c.if-pair-size.self =
    elim c.if-pair-size.branch [
      | then-pair-size+in_ok-take_pair w ↦
          let now : state_of c.if-pair-size.self ≡ (if has seen p then was else step n was p) =
          ap state_of w.self-is ∙ w.in_ok-take_pair.ensures.says
          ∙ ap (λ qs. if has qs p then was else step (length c.loop-i.self.area.now) was p) w.first.ensures
          ∙ ap (λ m. if has seen p then was else step m was p) c.loop-i.invariant.kept.room in (
            next (state_of c.if-pair-size.self) ∙ ap (λ s. steps n s (of_size k (news (seen ++ (p ∷ [])) rest))) now ∙ sym (left_next n k seen p rest was w.if-pair-size.true) ∙ begun,
            kept_by (sym w.self-is) c.loop-i.invariant.kept w.take_pair.ensures.keeps,
          )
      | else-pair-size w ↦ (
        next (state_of c.if-pair-size.self)
            ∙ ap (λ d. steps n (state_of d) (of_size k (news (seen ++ (p ∷ [])) rest))) w.self-is
            ∙ sym (left_other n k seen p rest was w.if-pair-size.false)
            ∙ begun,
        subst (Kept c.args.self.now) (sym w.self-is) c.loop-i.invariant.kept,
      )
    ] in
    record { rest = on.1; low = omega (arith, on.0); fits = c.loop-i.invariant.fits; taken = both.0; kept = both.1 }

pub returns-clause-says : goal.returns-clause-says
returns-clause-says c =
    let n : ℕ = length c.args.self.now.area.now in
    let k : ℕ = c.args.size in
    let ps : List Pair = listed c.args.pairs.now in
    sym (ap (λ qs. steps n (state_of c.loop-i.self) (of_size k (news (take c.loop-i.i ps) qs))) c.in-None.ensures.steps.0) ∙ c.loop-i.invariant.taken
    ∙ ap (λ qs. steps n (state_of c.args.self.now) (of_size k qs)) (sym (firsts_news ps))
