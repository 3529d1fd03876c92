use Rattle.std.proofs.Common.{◌≡◌, ℕ, ◌-◌, List, length, refl, sym, ap, ◌∙◌, arith}
use Rattle.std.proofs.lemmas.Result.{err_from_is_err_and}
use Rattle.pairs.specs.Lists.{listed, scope}
use Rattle.pairs.specs.Pairs.{Pair}
use Rattle.pairs.specs.Sizes.{of_size}
use Rattle.redaction.specs.Drafts.{given_up, state_of}
use Rattle.redaction.specs.Redactions.{State, steps}
use Rattle.redaction.specs.declared.draft.Unmade.{Unmade}
use Rattle.redaction.proofs.DownLaws.{down_from, down_next, down_start, down_step, size_low}
use Rattle.redaction.proofs.StepsLaws.{kept_by, passed_up, steps_append, steps_given_up}
use Rattle.redaction.proofs.draft.Draft.take_pairs.Goals as goal

pub loop-size-init : goal.loop-size-init
loop-size-init c =
    let n : ℕ = length c.args.self.now.area.now in
    let s : State = state_of c.args.self.now in
    record {
      taken = ap (λ k. steps n s (down_from k (scope c.args.pairs.now))) c.longest-size.ensures ∙ ap (steps n s) (down_start (listed c.args.pairs.now));
      kept = record { given = refl; room = refl; lender = refl };
    }

pub returns-in_err-take_size-clause-says : goal.returns-in_err-take_size-clause-says
returns-in_err-take_size-clause-says c =
    let qs : List Pair = scope c.args.pairs.now in
    let n : ℕ = length c.args.self.now.area.now in
    let k : ℕ = c.loop-size.size in
    let was : State = state_of c.loop-size.self in
    let err = err_from_is_err_and c.from_residual.result c.from_residual.ensures.1 in
    let e : Unmade = c.in_err-take_size.field-0.0 in
    let taken : given_up e ≡ steps n was (of_size k qs) = c.in_err-take_size.ensures.says ∙ ap (λ m. steps m was (of_size k qs)) c.loop-size.invariant.kept.room in
    passed_up c.take_size.new.self c.from_residual.result e err.0 err.1 err.2
    ∙ sym (steps_given_up n e (down_from (k - 1) qs))
    ∙ ap (λ s. steps n s (down_from (k - 1) qs)) taken
    ∙ sym (steps_append n was (of_size k qs) (down_from (k - 1) qs))
    ∙ ap (steps n was) (sym (down_step k qs c.loop-size-test.true))
    ∙ c.loop-size.invariant.taken

pub loop-size-smaller : goal.loop-size-smaller
loop-size-smaller c =
    let h = size_low (c.loop-size.size - 1) (listed c.args.pairs.now) in
    omega arith

pub loop-size-preserved : goal.loop-size-preserved
loop-size-preserved c =
    let ps : List Pair = listed c.args.pairs.now in
    let qs : List Pair = scope c.args.pairs.now in
    let n : ℕ = length c.args.self.now.area.now in
    let k : ℕ = c.loop-size.size in
    let was : State = state_of c.loop-size.self in
    let now : state_of c.take_size.new.self ≡ steps n was (of_size k qs) =
    c.in_ok-take_size.ensures.says ∙ ap (λ m. steps m was (of_size k qs)) c.loop-size.invariant.kept.room in
    record {
      taken = ap (λ s. steps n s (down_from c.size_within-size.result qs)) now
          ∙ ap (λ j. steps n (steps n was (of_size k qs)) (down_from j qs)) c.size_within-size.ensures
          ∙ ap (steps n (steps n was (of_size k qs))) (sym (down_next (k - 1) ps))
          ∙ sym (steps_append n was (of_size k qs) (down_from (k - 1) qs))
          ∙ ap (steps n was) (sym (down_step k qs c.loop-size-test.true))
          ∙ c.loop-size.invariant.taken;
      kept = kept_by refl c.loop-size.invariant.kept c.take_size.ensures.keeps;
    }
