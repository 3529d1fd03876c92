use Rattle.std.proofs.Common.{ℕ, ◌+◌, ◌-◌, List, take, Ok, subst}
use Rattle.std.proofs.lemmas.List.{take_rest}
use Rattle.std.proofs.lemmas.Result.{err_from_is_err_and}
use Rattle.expansion.specs.Events.{Event}
use Rattle.walk.specs.Frames.{Applies, OpensBy, moved, worked}
use Rattle.walk.proofs.Walking.{Walking, walk_asks, walk_done, walk_end, walk_nested, walk_on, walk_plain, walk_plain_stop, walk_refused, walk_stop}
use Rattle.walk.proofs.step.walk_frame.Given.{Over}
use Rattle.walk.proofs.step.walk_frame.Goals as goal
use Rattle.walk.proofs.step.walk_frame.Goals.{In_ok-plain}

pub returns-in_err-plain-clause-goes : goal.returns-in_err-plain-clause-goes
returns-in_err-plain-clause-goes g c =
    let p = err_from_is_err_and c.from_residual.result c.from_residual.ensures.1 in
    rw (p.1, p.2) (walk_plain_stop c.items.invariant c.requires _ (take_rest (take c.args.frame.now.end c.args.given.now.text.now) c.items.frame.cursor) c.pass_plain.new.walk _ (c.in_err-plain.ensures.goes _ _))

-- the frame once the bytes before its next `$` are passed
passed : (g : Over) (c : In_ok-plain g)
    → Walking (g.S.PropertySource.means c.args.given.now.source.now) c.args.given.now.max_depth c.args.given.now.text.now c.args.depth c.args.frame.now c.args.walk.now (moved c.items.frame (c.items.frame.cursor + c.in_ok-plain.plain)) c.pass_plain.new.walk
passed g c =
    let e = c.in_ok-plain.ensures in
    walk_plain c.items.invariant c.requires _ (take_rest (take c.args.frame.now.end c.args.given.now.text.now) c.items.frame.cursor) c.pass_plain.new.walk _ e.within (e.goes _ _)

pub returns-in_err-looked-clause-goes : goal.returns-in_err-looked-clause-goes
returns-in_err-looked-clause-goes g c =
    let e = c.in_err-looked.ensures in
    let p = err_from_is_err_and c.from_residual-in_err-looked.result c.from_residual-in_err-looked.ensures.1 in
    rw (p.1, p.2) (λ f aim left es r. walk_stop (passed g (goal.at.returns-in_err-looked-clause-goes g c).In_ok-plain) c.requires e.work f aim left es r _ e.says)

pub returns-in_default-clause-goes : goal.returns-in_default-clause-goes
returns-in_default-clause-goes g c = λ f aim left es r.
    let e = c.in_ok-looked.ensures in
    walk_end (passed g (goal.at.returns-in_default-clause-goes g c).In_ok-plain) c.requires e.work f aim left es r _ c.in_default.is e.says

pub apply_action-requires : goal.apply_action-requires
apply_action-requires g c =
    let e = c.in_ok-looked.ensures in
    walk_asks (passed g (goal.at.apply_action-requires g c).In_ok-plain) c.requires e.work _ c.in-Some.step c.in-Some.is e.says e.within e.asked

pub returns-in_err-nested-clause-goes : goal.returns-in_err-nested-clause-goes
returns-in_err-nested-clause-goes g c =
    let e = c.in_ok-looked.ensures in
    let p = err_from_is_err_and c.from_residual-in_err-nested.result c.from_residual-in_err-nested.ensures.1 in
    rw (p.1, p.2) (walk_refused (passed g (goal.at.returns-in_err-nested-clause-goes g c).In_ok-plain) c.requires e.work _ c.in-Some.step c.in-Some.is e.says e.within c.apply_action.new.walk _ c.in_err-nested.ensures.goes)

pub returns-in-Some-2-clause-goes : goal.returns-in-Some-2-clause-goes
returns-in-Some-2-clause-goes g c =
    let e = c.in_ok-looked.ensures in
    let a = c.in_ok-nested.ensures in
    let st = c.apply_action.new.walk in
    let opens = subst (λ o. OpensBy (c.in-Some.step.next - 1) c.items.frame.syntax c.in-Some.step.action (Ok o)) c.in-Some-2.is a.opens in
    walk_nested (passed g (goal.at.returns-in-Some-2-clause-goes g c).In_ok-plain) c.requires e.work _ c.in-Some.step c.in-Some.is e.says e.within st c.in-Some-2.nested opens
    (subst (λ o. (nested : ℕ → List ℕ → List Event → List Event) → Applies (g.S.PropertySource.means c.args.given.now.source.now) c.args.given.now.max_depth nested c.args.depth c.items.frame.syntax (c.in-Some.step.next - 1) c.in-Some.step.action (worked c.look_at.new.work c.pass_plain.new.walk) st (Ok o)) c.in-Some-2.is a.goes)

pub items-preserved : goal.items-preserved
items-preserved g c =
    let e = c.in_ok-looked.ensures in
    walk_on (passed g (goal.at.items-preserved g c).In_ok-plain) c.requires e.work _ c.in-Some.step c.in-Some.is e.says e.within c.apply_action.new.walk _ c.in_default-2.is c.in_ok-nested.ensures.goes

pub returns-clause-goes : goal.returns-clause-goes
returns-clause-goes g c = walk_done c.items.invariant c.requires c.items-test.false
