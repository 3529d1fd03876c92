use Rattle.std.proofs.Common.{◌≡◌, ℕ, ◌≤◌, List, map, length, Option, refl, ap, ◌∙◌, ap₂, arith, rules}
use Rattle.std.proofs.lemmas.List.{length-map}
use Rattle.std.proofs.lemmas.Bool.{true≢false}
use Rattle.pairs.proofs.FirstsLaws.{each_once}
use Rattle.stack.specs.Held.{memory as lent_of}
use Rattle.session.specs.Sessions.{settings}
use Rattle.walk.specs.Outcomes.{limits}
use Rattle.runs.specs.Lines.{call_of, text_read}
use Rattle.runs.specs.Runs.{Ran, lent, setup}
use Rattle.runs.specs.Steps.{memory_of}
use Rattle.runs.proofs.RaisingLaws.{raising_keeps}
use Rattle.runs.proofs.Running.{ran_moved, running_all, running_more, running_none, stepped_moved}
use Rattle.runs.proofs.ScopesLaws.{scopes_hold}
use Rattle.runs.proofs.ValuesLaws.{values_do_not_show}
use Rattle.runs.proofs.run.run.Goals as goal

pub returns-then-formers-calls : goal.returns-then-formers-calls
returns-then-formers-calls g c =
    record {
      raising = raising_keeps;
      values = values_do_not_show;
      scopes = scopes_hold;
      once = each_once;
      frames = λ _. refl;
      ends = (omega (arith, length-map c.args.calls.now call_of), refl, refl);
    }

pub loop-call-init : goal.loop-call-init
loop-call-init g c =
    let a = c.args in
    let p = c.new-session.result in
    let made = c.new-starts.ensures in (
      refl,
      refl,
      λ frames area. refl,
      running_none g.J.Journal.tells (g.S.PropertySource.means p.source.now) (settings p (length a.frames.now) (length a.area.now)) a.calls.now
          (lent a.records.now a.bytes.now a.area.now (lent_of c.new-starts.result)) a.journal.now
          c.new-starts.result c.new-marks.result p.work.total c.new-marks.ensures (ap (λ q. q.work.total) c.new-session.ensures) made.elements refl,
    )

pub step-reply-requires : goal.step-reply-requires
step-reply-requires g c =
    let r = c.loop-call.invariant.3 in
    let same : length (lent_of c.new-starts.result) ≡ length c.args.formers.now = ap length c.new-starts.ensures.memory in
    omega (arith, r.depth, r.places)

pub loop-call-preserved : goal.loop-call-preserved
loop-call-preserved g c =
    let a = c.args in
    let l = c.loop-call in
    let p = c.new-session.result in
    let v = l.invariant in
    let e = c.step-reply.ensures in
    let q = c.step-reply.new in
    let means = g.S.PropertySource.means in
    let room : length a.calls.now ≤ length (lent_of c.new-starts.result) = omega (arith, ap length c.new-starts.ensures.memory) in
    let same : settings l.session (length l.frames) (length l.area) ≡ settings p (length a.frames.now) (length a.area.now) =
    v.2 (length l.frames) (length l.area) ∙ ap₂ (settings p) l.auto.frames l.auto.area in (
      e.loan ∙ v.0,
      ap (λ x. x.now) e.session.source ∙ v.1,
      λ frames area. e.session.settings frames area ∙ v.2 frames area,
      running_more g.J.Journal.tells (means p.source.now) (settings p (length a.frames.now) (length a.area.now)) a.calls.now
          (lent a.records.now a.bytes.now a.area.now (lent_of c.new-starts.result)) a.journal.now
          l.call-index (memory_of l.marks l.records l.bytes l.starts) (memory_of q.marks q.records q.bytes q.formers) l.session.work.total q.session.work.total l.area q.area l.journal c.tell.new.self
          _ c.step-reply.result c.reply_text-text.result.now
          c.loop-call-test.true room l.auto.area v.3
          (stepped_moved (means l.session.source.now) (means p.source.now) (settings l.session (length l.frames) (length l.area)) (settings p (length a.frames.now) (length a.area.now)) (ap means v.1) same e.steps)
          (c.reply_text-text.ensures ∙ ap (λ x. text_read c.step-reply.result x q.area) c.text.ensures)
          c.total_work.result c.total_work.ensures c.tell.ensures,
    )

pub returns : goal.returns
returns g c =
    let a = c.args in
    let l = c.loop-call in
    let p = c.new-session.result in
    let v = l.invariant in
    let means = g.S.PropertySource.means in
    let first = lent_of c.new-starts.result in
    let room : length a.calls.now ≤ length first = omega (arith, ap length c.new-starts.ensures.memory) in
    let count : length (map call_of a.calls.now) ≤ length a.formers.now = omega (arith, length-map a.calls.now call_of) in
    let loan-is = v.0 ∙ c.new-starts.ensures.loan in
    let ran : (fs : List (Option ℕ)) → fs ≡ lent_of l.starts →
    Ran g.J.Journal.tells (means a.source.now) (setup a.syntax a.max_expansion_depth a.max_total_work (length a.frames.now) (lent a.records.now a.bytes.now a.area.now a.formers.now))
    (map call_of a.calls.now) (lent a.records.now a.bytes.now a.area.now a.formers.now) a.journal.now l.marks (lent l.records l.bytes l.area fs) l.journal =
    λ fs back.
    ran_moved g.J.Journal.tells (means p.source.now) (means a.source.now) (settings p (length a.frames.now) (length a.area.now))
    (record { syntax = a.syntax; limits = limits a.max_expansion_depth a.max_total_work; frames = length a.frames.now; area = length a.area.now })
    a.records.now a.bytes.now a.area.now first a.formers.now (map call_of a.calls.now) a.journal.now l.marks (lent l.records l.bytes l.area fs) l.journal
    (ap (λ x. means x.source.now) c.new-session.ensures) (ap (λ x. settings x (length a.frames.now) (length a.area.now)) c.new-session.ensures) c.new-starts.ensures.memory
    (running_all g.J.Journal.tells (means p.source.now) (settings p (length a.frames.now) (length a.area.now)) a.calls.now
    (lent a.records.now a.bytes.now a.area.now first) a.journal.now l.call-index l.marks l.records l.bytes l.starts l.session.work.total l.area l.journal
    c.loop-call-test.false room v.3 fs back) in
    record {
      raising = raising_keeps;
      values = values_do_not_show;
      scopes = scopes_hold;
      once = each_once;
      frames = λ h. absurd (true≢false h);
      ends = (count, ran _ (search rules));
    }
