use Rattle.std.proofs.Common.{refl, inl, inr}
use Rattle.walk.proofs.Reaching.{reach_begins, reach_replaced}
use Rattle.walk.proofs.apply.begin_selected.Goals as goal

pub returns-in-Root : goal.returns-in-Root
returns-in-Root c =
    let d = c.args.depth in
    elim c.in-Root.is [
      | inl e ↦ rw e (λ means deep aim left es r. reach_replaced d c.replace.ensures r)
      | inr e ↦ rw e (λ means deep aim left es r. reach_replaced d c.replace.ensures r)
    ]

pub returns-in-RequiredButUnset : goal.returns-in-RequiredButUnset
returns-in-RequiredButUnset c =
    elim c.in-RequiredButUnset.is [
      | inl p ↦ rw p.1 (λ means deep aim left es r. reach_begins refl refl (c.clear.ensures.holds aim.lent) r)
      | inr p ↦ rw p.1 (λ means deep aim left es r. reach_begins refl refl (c.clear.ensures.holds aim.lent) r)
    ]
