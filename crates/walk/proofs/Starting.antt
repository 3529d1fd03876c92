-- How a walk begins.
use Rattle.std.proofs.Common.{◌≡◌, ℕ, ◌+◌, ◌-◌, List, [], ◌∷◌, length, Some, None, sym, ap, ap₂, arith}
use Rattle.std.proofs.lemmas.List.{take_all}
use Rattle.names.specs.declared.PropertySyntax.{PropertySyntax}
use Rattle.source.specs.Shapes.{Shape}
use Rattle.items.specs.declared.action.FrameCompletion.TheVariants.{Root}
use Rattle.items.specs.Pieces.{literal}
use Rattle.walk.specs.declared.frame.ExpansionFrame.{ExpansionFrame}
use Rattle.expansion.specs.Events.{begin, charge, emits, events, first_dollar, trace}
use Rattle.walk.specs.Stacks.{pending}

module _ (sh : List ℕ → Shape) (s : PropertySyntax) (text : List ℕ) where
  pub begins_plain : None ≡ first_dollar 0 text → events sh s text ≡ charge (length text) ∷ emits (literal text) []
  unfolding events
  begins_plain e = ap (begin sh s text) (sym e)

  pub begins_walked : (i : ℕ) → Some i ≡ first_dollar 0 text → events sh s text ≡ charge (i + 1) ∷ trace (length text) 1 sh s 0 text []
  unfolding events
  begins_walked i e = ap (begin sh s text) (sym e)

abbrev pub root_frame : PropertySyntax → List ℕ → ExpansionFrame
root_frame s text = record { start = 0; cursor = 0; end = length text; syntax = s; completion = Root }

pub root_events : (sh : List ℕ → Shape) (s : PropertySyntax) (text : List ℕ) → trace (length text) 1 sh s 0 text [] ≡ pending sh text 0 (root_frame s text ∷ []) []
root_events sh s text =
    let n : length text ≡ length text - 0 = omega arith in
    ap₂ (λ f l. trace f 1 sh s 0 l []) n (sym (take_all (length text) text (omega arith)))
