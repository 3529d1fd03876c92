-- What the code answers for a place of a frame.
use Rattle.std.specs.Prelude.{◌≡◌, ℕ, zero, suc, ◌+◌, ◌-◌, ◌<◌, ◌≤◌, List, [], ◌∷◌, length, Some, None, Ok, Err, Option, Result}
use Rattle.std.specs.Option.{option_map}
use Rattle.budget.specs.declared.WorkBudget.{WorkBudget}
use Rattle.budget.specs.Charges.{Work, taken, over, works}
use Rattle.names.specs.declared.PropertySyntax.{PropertySyntax}
use Rattle.source.specs.Shapes.{Shape, unset, empty, filled}
use Rattle.references.specs.declared.error.PropertyError.{PropertyError}
use Rattle.references.specs.declared.error.PropertyError.TheVariants.{ExpansionWorkLimitExceeded}
use Rattle.items.specs.declared.action.Action.{Action}
use Rattle.items.specs.declared.action.Action.TheVariants.{Keep, Dollar, Property, Nothing, Interpolate}
use Rattle.items.specs.declared.action.FrameCompletion.{FrameCompletion}
use Rattle.items.specs.declared.action.FrameCompletion.TheVariants.{Root, Append, RequiredButUnset, RequiredButEmpty}
use Rattle.items.specs.declared.action.Step.{Step}
use Rattle.items.specs.Pieces.{lit, val}
use Rattle.items.specs.Items.{Act, keep, replace, select, require, refuse, Item, item}

-- what a name is, by the length of its value
abbrev pub shape_by : Option ℕ → Shape
shape_by None = unset
shape_by (Some zero) = empty
shape_by (Some (suc n)) = filled

-- selected text ends at the close
abbrev pub chosen : ℕ → List ℕ → FrameCompletion → Act
chosen close w Root = keep 0
chosen close w Append = select (close - length w) w
chosen close w (RequiredButUnset name) = require unset name (close - length w) w
chosen close w (RequiredButEmpty name) = require empty name (close - length w) w

abbrev pub act_of : ℕ → Action → Act
act_of close (Keep b) = keep b
act_of close Dollar = replace (lit 36 ∷ [])
act_of close (Property name len) = replace (val name.now ∷ [])
act_of close Nothing = replace []
act_of close (Interpolate text completion) = chosen close text.now completion

-- a refusal is an error, and any other act an answer
abbrev pub acted : Act → Result Act PropertyError
acted (keep b) = Ok (keep b)
acted (replace ps) = Ok (replace ps)
acted (select at w) = Ok (select at w)
acted (require sh name at w) = Ok (require sh name at w)
acted (refuse e) = Err e

abbrev pub action_told : ℕ → Result Action PropertyError → Result Act PropertyError
action_told close (Ok a) = Ok (act_of close a)
action_told close (Err e) = Err e

-- an act and the place behind it
pub record Looked : Type 0 where
  pub act : Act
  pub next : ℕ

abbrev pub step_of : Step → Looked
step_of p = record { act = act_of (p.next - 1) p.action; next = p.next }

abbrev pub looked_told : Result (Option Step) PropertyError → Result (Option Looked) PropertyError
looked_told (Ok None) = Ok None
looked_told (Ok (Some p)) = Ok (Some (step_of p))
looked_told (Err e) = Err e

abbrev pub with_next : Result Act PropertyError → ℕ → Result Looked PropertyError
with_next (Ok a) next = Ok (record { act = a; next = next })
with_next (Err e) next = Err e

-- an answer under a budget: a refused charge comes first
abbrev pub judged : {X : Type 0} → Work → ℕ → Result X PropertyError → Result X PropertyError
judged (taken t) limit r = r
judged (over t) limit r = Err (ExpansionWorkLimitExceeded t limit)

-- an item at the place i
abbrev pub looking : WorkBudget → ℕ → Item → Result Looked PropertyError
looking w i it = judged (works w it.looks) w.limit (with_next (acted it.act) (i + 1 + it.more))

abbrev pub some_looked : Result Looked PropertyError → Result (Option Looked) PropertyError
some_looked (Ok l) = Ok (Some l)
some_looked (Err e) = Err e

module _ (sh : List ℕ → Shape) (s : PropertySyntax) (i : ℕ) where
  -- the charges at the place i of a frame, by the bytes from there on
  abbrev pub charges_at : List ℕ → List ℕ
  charges_at [] = []
  charges_at (b ∷ bs) = (item sh s i b bs).looks

  -- what is found there; none at the frame's end
  abbrev pub look : WorkBudget → List ℕ → Result (Option Looked) PropertyError
  look w [] = Ok None
  look w (b ∷ bs) = some_looked (looking w i (item sh s i b bs))

-- where a step ends: behind its place and within the n bytes; selected text is shorter by five at least
abbrev pub Ends : ℕ → ℕ → Action → ℕ → Type 0
Ends n i (Keep b) next = (i < next) × (next ≤ n)
Ends n i Dollar next = (i < next) × (next ≤ n)
Ends n i (Property name len) next = (i < next) × (next ≤ n)
Ends n i Nothing next = (i < next) × (next ≤ n)
Ends n i (Interpolate text completion) next = (i + (length text.now + 5) ≤ next) × (next ≤ n)

-- What a reference to a name may yield, by the length of the name's value: a property is that name with that length, and selected text is shorter than m.
abbrev pub Yields : List ℕ → Option ℕ → ℕ → Action → Type 0
Yields name value m (Keep b) = Unit {0}
Yields name value m Dollar = Unit {0}
Yields name value m (Property x len) = (x.now ≡ name) × (Some len ≡ value)
Yields name value m Nothing = Unit {0}
Yields name value m (Interpolate text completion) = length text.now < m

abbrev pub Stays : ℕ → ℕ → Result (Option Step) PropertyError → Type 0
Stays n i (Ok None) = Unit {0}
Stays n i (Ok (Some p)) = Ends n i p.action p.next
Stays n i (Err e) = Unit {0}

-- the length that comes with a property is that of its value
abbrev pub Known : (List ℕ → Option (List ℕ)) → Action → Type 0
Known means (Keep b) = Unit {0}
Known means Dollar = Unit {0}
Known means (Property name len) = Some len ≡ option_map length (means name.now)
Known means Nothing = Unit {0}
Known means (Interpolate text completion) = Unit {0}

abbrev pub AskedLook : (List ℕ → Option (List ℕ)) → Result (Option Step) PropertyError → Type 0
AskedLook means (Ok None) = Unit {0}
AskedLook means (Ok (Some p)) = Known means p.action
AskedLook means (Err e) = Unit {0}
