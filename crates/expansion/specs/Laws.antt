-- What holds of every walk.
use Rattle.std.specs.Prelude.{◌≡◌, ℕ, zero, suc, ◌+◌, ◌-◌, ◌^◌, ◌≤◌, Bool, true, false, ◌||◌, List, [], ◌∷◌, length, Option}
use Rattle.names.specs.declared.PropertySyntax.{PropertySyntax}
use Rattle.source.specs.Shapes.{Shape, shape, shapes}
use Rattle.references.specs.declared.error.PropertyError.{PropertyError}
use Rattle.references.specs.declared.error.PropertyError.TheVariants.{Unresolved, InvalidName, RequiredButUnset, RequiredButEmpty, ExpansionDepthLimitExceeded, ExpansionWorkLimitExceeded}
use Rattle.items.specs.Pieces.{Piece}
use Rattle.items.specs.Items.{Act, keep, replace, select, require, refuse, Item, item}
use Rattle.expansion.specs.Walks.{Limits, Outcome, ended, stopped, walk}

-- whether a refusal is for a limit
abbrev pub is_limit : PropertyError → Bool
is_limit (Unresolved name) = false
is_limit (InvalidName part) = false
is_limit (RequiredButUnset name len) = false
is_limit (RequiredButEmpty name len) = false
is_limit (ExpansionDepthLimitExceeded depth limit) = true
is_limit (ExpansionWorkLimitExceeded work limit) = true

-- whether a walk stopped at a limit
abbrev pub at_limit : Outcome → Bool
at_limit (ended total changed ps) = false
at_limit (stopped total e told) = is_limit e

-- An outcome that is no refusal for a limit stays as it is under higher limits, its total too.
abbrev pub LimitsOnlyRefuse : Type 0
LimitsOnlyRefuse =
    (sh : List ℕ → Shape) (s : PropertySyntax) (most more : Limits) (t : ℕ) (text : List ℕ)
    → most.depth ≤ more.depth → most.work ≤ more.work → at_limit (walk sh s most t text) ≡ false
    → walk sh s more t text ≡ walk sh s most t text

-- Limits that no walk over the text comes to: a total is at most 2^64 - 1, and frames are nested no deeper than the text is long.
pub record Unhindered (most : Limits) (text : List ℕ) : Type 0 where
  pub work : 2 ^ 64 - 1 ≤ most.work
  pub depth : length text ≤ most.depth

-- Under such limits no walk over the text is refused for one.
abbrev pub UnhinderedFree : Type 0
UnhinderedFree =
    (sh : List ℕ → Shape) (s : PropertySyntax) (most : Limits) (t : ℕ) (text : List ℕ) → Unhindered most text → at_limit (walk sh s most t text) ≡ false

-- Two sources under which each name has the same shape give the same outcomes: no value's bytes decide anything.
abbrev pub ShapesDecide : Type 0
ShapesDecide =
    (m n : List ℕ → Option (List ℕ)) → ((name : List ℕ) → shape (m name) ≡ shape (n name))
    → (s : PropertySyntax) (most : Limits) (t : ℕ) (text : List ℕ)
    → walk (shapes m) s most t text ≡ walk (shapes n) s most t text

-- whether something is put in the place of bytes
abbrev pub replaces : Act → Bool
replaces (keep b) = false
replaces (replace ps) = true
replaces (select at w) = true
replaces (require v name at w) = false
replaces (refuse e) = false

-- whether some item of a frame's bytes is a replacement, the first byte being at the place i, after the first k
unfoldable pub some_replaced : (List ℕ → Shape) → PropertySyntax → (i : ℕ) → List ℕ → (k : ℕ) → Bool
some_replaced sh s i [] k = false
some_replaced sh s i (b ∷ bs) (suc k) = some_replaced sh s (i + 1) bs k
some_replaced sh s i (b ∷ bs) zero = let it : Item = item sh s i b bs in replaces it.act || some_replaced sh s (i + 1) bs it.more

-- A walk that ends marks its text as changed exactly where some item of the text itself is a replacement.
abbrev pub ChangedByRoot : Type 0
ChangedByRoot =
    (sh : List ℕ → Shape) (s : PropertySyntax) (most : Limits) (t u : ℕ) (text : List ℕ) (c : Bool) (ps : List Piece)
    → walk sh s most t text ≡ ended u c ps → c ≡ some_replaced sh s 0 text 0
