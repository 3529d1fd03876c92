-- What the code finds at a place of a frame, before anything is asked of the source.
use Rattle.std.specs.Prelude.{◌≡◌, ℕ, ◌+◌, ◌-◌, ◌≤◌, List, [], ◌∷◌, length, Ok, Err, Result, IfOk}
use Rattle.budget.specs.declared.WorkBudget.{WorkBudget}
use Rattle.budget.specs.declared.WorkFault.{WorkFault}
use Rattle.budget.specs.Charges.{paid, spent}
use Rattle.names.specs.declared.PropertySyntax.{PropertySyntax}
use Rattle.source.specs.Shapes.{Shape}
use Rattle.references.specs.declared.brace.BraceBody.TheVariants.{Unclosed, Malformed, Reference}
use Rattle.references.specs.Reads.{Within, brace_of}
use Rattle.items.specs.declared.read.Found.{Found}
use Rattle.items.specs.declared.read.Found.TheVariants.{Byte, Escape, Braces, Bare}
use Rattle.items.specs.Pieces.{lit}
use Rattle.items.specs.Items.{Act, keep, replace, Item, brace_act, plain_act}

-- what is done at a place, and how many further bytes that takes
pub record Done : Type 0 where
  pub act : Act
  pub more : ℕ

-- an item without its charges
abbrev pub done : Item → Done
done it = record { act = it.act; more = it.more }

-- how many further bytes are taken by what was found
abbrev pub found_more : Found → ℕ
found_more (Byte b) = 0
found_more Escape = 1
found_more (Braces Unclosed) = 0
found_more (Braces (Malformed k)) = k + 2
found_more (Braces (Reference k r)) = k + 2
found_more (Bare name) = length name.now

-- what is done for what was found at the place i, with m bytes behind it in the frame
module _ (sh : List ℕ → Shape) (s : PropertySyntax) (i m : ℕ) where
  abbrev pub found_act : Found → Act
  found_act (Byte b) = keep b
  found_act Escape = replace (lit 36 ∷ [])
  found_act (Braces body) = brace_act sh s i (m - 1) (brace_of body)
  found_act (Bare name) = plain_act s (sh name.now) (i + 1) name.now

  abbrev pub found_told : Result Found WorkFault → Result Done WorkFault
  found_told (Ok f) = Ok (record { act = found_act f; more = found_more f })
  found_told (Err e) = Err e

-- what was found lies within the m bytes behind its first
abbrev pub Held : ℕ → Found → Type 0
Held m (Byte b) = Unit {0}
Held m Escape = 1 ≤ m
Held m (Braces body) = (1 ≤ m) × Within (m - 1) (Ok body)
Held m (Bare name) = length name.now ≤ m

-- A reading, with m bytes behind the first, finds an item, by any shapes and at any place: it charges what the item charges, and what was found is done as the item says.
pub record Reads (s : PropertySyntax) (m : ℕ) (w w' : WorkBudget) (it : (List ℕ → Shape) → ℕ → Item) (r : Result Found WorkFault) : Type 0 where
  pub says : (sh : List ℕ → Shape) (i : ℕ) → found_told sh s i m r ≡ paid w (it sh i).looks (done (it sh i))
  pub work : (sh : List ℕ → Shape) (i : ℕ) → w' ≡ spent w (it sh i).looks
  pub within : IfOk r (λ f. Held m f)
