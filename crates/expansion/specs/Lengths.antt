-- How long messages and texts are.
use Rattle.std.specs.Prelude.{◌≡◌, ℕ, ◌*◌, ◌≤◌, Bool, List, [], length, Some, Option}
use Rattle.names.specs.declared.PropertySyntax.{PropertySyntax}
use Rattle.source.specs.Shapes.{Shape, shapes, values}
use Rattle.references.specs.declared.error.PropertyError.{PropertyError}
use Rattle.references.specs.declared.error.PropertyError.TheVariants.{Unresolved, InvalidName, RequiredButUnset, RequiredButEmpty, ExpansionDepthLimitExceeded, ExpansionWorkLimitExceeded}
use Rattle.items.specs.Pieces.{Piece, spelled}
use Rattle.expansion.specs.Walks.{Limits, ended, stopped, walk}

-- a refusal and its message: a required property tells how long it is, and any other has none
abbrev pub SaysLength : PropertyError → (message : List ℕ) → Type 0
SaysLength (Unresolved name) message = message ≡ []
SaysLength (InvalidName part) message = message ≡ []
SaysLength (RequiredButUnset name len) message = len ≡ length message
SaysLength (RequiredButEmpty name len) message = len ≡ length message
SaysLength (ExpansionDepthLimitExceeded depth limit) message = message ≡ []
SaysLength (ExpansionWorkLimitExceeded work limit) message = message ≡ []

-- A walk that stops has a message for a required property only, and its refusal tells the message's length.
abbrev pub MessageLength : Type 0
MessageLength =
    (sh : List ℕ → Shape) (s : PropertySyntax) (most : Limits) (t u : ℕ) (text : List ℕ) (e : PropertyError) (message : List ℕ)
    → walk sh s most t text ≡ stopped u e message → SaysLength e message

-- A walk that ends has no more pieces than its text has bytes.
abbrev pub PiecesFew : Type 0
PiecesFew =
    (sh : List ℕ → Shape) (s : PropertySyntax) (most : Limits) (t u : ℕ) (text : List ℕ) (c : Bool) (ps : List Piece)
    → walk sh s most t text ≡ ended u c ps → length ps ≤ length text

-- no value has more than 1,024 bytes
abbrev pub Short : (List ℕ → Option (List ℕ)) → Type 0
Short m = (name bytes : List ℕ) → m name ≡ Some bytes → length bytes ≤ 1024

-- So its new text has at most 1,024 times the bytes of the text.
abbrev pub TextBounded : Type 0
TextBounded =
    (m : List ℕ → Option (List ℕ)) (s : PropertySyntax) (most : Limits) (t u : ℕ) (text : List ℕ) (c : Bool) (ps : List Piece)
    → Short m → walk (shapes m) s most t text ≡ ended u c ps → length (spelled (values m) ps) ≤ 1024 * length text
