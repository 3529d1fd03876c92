-- The pieces that a text is made of.
use Rattle.std.specs.Prelude.{ℕ, Bool, true, false, ◌||◌, List, [], ◌∷◌, ◌++◌, map}
use Rattle.source.specs.Shapes.{Shape, unset, empty, filled}

-- a byte of the text, or a name standing for its value
pub data Piece : Type 0 where
  lit : ℕ → Piece
  val : List ℕ → Piece

-- the text of pieces, each name with its value
abbrev pub spelled : (List ℕ → List ℕ) → List Piece → List ℕ
spelled values [] = []
spelled values (lit b ∷ ps) = b ∷ spelled values ps
spelled values (val name ∷ ps) = values name ++ spelled values ps

abbrev pub literal : List ℕ → List Piece
literal bs = map lit bs

-- the bytes of pieces that are bytes of the text
abbrev pub literals : List Piece → List ℕ
literals [] = []
literals (lit b ∷ ps) = b ∷ literals ps
literals (val name ∷ ps) = literals ps

abbrev pub is_filled : Shape → Bool
is_filled unset = false
is_filled empty = false
is_filled filled = true

-- whether a non-empty value stands among pieces
abbrev pub shows : (List ℕ → Shape) → List Piece → Bool
shows sh [] = false
shows sh (lit b ∷ ps) = shows sh ps
shows sh (val name ∷ ps) = is_filled (sh name) || shows sh ps
