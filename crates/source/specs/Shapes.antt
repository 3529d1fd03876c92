-- What a name is, without its value's bytes.
use Rattle.std.specs.Prelude.{ℕ, List, [], ◌∷◌, Some, None, Option}

-- A name is unset, or its value has no byte, or it has some.
pub data Shape : Type 0 where
  unset empty filled : Shape

abbrev pub shape : Option (List ℕ) → Shape
shape None = unset
shape (Some []) = empty
shape (Some (b ∷ bs)) = filled

-- the bytes that a name stands for: none where it is unset
abbrev pub bytes_of : Option (List ℕ) → List ℕ
bytes_of None = []
bytes_of (Some value) = value

-- what each name is, by what a source means
abbrev pub shapes : (List ℕ → Option (List ℕ)) → List ℕ → Shape
shapes means name = shape (means name)

-- the bytes that each name stands for
abbrev pub values : (List ℕ → Option (List ℕ)) → List ℕ → List ℕ
values means name = bytes_of (means name)
