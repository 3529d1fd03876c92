-- What laying a value leaves in an area of memory.
use Rattle.std.specs.Prelude.{ℕ, ◌-◌, List, ◌++◌, length, take, drop, replicate, Some, None, Option}

-- The area after as much of the value as fits was laid at its front; an unset name writes nothing.
abbrev pub laid : Option (List ℕ) → List ℕ → List ℕ
laid None area = area
laid (Some value) area = take (length area) value ++ drop (length value) area

-- An area of n bytes with as much of the value as fits at its front, and zeros behind it.
abbrev pub fetched : Option (List ℕ) → ℕ → List ℕ
fetched None n = replicate n 0
fetched (Some value) n = take n value ++ replicate (n - length value) 0
