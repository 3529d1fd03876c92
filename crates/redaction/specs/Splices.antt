-- A text with a part of it replaced.
use Rattle.std.specs.Prelude.{ℕ, ◌+◌, List, ◌++◌, take, drop}

-- `old` bytes at `at` replaced by `new`.
abbrev pub spliced : ℕ → ℕ → List ℕ → List ℕ → List ℕ
spliced at old new text = take at text ++ (new ++ drop (at + old) text)
