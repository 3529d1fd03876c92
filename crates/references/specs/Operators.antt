-- The operators of a reference, and what each yields.
use Rattle.std.specs.Prelude.{ℕ, Bool, true, false, cond, List, [], ◌∷◌, length, drop, Some, None, Option, ◌==◌}
use Rattle.closes.specs.Fronts.{begins}
use Rattle.source.specs.Shapes.{Shape, unset, empty, filled}

pub data Operator : Type 0 where
  default alternate error : Operator

-- What a reference yields: the value of its property, nothing, the word behind its operator, or a refusal that the word explains.
pub data Yield : Type 0 where
  value nothing word refusal : Yield

-- The table of parameter expansion of POSIX, by the operator, with or without a colon, and by what the parameter is.
abbrev pub posix : Operator → (colon : Bool) → Shape → Yield
posix default true filled = value
posix default true empty = word
posix default true unset = word
posix default false filled = value
posix default false empty = value
posix default false unset = word
posix error true filled = value
posix error true empty = refusal
posix error true unset = refusal
posix error false filled = value
posix error false empty = value
posix error false unset = refusal
posix alternate true filled = word
posix alternate true empty = nothing
posix alternate true unset = nothing
posix alternate false filled = word
posix alternate false empty = word
posix alternate false unset = nothing

-- What stands behind a name in braces: nothing, or an operator with its word.
pub data Op : Type 0 where
  plain : Op
  operated : Operator → (colon : Bool) → (word : List ℕ) → Op

-- 58 is `:`, 45 is `-`, 43 is `+`, 63 is `?`; none where the rest begins with no operator
abbrev pub op_at : List ℕ → Option Op
op_at rest =
    cond (length rest == 0) (Some plain)
    (cond (begins (58 ∷ 45 ∷ []) rest) (Some (operated default true (drop 2 rest)))
    (cond (begins (58 ∷ 43 ∷ []) rest) (Some (operated alternate true (drop 2 rest)))
    (cond (begins (45 ∷ []) rest) (Some (operated default false (drop 1 rest)))
    (cond (begins (43 ∷ []) rest) (Some (operated alternate false (drop 1 rest)))
    (cond (begins (58 ∷ 63 ∷ []) rest) (Some (operated error true (drop 2 rest)))
    (cond (begins (63 ∷ []) rest) (Some (operated error false (drop 1 rest))) None))))))
