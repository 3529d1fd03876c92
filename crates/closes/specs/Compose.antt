-- Where a reference closes in DockerCompose. A newline is 10, `{` is 123, `}` is 125.
use Rattle.std.specs.Prelude.{ℕ, ◌+◌, ◌-◌, Bool, true, false, cond, List, [], ◌∷◌, ◌++◌, length, drop, Some, None, Option, ◌==◌}
use Rattle.names.specs.declared.PropertySyntax.TheVariants.{DockerCompose}
use Rattle.names.specs.Reads.{name_at, name_looks}
use Rattle.closes.specs.Fronts.{begins, op_len}
use Rattle.closes.specs.Search.{Turn, ends, goes, Search, found, looked}

-- The levels that are open, whether the next byte counts none, and the latest `}` seen.
pub record Levels : Type 0 where
  pub depth : ℕ
  pub skip : Bool
  pub last : Option ℕ

-- the latest `}` after the byte b at place i
abbrev pub seen : Option ℕ → ℕ → ℕ → Option ℕ
seen last i b = cond (b == 125) (Some i) last

-- a byte that counts levels: `}` takes one, and zero is the close; `{` adds one, and the next byte counts none
abbrev pub counted : Levels → ℕ → ℕ → Turn Levels
counted l i b =
    cond (b == 125) (cond (l.depth == 1) (ends (Some i)) (goes (record { depth = l.depth - 1; skip = false; last = Some i })))
    (cond (b == 123) (goes (record { depth = l.depth + 1; skip = true; last = l.last })) (goes (record { depth = l.depth; skip = false; last = l.last })))

-- a newline ends the search with the latest `}` seen
abbrev pub text_turn : Levels → ℕ → ℕ → List ℕ → Turn Levels
text_turn l i b bs =
    cond (b == 10) (ends l.last)
    (cond l.skip (goes (record { depth = l.depth; skip = false; last = seen l.last i b })) (counted l i b))

-- where the text ends, the latest `}` seen is the answer
abbrev pub in_text : Search Levels
in_text = record { turn = text_turn; none = λ l. l.last }

-- the text of an operator starts with one level open
abbrev pub one_level : Levels
one_level = record { depth = 1; skip = false; last = None }

-- the close in the text of an operator, i being the place where it starts
abbrev pub text_close : ℕ → List ℕ → Option ℕ
text_close i bs = found in_text one_level i bs

-- the charges in it
abbrev pub text_looks : ℕ → List ℕ → List ℕ
text_looks i bs = looked in_text one_level i bs

-- the close behind a name of n bytes: right there, or in the text of the operator that follows
abbrev pub close_behind : ℕ → List ℕ → Option ℕ
close_behind n rest =
    cond (begins (125 ∷ []) rest) (Some n) (cond (op_len rest == 0) None (text_close (n + op_len rest) (drop (op_len rest) rest)))

-- the charges behind a name
abbrev pub looks_behind : ℕ → List ℕ → List ℕ
looks_behind n rest =
    cond (begins (125 ∷ []) rest) [] (cond (op_len rest == 0) [] (text_looks (n + op_len rest) (drop (op_len rest) rest)))

-- the same behind a name that may be missing
abbrev pub close_after : Option (List ℕ × List ℕ) → Option ℕ
close_after None = None
close_after (Some p) = close_behind (length p.0) p.1

abbrev pub looks_after : Option (List ℕ × List ℕ) → List ℕ
looks_after None = []
looks_after (Some p) = looks_behind (length p.0) p.1

-- the close, by the bytes after `${`
abbrev pub compose_close : List ℕ → Option ℕ
compose_close bs = close_after (name_at DockerCompose bs)

-- the charges: those of the name, then those behind it
abbrev pub compose_looks : List ℕ → List ℕ
compose_looks bs = name_looks DockerCompose bs ++ looks_after (name_at DockerCompose bs)
