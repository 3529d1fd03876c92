-- Where a reference closes in Braced and BracedOrBare. `}` is 125.
use Rattle.std.specs.Prelude.{ℕ, ◌+◌, ◌-◌, cond, ◌&&◌, List, drop, Some, None, Option, ◌==◌, count_by}
use Rattle.std.specs.List.{zip}
use Rattle.closes.specs.Fronts.{opens}
use Rattle.closes.specs.Search.{Turn, ends, goes, Search, found, looked}

-- with n inner references open: `}` ends the innermost, or is the close where none is open
abbrev pub braced_turn : ℕ → ℕ → ℕ → List ℕ → Turn ℕ
braced_turn n i b bs =
    cond (b == 125) (cond (n == 0) (ends (Some i)) (goes (n - 1)))
    (cond (opens b bs) (goes (n + 1)) (goes n))

-- where the bytes end, there is no close
abbrev pub braced : Search ℕ
braced = record { turn = braced_turn; none = λ _. None }

-- the close, by the bytes after `${`
abbrev pub braced_close : List ℕ → Option ℕ
braced_close bs = found braced 0 0 bs

-- the charges: one for each byte up to the close
abbrev pub braced_looks : List ℕ → List ℕ
braced_looks bs = looked braced 0 0 bs

-- how many inner `${` bytes have; `{` is 123
abbrev pub opened : List ℕ → ℕ
opened bs = count_by (λ p. p.0 == 36 && p.1 == 123) (zip bs (drop 1 bs))
