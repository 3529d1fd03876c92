-- What bytes begin with. `$` is 36, `{` is 123.
use Rattle.std.specs.Prelude.{ℕ, Bool, cond, if◌then◌else◌, ◌==◌, ◌||◌, List, [], ◌∷◌, length, take, Some, None, Option}
use Rattle.std.specs.Str.{bytes_eq}

-- whether bytes begin with those of p
abbrev pub begins : List ℕ → List ℕ → Bool
begins p bs = bytes_eq p (take (length p) bs)

-- whether the byte b, with bs behind it, begins an inner `${`
abbrev pub opens : ℕ → List ℕ → Bool
opens b bs = begins (36 ∷ 123 ∷ []) (b ∷ bs)

-- the operators: `:-`, `:+`, `:?` and `-`, `+`, `?`
abbrev pub colon_operator : List ℕ → Bool
colon_operator p = bytes_eq (58 ∷ 45 ∷ []) p || (bytes_eq (58 ∷ 43 ∷ []) p || bytes_eq (58 ∷ 63 ∷ []) p)

abbrev pub short_operator : List ℕ → Bool
short_operator p = bytes_eq (45 ∷ []) p || (bytes_eq (43 ∷ []) p || bytes_eq (63 ∷ []) p)

-- the length of the operator at the front; 0 where there is none
abbrev pub op_len : List ℕ → ℕ
op_len bs = cond (colon_operator (take 2 bs)) 2 (cond (short_operator (take 1 bs)) 1 0)

-- the same where there is an operator
abbrev pub op_found : List ℕ → Option ℕ
op_found bs = if op_len bs == 0 then None else Some (op_len bs)
