-- Name characters, and how far a name goes.
use Rattle.std.specs.Prelude.{ℕ, ◌+◌, Bool, false, cond, ◌&&◌, ◌||◌, List, [], ◌∷◌, ◌==◌, nat_le}
use Rattle.names.specs.declared.PropertySyntax.{PropertySyntax}
use Rattle.names.specs.declared.PropertySyntax.TheVariants.{Braced, BracedOrBare, DockerCompose}

-- `_` or an ASCII letter
abbrev pub letter : ℕ → Bool
letter c = c == 95 || (nat_le 65 c && nat_le c 90) || (nat_le 97 c && nat_le c 122)

-- an ASCII digit
abbrev pub digit : ℕ → Bool
digit c = nat_le 48 c && nat_le c 57

-- U+212A and U+017F, which count as letters in DockerCompose alone
abbrev pub folded : PropertySyntax → ℕ → Bool
folded Braced c = false
folded BracedOrBare c = false
folded DockerCompose c = c == 8490 || c == 383

-- the characters that start a name, and those that go on with one
abbrev pub starts : PropertySyntax → ℕ → Bool
starts s c = letter c || folded s c

abbrev pub continues : PropertySyntax → ℕ → Bool
continues s c = starts s c || digit c

-- whether c belongs to a name of which n bytes are read
abbrev pub extends : PropertySyntax → ℕ → ℕ → Bool
extends s n c = cond (n == 0) (starts s c) (continues s c)

-- where a name ends of which n bytes are read
abbrev pub name_end : PropertySyntax → ℕ → List (ℕ × ℕ) → ℕ
name_end s n [] = n
name_end s n (g ∷ gs) = cond (extends s n g.0) (name_end s (n + g.1) gs) n

-- the widths of the characters looked at, the one that ends the name too
abbrev pub looks : PropertySyntax → ℕ → List (ℕ × ℕ) → List ℕ
looks s n [] = []
looks s n (g ∷ gs) = g.1 ∷ cond (extends s n g.0) (looks s (n + g.1) gs) []
