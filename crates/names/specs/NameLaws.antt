-- Names by the characters of a text.
use Rattle.std.specs.Prelude.{◌≡◌, ℕ, ◌≤◌, Bool, true, false, ◌&&◌, List, [], ◌∷◌, ◌++◌, length, Some, None, IsUtf8, Option}
use Rattle.std.specs.Str.{chars}
use Rattle.names.specs.declared.PropertySyntax.{PropertySyntax}
use Rattle.names.specs.Names.{continues, starts}

-- both parts are well-formed UTF-8
abbrev pub BothText : Option (List ℕ × List ℕ) → Type 0
BothText None = Unit {0}
BothText (Some p) = IsUtf8 p.0 × IsUtf8 p.1

-- whether all characters go on with a name
abbrev pub all_continue : PropertySyntax → List ℕ → Bool
all_continue s [] = true
all_continue s (c ∷ cs) = continues s c && all_continue s cs

-- a name: a character that starts one, and then such as go on with it
abbrev pub is_name : PropertySyntax → List ℕ → Bool
is_name s [] = false
is_name s (c ∷ cs) = starts s c && all_continue s cs

-- whether a text begins with a name start
abbrev pub starts_text : PropertySyntax → List ℕ → Bool
starts_text s [] = false
starts_text s (c ∷ cs) = starts s c

-- Of the fronts of a text that are names, this is the longest.
pub record Longest (s : PropertySyntax) (text name rest : List ℕ) : Type 0 where
  pub whole : text ≡ name ++ rest
  pub named : is_name s name ≡ true
  pub longest : (front others : List ℕ) → text ≡ front ++ others → is_name s front ≡ true → length front ≤ length name

-- There is a name exactly where a name start stands first, and it is the longest.
abbrev pub NameLaw : PropertySyntax → List ℕ → Option (List ℕ × List ℕ) → Type 0
NameLaw s text None = starts_text s text ≡ false
NameLaw s text (Some p) = (starts_text s text ≡ true) × Longest s text (chars p.0) (chars p.1)
