-- What stands before a close. `$` is 36, `{` is 123, `}` is 125, a newline is 10.
use Rattle.std.specs.Prelude.{◌≡◌, ℕ, ◌+◌, Bool, true, false, ◌||◌, ◌⊎◌, List, [], ◌∷◌, ◌++◌, length, Some, None, ◌≢◌}
use Rattle.std.specs.List.{AllByRecursion}
use Rattle.names.specs.declared.PropertySyntax.{PropertySyntax}
use Rattle.names.specs.declared.PropertySyntax.TheVariants.{Braced, BracedOrBare, DockerCompose}
use Rattle.names.specs.Reads.{name_at}
use Rattle.closes.specs.Closes.{close}
use Rattle.closes.specs.Fronts.{colon_operator, opens, short_operator}

-- A balanced body: nothing; a byte that is no `}` and begins no `${`, and then a body; or `${`, a body, `}`, and then a body.
pub data Body : List ℕ → Type 0 where
  empty : Body []
  plain : (b : ℕ) (bs : List ℕ) → (b ≢ 125) → opens b bs ≡ false → Body bs → Body (b ∷ bs)
  inner : (bs cs : List ℕ) → Body bs → Body cs → Body (36 ∷ 123 ∷ (bs ++ 125 ∷ cs))

-- In Braced and BracedOrBare: the first k bytes are a balanced body, and `}` follows.
pub record BracedClose (bs : List ℕ) (k : ℕ) : Type 0 where
  pub body : List ℕ
  pub behind : List ℕ
  pub whole : bs ≡ body ++ 125 ∷ behind
  pub balanced : Body body
  pub place : k ≡ length body

-- one of the six operators
abbrev pub is_operator : List ℕ → Bool
is_operator p = colon_operator p || short_operator p

-- In DockerCompose: a name, then nothing or an operator and a text without a newline, and then `}`, at k.
pub record ComposeClose (bs : List ℕ) (k : ℕ) : Type 0 where
  pub name : List ℕ
  pub operator : List ℕ
  pub text : List ℕ
  pub behind : List ℕ
  pub named : name_at DockerCompose bs ≡ Some (name, operator ++ (text ++ 125 ∷ behind))
  pub follows : (is_operator operator ≡ true) ⊎ ((operator ≡ []) × (text ≡ []))
  pub line : AllByRecursion (λ b. b ≢ 10) text
  pub place : k ≡ length name + length operator + length text

-- what a close is in each syntax
abbrev pub Closes : PropertySyntax → List ℕ → ℕ → Type 0
Closes Braced bs k = BracedClose bs k
Closes BracedOrBare bs k = BracedClose bs k
Closes DockerCompose bs k = ComposeClose bs k

-- a place that is found is a close
abbrev pub Sound : PropertySyntax → List ℕ → Type 0
Sound s bs = (k : ℕ) → close s bs ≡ Some k → Closes s bs k

-- In Braced and BracedOrBare a close is found at its place; in DockerCompose one is found where there are any.
abbrev pub Complete : PropertySyntax → List ℕ → Type 0
Complete Braced bs = (k : ℕ) → BracedClose bs k → close Braced bs ≡ Some k
Complete BracedOrBare bs = (k : ℕ) → BracedClose bs k → close BracedOrBare bs ≡ Some k
Complete DockerCompose bs = (k : ℕ) → ComposeClose bs k → close DockerCompose bs ≢ None
