-- A search through bytes, one after another, that is charged one for each byte looked at.
use Rattle.std.specs.Prelude.{ℕ, ◌+◌, List, [], ◌∷◌, Option}

-- What a byte does: it ends the search with an answer, or has it go on in another state.
pub data Turn (S : Type 0) : Type 0 where
  ends : Option ℕ → Turn S
  goes : S → Turn S

-- What a byte at a place does in a state, by the bytes behind it too; and the answer where no byte is left.
pub record Search (S : Type 0) : Type 0 where
  pub turn : S → ℕ → ℕ → List ℕ → Turn S
  pub none : S → Option ℕ

abbrev pub by : {S X : Type 0} → Turn S → (Option ℕ → X) → (S → X) → X
by (ends o) f g = f o
by (goes s) f g = g s

-- the answer from a state, i being the place of the first byte
abbrev pub found : {S : Type 0} → Search S → S → ℕ → List ℕ → Option ℕ
found q s i [] = q.none s
found q s i (b ∷ bs) = by (q.turn s i b bs) (λ o. o) (λ t. found q t (i + 1) bs)

-- the charges
abbrev pub looked : {S : Type 0} → Search S → S → ℕ → List ℕ → List ℕ
looked q s i [] = []
looked q s i (b ∷ bs) = 1 ∷ by (q.turn s i b bs) (λ o. []) (λ t. looked q t (i + 1) bs)
