-- The outcome of a walk: its events, judged under the limits.
use Rattle.std.specs.Prelude.{ℕ, Bool, false, cond, ◌||◌, List, [], ◌∷◌, ◌++◌, length, ◌==◌, nat_lt}
use Rattle.budget.specs.Charges.{charged}
use Rattle.names.specs.declared.PropertySyntax.{PropertySyntax}
use Rattle.source.specs.Shapes.{Shape, unset, empty, filled}
use Rattle.references.specs.declared.error.Span.{Span}
use Rattle.references.specs.declared.error.PropertyError.{PropertyError}
use Rattle.references.specs.declared.error.PropertyError.TheVariants.{RequiredButUnset, RequiredButEmpty, ExpansionDepthLimitExceeded, ExpansionWorkLimitExceeded}
use Rattle.items.specs.Pieces.{Piece, literals, shows}
use Rattle.expansion.specs.Events.{Event, charge, emit, replaced, nest, begins, message, refused, events}

-- The walk ended: the work total, whether the text was replaced, and its pieces. Or it stopped: the total, the refusal, and the message of a required property.
pub data Outcome : Type 0 where
  ended : (total : ℕ) → (changed : Bool) → List Piece → Outcome
  stopped : (total : ℕ) → PropertyError → (told : List ℕ) → Outcome

pub record Limits : Type 0 where
  pub depth : ℕ
  pub work : ℕ

-- A message that a non-empty value entered is shown by its unwalked text.
abbrev pub shown : (List ℕ → Shape) → (source : List ℕ) → List Piece → List ℕ
shown sh source ps = cond (shows sh ps) source (literals ps)

-- the refusal of a required property that is unset, or empty
abbrev pub missing : Shape → Span → ℕ → PropertyError
missing unset name len = RequiredButUnset name len
missing empty name len = RequiredButEmpty name len
missing filled name len = RequiredButEmpty name len

module _ (sh : List ℕ → Shape) (most : Limits) where
  unfoldable pub run : ℕ → Bool → List Piece → List Event → Outcome
  run t c ps [] = ended t c ps
  run t c ps (charge k ∷ es) =
      let r : Outcome = run (charged t k) c ps es in
      cond (nat_lt most.work (charged t k)) (stopped (charged t k) (ExpansionWorkLimitExceeded (charged t k) most.work) []) r
  run t c ps (emit p ∷ es) = run t c (ps ++ p ∷ []) es
  run t c ps (replaced d ∷ es) = run t (c || d == 1) ps es
  run t c ps (nest d ∷ es) =
      let r : Outcome = run t c ps es in
      cond (nat_lt most.depth d) (stopped t (ExpansionDepthLimitExceeded d most.depth) []) r
  run t c ps (begins ∷ es) = run t c [] es
  run t c ps (message kind name source ∷ es) = stopped t (missing kind name (length (shown sh source ps))) (shown sh source ps)
  run t c ps (refused e ∷ es) = stopped t e []

-- The outcome of a walk over a text from a work total, by the shapes of names alone.
unfoldable pub walk : (List ℕ → Shape) → PropertySyntax → Limits → ℕ → List ℕ → Outcome
walk sh s most t text = run sh most t false [] (events sh s text)
