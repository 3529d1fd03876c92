-- What a text that is one reference comes to.
use Rattle.std.specs.Prelude.{◌≡◌, ℕ, Bool, true, false, List, [], ◌∷◌, ◌++◌, length, Some, None, codes, Option, ◌≢◌}
use Rattle.std.proofs.Math.Utf8.{encodes}
use Rattle.std.specs.List.{AllByRecursion}
use Rattle.names.specs.declared.PropertySyntax.{PropertySyntax}
use Rattle.names.specs.declared.PropertySyntax.TheVariants.{DockerCompose}
use Rattle.names.specs.NameLaws.{is_name}
use Rattle.source.specs.Shapes.{Shape, shapes, values}
use Rattle.references.specs.declared.error.Span.{Span}
use Rattle.references.specs.declared.error.PropertyError.{PropertyError}
use Rattle.references.specs.declared.error.PropertyError.TheVariants.{Unresolved}
use Rattle.references.specs.Operators.{Operator, default, alternate, error, Op, plain, operated, Yield, value, nothing, word, refusal}
use Rattle.items.specs.Pieces.{val, literal, spelled}
use Rattle.items.specs.Items.{span}
use Rattle.expansion.specs.Walks.{Limits, Outcome, ended, stopped, missing, walk}
use Rattle.expansion.specs.Laws.{Unhindered}
use Rattle.expansion.specs.Segments.{word_of, yields}

abbrev pub symbol : Operator → (colon : Bool) → List ℕ
symbol default true = codes ":-"
symbol default false = codes "-"
symbol alternate true = codes ":+"
symbol alternate false = codes "+"
symbol error true = codes ":?"
symbol error false = codes "?"

abbrev pub written_op : Op → List ℕ
written_op plain = []
written_op (operated o colon w) = symbol o colon ++ w

-- a reference in braces, as it is written
abbrev pub written : (name : List ℕ) → Op → List ℕ
written name op = codes "${" ++ ((name ++ written_op op) ++ codes "}")

-- A word without `$` (36) and `}` (125), and in DockerCompose without a newline (10).
abbrev pub Simple : PropertySyntax → List ℕ → Type 0
Simple s w = AllByRecursion (λ b. (b ≢ 36) × (b ≢ 125) × (s ≡ DockerCompose → b ≢ 10)) w

abbrev pub refusal_of : Op → Shape → (name : Span) → PropertyError
refusal_of plain v name = Unresolved name
refusal_of (operated o colon w) v name = missing v name (length w)

-- the outcome for one reference with a simple word, by what it yields; u is the total
abbrev pub comes_to : (u : ℕ) → (name : List ℕ) → Shape → Op → Yield → Outcome
comes_to u name v op value = ended u true (val name ∷ [])
comes_to u name v op nothing = ended u true []
comes_to u name v op word = ended u true (literal (word_of op))
comes_to u name v op refusal = stopped u (refusal_of op v (span 2 (length name))) (word_of op)

-- A reference comes to what its form and the shape of its name yield: an operator by the table of POSIX. cs are the characters of the name.
abbrev pub Operators : Type 0
Operators =
    (sh : List ℕ → Shape) (s : PropertySyntax) (most : Limits) (t : ℕ) (cs : List ℕ) (op : Op)
    → is_name s cs ≡ true → Simple s (word_of op) → Unhindered most (written (encodes cs) op)
    → (u : ℕ) × (walk sh s most t (written (encodes cs) op) ≡ comes_to u (encodes cs) (sh (encodes cs)) op (yields s op (sh (encodes cs))))

-- the text that a walk ends with, each name with its value; none where it stops
abbrev pub text_of : (List ℕ → Option (List ℕ)) → Outcome → Option (List ℕ)
text_of m (ended u c ps) = Some (spelled (values m) ps)
text_of m (stopped u e told) = None

-- A name that is set stands for its whole value as it is, whatever bytes that has.
abbrev pub ValuesCopied : Type 0
ValuesCopied =
    (m : List ℕ → Option (List ℕ)) (s : PropertySyntax) (most : Limits) (t : ℕ) (cs bytes : List ℕ)
    → is_name s cs ≡ true → m (encodes cs) ≡ Some bytes → Unhindered most (written (encodes cs) plain)
    → text_of m (walk (shapes m) s most t (written (encodes cs) plain)) ≡ Some bytes
