-- What the code answers for a reference in braces, by its bytes.
use Rattle.std.specs.Prelude.{ℕ, ◌+◌, ◌<◌, ◌≤◌, length, Ok, Err, Result}
use Rattle.budget.specs.declared.WorkFault.{WorkFault}
use Rattle.references.specs.declared.brace.BraceBody.{BraceBody}
use Rattle.references.specs.declared.brace.BraceBody.TheVariants.{Unclosed, Malformed, Reference}
use Rattle.references.specs.Operators.{Op, plain, operated}
use Rattle.references.specs.Braces.{Brace, unclosed, malformed, reference, op_of}

abbrev pub brace_of : BraceBody → Brace
brace_of Unclosed = unclosed
brace_of (Malformed k) = malformed k
brace_of (Reference k r) = reference k r.name.now (op_of r.op)

abbrev pub brace_told : Result BraceBody WorkFault → Result Brace WorkFault
brace_told (Ok b) = Ok (brace_of b)
brace_told (Err f) = Err f

abbrev pub word_len : Op → ℕ
word_len plain = 0
word_len (operated o colon w) = 1 + length w

-- a close lies within the n bytes, and the name and the word before it
abbrev pub Within : ℕ → Result BraceBody WorkFault → Type 0
Within n (Ok Unclosed) = Unit {0}
Within n (Ok (Malformed k)) = k < n
Within n (Ok (Reference k r)) = (k < n) × (length r.name.now + word_len (op_of r.op) ≤ k) × (0 < length r.name.now)
Within n (Err f) = Unit {0}
