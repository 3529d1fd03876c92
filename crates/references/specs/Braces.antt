-- A reference in braces, by the bytes after its `${`.
use Rattle.std.specs.Prelude.{ℕ, true, false, List, [], ◌++◌, take, Some, None, Option}
use Rattle.names.specs.declared.PropertySyntax.{PropertySyntax}
use Rattle.names.specs.Reads.{name_at, name_looks}
use Rattle.closes.specs.Closes.{close, close_looks}
use Rattle.references.specs.declared.op.BraceOp.{BraceOp}
use Rattle.references.specs.declared.op.BraceOp.TheVariants.{Required, DefaultIfUnset, DefaultIfUnsetOrEmpty, AlternateIfSet, AlternateIfSetAndNonEmpty, ErrorIfUnset, ErrorIfUnsetOrEmpty}
use Rattle.references.specs.Operators.{Op, plain, operated, default, alternate, error, op_at}

abbrev pub op_of : BraceOp → Op
op_of Required = plain
op_of (DefaultIfUnset text) = operated default false text.now
op_of (DefaultIfUnsetOrEmpty text) = operated default true text.now
op_of (AlternateIfSet text) = operated alternate false text.now
op_of (AlternateIfSetAndNonEmpty text) = operated alternate true text.now
op_of (ErrorIfUnset text) = operated error false text.now
op_of (ErrorIfUnsetOrEmpty text) = operated error true text.now

-- What stands behind `${`: no close; a close, but no reference before it; or a reference with its name and its form.
pub data Brace : Type 0 where
  unclosed : Brace
  malformed : (at : ℕ) → Brace
  reference : (at : ℕ) → (name : List ℕ) → Op → Brace

abbrev pub with_op : ℕ → List ℕ → Option Op → Brace
with_op k name None = malformed k
with_op k name (Some op) = reference k name op

abbrev pub with_name : ℕ → Option (List ℕ × List ℕ) → Brace
with_name k None = malformed k
with_name k (Some p) = with_op k p.0 (op_at p.1)

-- the name is read from the body alone
abbrev pub with_close : PropertySyntax → List ℕ → Option ℕ → Brace
with_close s bs None = unclosed
with_close s bs (Some k) = with_name k (name_at s (take k bs))

abbrev pub brace : PropertySyntax → List ℕ → Brace
brace s bs = with_close s bs (close s bs)

-- what reading it charges: the search for the close, and then the name
abbrev pub name_charges : PropertySyntax → List ℕ → Option ℕ → List ℕ
name_charges s bs None = []
name_charges s bs (Some k) = name_looks s (take k bs)

abbrev pub brace_looks : PropertySyntax → List ℕ → List ℕ
brace_looks s bs = close_looks s bs ++ name_charges s bs (close s bs)
