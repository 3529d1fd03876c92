-- What a lent table means, by its kind.
use Rattle.std.specs.Prelude.{ℕ, cond, ◌==◌, List, Some, None, Ok, Option, Result}
use Rattle.source.specs.declared.error.SourceError.{SourceError}
use Rattle.tables.specs.Blocks.{block_format, block_verdict}
use Rattle.tables.specs.Books.{book_format, book_verdict}
use Rattle.tables.specs.Rows.{meaning}
use Rattle.tables.specs.Views.{bounded}
use Rattle.dollar.specs.declared.table.TableKind.{TableKind}
use Rattle.dollar.specs.declared.table.TableKind.TheVariants.{Empty, Book, Block}

-- the kind with a number
abbrev pub kind_numbered : ℕ → Option TableKind
kind_numbered n = cond (n == 1) (Some Empty) (cond (n == 2) (Some Book) (cond (n == 3) (Some Block) None))

-- whether bytes are a lawful table of a kind
abbrev pub kind_verdict : TableKind → List ℕ → Result (Unit {0}) SourceError
kind_verdict Empty bytes = Ok tt
kind_verdict Book bytes = book_verdict bytes
kind_verdict Block bytes = block_verdict bytes

-- the value of the first row of a name
abbrev pub row_value : TableKind → List ℕ → List ℕ → Option (List ℕ)
row_value Empty bytes name = None
row_value Book bytes name = meaning book_format bytes name
row_value Block bytes name = meaning block_format bytes name

-- What a table of a kind means, read as it stands and within the bounds of a source.
abbrev pub table_means : TableKind → List ℕ → List ℕ → Option (List ℕ)
table_means kind bytes name = bounded (row_value kind bytes) name
