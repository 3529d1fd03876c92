-- A session of the code, as contracts tell it.
use Rattle.std.specs.Option.{option_copied}
use Rattle.stem.specs.Stems.{under}
use Rattle.stem.specs.declared.Stem.{Stem}
use Rattle.session.specs.declared.session.PropertyInterpolation.{PropertyInterpolation}
use Rattle.dollar.specs.Held.{Meaning}
use Rattle.dollar.specs.Tables.{table_means}
use Rattle.dollar.specs.declared.table.LentTable.{LentTable}

-- its source is told by what it means
abbrev pub seen : PropertyInterpolation (Stem LentTable) → PropertyInterpolation Meaning
seen p =
    record {
      source = λ name. under (option_copied p.source.stem) (table_means p.source.below.kind p.source.below.bytes.now) name;
      syntax = p.syntax;
      max_expansion_depth = p.max_expansion_depth;
      work = p.work;
      breach = p.breach;
    }
