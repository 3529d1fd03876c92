-- Where a reference closes, and what the search for it charges, by the bytes after `${`.
use Rattle.std.specs.Prelude.{ℕ, List, Option}
use Rattle.names.specs.declared.PropertySyntax.{PropertySyntax}
use Rattle.names.specs.declared.PropertySyntax.TheVariants.{Braced, BracedOrBare, DockerCompose}
use Rattle.closes.specs.Braced.{braced_close, braced_looks}
use Rattle.closes.specs.Compose.{compose_close, compose_looks}

-- the place of the close; BracedOrBare closes as Braced does
abbrev pub close : PropertySyntax → List ℕ → Option ℕ
close Braced bs = braced_close bs
close BracedOrBare bs = braced_close bs
close DockerCompose bs = compose_close bs

-- the charges, in order
abbrev pub close_looks : PropertySyntax → List ℕ → List ℕ
close_looks Braced bs = braced_looks bs
close_looks BracedOrBare bs = braced_looks bs
close_looks DockerCompose bs = compose_looks bs
