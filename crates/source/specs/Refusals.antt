-- The refusals of the checks of sources: each has a number and the values that come with it.
use Rattle.std.specs.Prelude.{ℕ, List, [], ◌∷◌}
use Rattle.source.specs.declared.error.SourceError.{SourceError}
use Rattle.source.specs.declared.error.SourceError.TheVariants.{BadBook, BadBlock, BadStem}

abbrev pub refusal_number : SourceError → ℕ
refusal_number (BadBook record_number) = 13
refusal_number (BadBlock offset) = 14
refusal_number BadStem = 15

abbrev pub refusal_values : SourceError → List ℕ
refusal_values (BadBook record_number) = record_number ∷ []
refusal_values (BadBlock offset) = offset ∷ []
refusal_values BadStem = []
