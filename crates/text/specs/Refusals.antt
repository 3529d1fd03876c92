-- The refusals of the check of a text: each has a number and the values that come with it.
use Rattle.std.specs.Prelude.{ℕ, List, [], ◌∷◌}
use Rattle.text.specs.declared.TextError.{TextError}
use Rattle.text.specs.declared.TextError.TheVariants.{TooLong, NotUtf8}

abbrev pub refusal_number : TextError → ℕ
refusal_number TooLong = 1
refusal_number (NotUtf8 offset) = 2

abbrev pub refusal_values : TextError → List ℕ
refusal_values TooLong = []
refusal_values (NotUtf8 offset) = offset ∷ []
