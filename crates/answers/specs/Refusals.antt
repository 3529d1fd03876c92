-- The refusal of a text that does not fit: its number and the values that come with it.
use Rattle.std.specs.Prelude.{ℕ, List, [], ◌∷◌}
use Rattle.answers.specs.declared.OutputTooShort.{OutputTooShort}

abbrev pub refusal_number : OutputTooShort → ℕ
refusal_number refusal = 10

-- how long the text is that did not fit
abbrev pub refusal_values : OutputTooShort → List ℕ
refusal_values refusal = refusal.needed ∷ []
