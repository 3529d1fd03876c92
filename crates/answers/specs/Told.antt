-- What a call tells, as its answer and its output area together.
use Rattle.std.specs.Prelude.{ℕ, ◌-◌, cond, List, [], ◌++◌, length, take, replicate, Ok, Err, Result, nat_le}
use Rattle.answers.specs.declared.Answer.{Answer}
use Rattle.answers.specs.declared.Answer.TheVariants.{Replaced, Unchanged}

-- The text given stays as it is; another text stands for it; or the call is refused, with a message or none.
pub data Told (E : Type 0) : Type 0 where
  unchanged : Told E
  replaced : List ℕ → Told E
  refused : E → (message : List ℕ) → Told E

abbrev pub answer_of : {E : Type 0} → Told E → Result Answer E
answer_of unchanged = Ok Unchanged
answer_of (replaced text) = Ok (Replaced (length text))
answer_of (refused e message) = Err e

-- n bytes with a text at the front and zeros behind it
abbrev pub fronted : ℕ → List ℕ → List ℕ
fronted n text = text ++ replicate (n - length text) 0

-- an output area of n bytes after the call
abbrev pub area_of : {E : Type 0} → ℕ → Told E → List ℕ
area_of n unchanged = replicate n 0
area_of n (replaced text) = fronted n text
area_of n (refused e message) = fronted n message

-- what is told where a text has to fit n bytes: x if it does, else the refusal
abbrev pub fitting : {E : Type 0} → ℕ → (ℕ → E) → List ℕ → Told E → Told E
fitting n short text x = cond (nat_le (length text) n) x (refused (short (length text)) [])

-- the text of an answer: the caller's own, or the front of the area
abbrev pub text_of : Answer → List ℕ → List ℕ → List ℕ
text_of Unchanged own area = own
text_of (Replaced len) own area = take len area
