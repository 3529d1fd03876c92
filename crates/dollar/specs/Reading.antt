-- How an outcome is read.
use Rattle.std.specs.Prelude.{◌≡◌, ℕ, cond, ◌&&◌, ◌==◌, List, length, take, min}
use Rattle.answers.specs.Told.{text_of}
use Rattle.answers.specs.declared.Answer.{Answer}
use Rattle.dollar.specs.Outcomes.{answered}
use Rattle.dollar.specs.declared.outcome.DollarOutcome.{DollarOutcome}
use Rattle.dollar.specs.declared.read.DollarPart.{DollarPart}

-- the caller's own text, where an answer leaves it as it is; else the front of the output area
abbrev pub part_read : DollarOutcome → (text area : ℕ) → DollarPart
part_read o text area =
    cond (o.refusal == 0 && o.replaced == 0) (record { from_area = 0; length = text }) (record { from_area = 1; length = min o.length area })

-- the bytes of a part
abbrev pub part_of : DollarPart → (own area : List ℕ) → List ℕ
part_of p own area = take p.length (cond (p.from_area == 0) own area)

-- Of an answer, the part is its text.
abbrev pub Reads : DollarOutcome → (text area : ℕ) → DollarPart → Type 0
Reads o text area p =
    (a : Answer) (own from : List ℕ) → o ≡ answered a → length own ≡ text → length from ≡ area → part_of p own from ≡ text_of a own from
