-- A text that is laid into a lent area from its front on; what does not fit is only counted.
use Rattle.std.specs.Prelude.{◌≡◌, ℕ, ◌+◌, ◌-◌, ◌^◌, ◌<◌, min, cond, List, ◌++◌, length, take, drop, replicate, Some, Ok, Err, Result, nat_le}
use denote.Ref.{MutBor, at_last}
use Rattle.source.specs.Laying.{laid}
use Rattle.answers.specs.declared.OutputTooShort.{OutputTooShort}
use Rattle.output.specs.declared.Output.{Output}

-- a length as it is counted: at most the largest number of 64 bits
abbrev pub counted : ℕ → ℕ
counted n = min n 18446744073709551615

-- the output over an area with no text in it
abbrev pub begun : MutBor (List ℕ) → Output
begun area = record { area = area; len = 0 }

-- an area after as many of the bytes as fit were laid behind its first `at` bytes
abbrev pub laid_behind : ℕ → List ℕ → List ℕ → List ℕ
laid_behind at bytes area = take at area ++ laid (Some bytes) (drop at area)

-- the output after bytes were laid behind its text, and n counted for them; `at_last` is the same memory with other bytes in it
abbrev pub put : List ℕ → ℕ → Output → Output
put bytes n out = record { area = at_last out.area (laid_behind out.len bytes out.area.now); len = counted (out.len + n) }

-- The output over a lent area holds a text: its length is counted, and as much of it as fits is at the front of the area.
pub record Holds (out : Output) (lent : MutBor (List ℕ)) (text : List ℕ) : Type 0 where
  -- its area is the lent one, and as any memory that is shorter than 2^63 bytes
  pub same : out.area.ghost_name ≡ lent.ghost_name
  pub size : length out.area.now ≡ length lent.now
  pub room : length lent.now < 2 ^ 63
  -- it holds the text
  pub len : out.len ≡ counted (length text)
  pub front : take (length text) out.area.now ≡ take (length lent.now) text

-- whatever text was held before, that text with more bytes behind it is held after
abbrev pub Grows : Output → List ℕ → Output → Type 0
Grows before more after = (lent : MutBor (List ℕ)) (text : List ℕ) → Holds before lent text → Holds after lent (text ++ more)

-- the length of a text as an answer: whether it fits n bytes
abbrev pub fitted : ℕ → ℕ → Result ℕ OutputTooShort
fitted n len = cond (nat_le len n) (Ok len) (Err (record { needed = counted len }))

-- n bytes with a text of len bytes and zeros behind it; all zeros where it does not fit
abbrev pub closed : ℕ → ℕ → List ℕ → List ℕ
closed n len text = cond (nat_le len n) (text ++ replicate (n - len) 0) (replicate n 0)
