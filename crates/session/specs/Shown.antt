-- What a redaction tells.
use Rattle.std.specs.Prelude.{ℕ, Bool, cond, ◌||◌, List, [], length, Ok, Err, Result, nat_lt}
use Rattle.text.specs.Texts.{text_max, text_verdict}
use Rattle.text.specs.declared.TextError.TheVariants.{TooLong}
use Rattle.answers.specs.Told.{Told, unchanged, replaced, refused}
use Rattle.answers.specs.declared.OutputTooShort.{OutputTooShort as Short}
use Rattle.pairs.specs.Pairs.{Pair}
use Rattle.redaction.specs.Redactions.{identified, message_fallback, redacted}
use Rattle.session.specs.Calls.{◌then◌, if_passed, pairs_checked, text_checked}
use Rattle.session.specs.declared.error.CallError.{CallError}
use Rattle.session.specs.declared.error.CallError.TheVariants.{OutputTooShort, Text}

-- The text and the fallback are checked, both lengths first, and then the pair memory.
abbrev pub lengths_checked : List ℕ → List ℕ → Result (Unit {0}) CallError
lengths_checked text fallback = cond (nat_lt text_max (length text) || nat_lt text_max (length fallback)) (Err (Text TooLong)) (Ok tt)

abbrev pub shown_checked : Bool → (text fallback : List ℕ) → Result (Unit {0}) CallError
shown_checked sound text fallback =
    lengths_checked text fallback then text_checked (text_verdict text) then text_checked (text_verdict fallback) then pairs_checked sound

-- what a redaction tells, as the call's
abbrev pub as_shown : Told Short → Told CallError
as_shown unchanged = unchanged
as_shown (replaced r) = replaced r
as_shown (refused e message) = refused (OutputTooShort e.needed) message

-- a refusal without a message
abbrev pub denied : CallError → Told CallError
denied e = refused e []

-- In an area of n bytes, by the pairs of the innermost open scope.
module _ (n : ℕ) (sound : Bool) (scope : List Pair) where
  abbrev pub message_told : (text : List ℕ) → Told CallError
  message_told text = if_passed (shown_checked sound text message_fallback) denied (as_shown (redacted n message_fallback scope text))

  abbrev pub value_told : (text fallback : List ℕ) → Told CallError
  value_told text fallback = if_passed (shown_checked sound text fallback) denied (as_shown (redacted n fallback scope text))

  abbrev pub identifier_told : (name fallback : List ℕ) → Told CallError
  identifier_told name fallback = if_passed (shown_checked sound name fallback) denied (as_shown (identified n fallback scope name))
