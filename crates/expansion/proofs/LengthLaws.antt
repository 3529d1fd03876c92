-- How long messages and texts are.
use Rattle.std.proofs.Common.{◌≡◌, ℕ, ◌+◌, ◌*◌, ◌≤◌, Bool, true, false, cond, ◌||◌, eqb, ltb, List, [], ◌∷◌, ◌++◌, length, Some, None, Option, refl, subst, arith, length-append}
use Rattle.std.specs.List.{AllByRecursion}
use Rattle.budget.specs.Charges.{charged}
use Rattle.names.specs.declared.PropertySyntax.{PropertySyntax}
use Rattle.source.specs.Shapes.{Shape, unset, empty, filled, bytes_of, values}
use Rattle.references.specs.declared.error.Span.{Span}
use Rattle.references.specs.declared.error.PropertyError.{PropertyError}
use Rattle.references.specs.declared.error.PropertyError.TheVariants.{Unresolved, InvalidName, RequiredButUnset, RequiredButEmpty, ExpansionDepthLimitExceeded, ExpansionWorkLimitExceeded}
use Rattle.references.specs.Operators.{Op}
use Rattle.items.specs.Pieces.{Piece, lit, val, literal, spelled}
use Rattle.expansion.specs.Events.{Event, charge, emit, replaced, nest, begins, message, refused, first_dollar, events}
use Rattle.expansion.specs.Walks.{Limits, Outcome, ended, stopped, missing, run, walk}
use Rattle.expansion.specs.Lengths.{SaysLength, MessageLength, PiecesFew, Short, TextBounded}
use Rattle.expansion.specs.Segments.{Refers, word_of, Segments, end, itself, escaped, valued, omitted, copied, walked}
use Rattle.expansion.proofs.ActLaws.{Plain}
use Rattle.expansion.proofs.ItemLaws.{refers_word, word_fits}
use Rattle.expansion.proofs.EndLaws.{ended_segments}
use Rattle.expansion.proofs.FreeLaws.{Calm, calm_begin}

abbrev Says : Outcome → Type 0
Says (ended t c ps) = Unit {0}
Says (stopped t e told) = SaysLength e told

says_plain : (e : PropertyError) → Plain e → SaysLength e []
says_plain (Unresolved name) h = refl
says_plain (InvalidName part) h = refl
says_plain (RequiredButUnset name len) h = absurd h
says_plain (RequiredButEmpty name len) h = absurd h
says_plain (ExpansionDepthLimitExceeded depth limit) h = absurd h
says_plain (ExpansionWorkLimitExceeded work limit) h = absurd h

says_missing : (v : Shape) (name : Span) (told : List ℕ) → SaysLength (missing v name (length told)) told
says_missing unset name told = refl
says_missing empty name told = refl
says_missing filled name told = refl

says_either : (b : Bool) (stop o : Outcome) → Says stop → Says o → Says (cond b stop o)
says_either true stop o p q = p
says_either false stop o p q = q

-- `calm` bounds the depth of the events, `most` the walk
says_run : (calm most : Limits) (sh : List ℕ → Shape) (es : List Event) (t : ℕ) (c : Bool) (ps : List Piece) → AllByRecursion (Calm calm) es → Says (run sh most t c ps es)
unfolding run
says_run calm most sh [] t c ps h = tt
says_run calm most sh (charge k ∷ es) t c ps h =
    says_either (ltb most.work (charged t k)) (stopped (charged t k) (ExpansionWorkLimitExceeded (charged t k) most.work) []) _ refl (says_run calm most sh es (charged t k) c ps h.1)
says_run calm most sh (emit p ∷ es) t c ps h = says_run calm most sh es t c (ps ++ p ∷ []) h.1
says_run calm most sh (replaced d ∷ es) t c ps h = says_run calm most sh es t (c || eqb d 1) ps h.1
says_run calm most sh (nest d ∷ es) t c ps h =
    says_either (ltb most.depth d) (stopped t (ExpansionDepthLimitExceeded d most.depth) []) _ refl (says_run calm most sh es t c ps h.1)
says_run calm most sh (begins ∷ es) t c ps h = says_run calm most sh es t c [] h.1
says_run calm most sh (message v name source ∷ es) t c ps h = says_missing v name _
says_run calm most sh (refused e ∷ es) t c ps h = says_plain e h.0

pub message_length : MessageLength
unfolding walk events
message_length sh s most t u text e told h =
    let calm : Limits = record { depth = length text; work = 0 } in
    subst Says h (says_run calm most sh (events sh s text) t false [] (calm_begin calm sh s text (first_dollar 0 text) (omega arith)))

-- a reference is longer than its word and what is behind it
behind_less : {s : PropertySyntax} {bs name behind : List ℕ} {op : Op} → Refers s bs name op behind → length (word_of op) + length behind ≤ length bs
behind_less {op = op} r = omega (arith, refers_word r, word_fits op)

literal_length : (w : List ℕ) → length (literal w) ≡ length w
literal_length [] = refl
literal_length (b ∷ w) = omega (arith, literal_length w)

few : {sh : List ℕ → Shape} {s : PropertySyntax} {bs : List ℕ} {ps : List Piece} → Segments sh s bs ps → length ps ≤ length bs
few end = omega arith
few (itself e g) = omega (arith, few g)
few (escaped g) = omega (arith, few g)
few (valued r e g) = omega (arith, behind_less r, few g)
few (omitted r e g) = omega (arith, behind_less r, few g)
few (copied {op = op} {ps = ps} r e f g) = omega (arith, behind_less r, literal_length (word_of op), length-append (literal (word_of op)) ps, few g)
few (walked {qs = qs} {ps = ps} r e f h g) = omega (arith, behind_less r, length-append qs ps, few h, few g)

pub pieces_few : PiecesFew
pieces_few sh s most t u text c ps h = few (ended_segments sh s most t u text c ps h)

module _ (m : List ℕ → Option (List ℕ)) (short : Short m) where
  value_short : (o : Option (List ℕ)) (name : List ℕ) → m name ≡ o → length (bytes_of o) ≤ 1024
  value_short None name e = omega arith
  value_short (Some bytes) name e = short name bytes e

  spelled_short : (ps : List Piece) → length (spelled (values m) ps) ≤ 1024 * length ps
  spelled_short [] = omega arith
  spelled_short (lit b ∷ ps) = omega (arith, spelled_short ps)
  spelled_short (val name ∷ ps) = omega (arith, value_short (m name) name refl, length-append (values m name) (spelled (values m) ps), spelled_short ps)

pub text_bounded : TextBounded
text_bounded m s most t u text c ps short h = omega (arith, spelled_short m short ps, pieces_few _ s most t u text c ps h)
