-- That an opening begins the session that was asked for, or none.
use Rattle.std.proofs.Common.{◌≡◌, ◌≢◌, ℕ, Bool, true, false, cond, List, Some, None, Ok, Err, Option, Result, refl, ap, ◌∙◌, arith}
use Rattle.names.specs.declared.PropertySyntax.{PropertySyntax}
use Rattle.source.specs.declared.error.SourceError.{SourceError}
use Rattle.source.specs.declared.error.SourceError.TheVariants.{BadBook, BadBlock, BadStem}
use Rattle.stem.specs.Stems.{stem_lawful, stem_verdict}
use Rattle.tables.specs.BlockLaws.{block_format_laws}
use Rattle.tables.specs.BookLaws.{book_format_laws}
use Rattle.tables.proofs.Viewing.{tells_passed}
use Rattle.session.specs.Sessions.{made}
use Rattle.dollar.specs.Held.{session_known, session_of, source_means, syntax_numbered}
use Rattle.dollar.specs.Opening.{Opens, RowsTold, known_checked, open_checked, open_refused, open_told, opened, stem_next}
use Rattle.dollar.specs.Tables.{kind_numbered, kind_verdict}
use Rattle.dollar.specs.declared.opening.OpenError.{OpenError}
use Rattle.dollar.specs.declared.opening.OpenError.TheVariants.{Unknown, Unlawful}
use Rattle.dollar.specs.declared.sessions.DollarSession.{DollarSession}
use Rattle.dollar.specs.declared.table.TableKind.{TableKind}
use Rattle.dollar.specs.declared.table.TableKind.TheVariants.{Empty, Book, Block}

unset_either : (b : Bool) (o : Option (List ℕ)) → o ≡ None → cond b o None ≡ None
unset_either true o e = e
unset_either false o e = refl

rows_told : (k : TableKind) (table : List ℕ) → kind_verdict k table ≡ Ok tt → RowsTold k table
rows_told Empty table e = λ name. unset_either _ _ refl
rows_told Book table e = tells_passed book_format_laws 65536 256 table _ e
rows_told Block table e = tells_passed block_format_laws 16384 16384 table _ e

abbrev stem_by : Bool → Result (Unit {0}) SourceError
stem_by lawful = cond lawful (Ok tt) (Err BadStem)

passed_stem : (lawful : Bool) → stem_by lawful ≡ Ok tt → lawful ≡ true
passed_stem true h = refl
passed_stem false h = absurd (cc)

module _ (kind syntax depth work : ℕ) (table stem : List ℕ) where
  abbrev Opening : Result (Unit {0}) OpenError → Type 0
  Opening r = Opens kind syntax depth work table stem (open_told r) (opened r kind syntax depth work)

  -- the number of no refusal is 0
  number_is_some : (e : OpenError) → (open_refused e).refusal ≢ 0
  number_is_some Unknown h = omega arith
  number_is_some (Unlawful (BadBook number)) h = omega arith
  number_is_some (Unlawful (BadBlock offset)) h = omega arith
  number_is_some (Unlawful BadStem) h = omega arith

  refused_opening : (e : OpenError) → Opening (Err e)
  refused_opening e = record { answered = λ h. absurd (number_is_some e h); refused = λ n t s. refl }

  module _ (k : TableKind) (x : PropertySyntax) (is_k : kind_numbered kind ≡ Some k) (is_x : syntax_numbered syntax ≡ Some x) where
    abbrev fresh : DollarSession
    fresh = opened (Ok tt) kind syntax depth work

    begun_session : session_of fresh table stem ≡ Some (made (source_means k table stem) x depth work)
    begun_session =
        ap (λ o. session_known fresh table stem o (syntax_numbered syntax)) is_k
        ∙ ap (session_known fresh table stem (Some k)) is_x

    by_verdicts : (v w : Result (Unit {0}) SourceError) → kind_verdict k table ≡ v → stem_verdict stem ≡ w → Opening (stem_next v w)
    by_verdicts (Err e) w h g = refused_opening (Unlawful e)
    by_verdicts (Ok u) (Err e) h g = refused_opening (Unlawful e)
    by_verdicts (Ok u) (Ok v) h g =
        record {
          answered = λ z.
              record {
                table_kind = k;
                of_kind = is_k;
                written = x;
                of_syntax = is_x;
                session = begun_session;
                told = rows_told k table h;
                lawful = passed_stem (stem_lawful stem) g;
              };
          refused = λ n. absurd (n refl);
        }

  by_numbers : (k : Option TableKind) (x : Option PropertySyntax) → kind_numbered kind ≡ k → syntax_numbered syntax ≡ x → Opening (known_checked k x table stem)
  by_numbers None x e d = refused_opening Unknown
  by_numbers (Some k) None e d = refused_opening Unknown
  by_numbers (Some k) (Some x) e d = by_verdicts k x e d (kind_verdict k table) (stem_verdict stem) refl refl

  pub opens : Opening (open_checked kind syntax table stem)
  opens = by_numbers (kind_numbered kind) (syntax_numbered syntax) refl refl
