-- What a view of any bytes means.
use Rattle.std.proofs.Common.{◌≡◌, ℕ, ◌<◌, ◌≤◌, List, length, Some, None, Ok, Option, nat_le, sym, refl, ap, ◌∙◌}
use Rattle.std.proofs.lemmas.Bool.{cond-false, cond-true, cond_both, leb-false, le-leb}
use Rattle.tables.specs.Formats.{FormatLaws, table_laws}
use Rattle.source.specs.declared.error.SourceError.{SourceError}
use Rattle.tables.specs.declared.rows.BadRow.{BadRow}
use Rattle.tables.specs.Meaning.{Checked, LawfulTable, Tells}
use Rattle.tables.specs.Rows.{Format, meaning, rows, table_bad, verdict}
use Rattle.tables.specs.ViewLaws.{found}
use Rattle.tables.specs.Views.{Viewed, bounded, short_enough}
use Rattle.tables.proofs.Telling.{checked, found_where, lawful_none, sounds, tells}

-- the bounds change nothing that keeps them
all_kept : (o : Option (List ℕ)) → ((value : List ℕ) → o ≡ Some value → length value ≤ 1024) → short_enough o ≡ o
all_kept None h = refl
all_kept (Some v) h = cond-true _ _ _ (le-leb (length v) 1024 (h v refl))

unbounded : (look : List ℕ → Option (List ℕ)) (name : List ℕ) → (63 < length name → look name ≡ None)
    → ((value : List ℕ) → look name ≡ Some value → length value ≤ 1024) → bounded look name ≡ look name
unbounded look name long short =
    cond_both (nat_le (length name) 63) (short_enough (look name)) None (λ o. o ≡ look name)
    (λ t. all_kept (look name) short)
    (λ t. sym (long (leb-false (length name) 63 t)))

module _ {f : Format} (laws : FormatLaws f) (most top : ℕ) (bytes : List ℕ) where
  within : LawfulTable f most bytes → (name : List ℕ) → bounded (meaning f bytes) name ≡ meaning f bytes name
  within l name =
      let lawful = table_laws f laws (λ (u : Unit {0}). bytes) (λ u. sounds f (rows f bytes) l.good) in
      unbounded (meaning f bytes) name (lawful.long tt name) (lawful.short tt name)

  -- a check that passes has found no bad row
  passed : (refusal : BadRow → SourceError) (o : Option BadRow) → verdict refusal o ≡ Ok tt → Checked f most top bytes o → LawfulTable f most bytes
  passed refusal None e l = l
  passed refusal (Some bad) e l = absurd (cc)

  pub viewed : Viewed f most top bytes (bounded (meaning f bytes))
  viewed = record {
    same = λ l name.
        within l name
        ∙ ap (λ q. meaning f q name) (sym (cond-false _ _ _ (lawful_none f most top bytes l _ (checked f most top bytes))));
    tells = λ l.
        let t = tells f (rows f bytes) l.good in
        record { set = λ k h. within l _ ∙ t.set k h; only = λ n v e. t.only n v (found (meaning f bytes) n v e).0 };
    only = λ n v e. found_where f (rows f bytes) n v (found (meaning f bytes) n v e).0;
  }

  -- a table whose check has passed tells its rows
  pub tells_passed : (refusal : BadRow → SourceError) → verdict refusal (table_bad f most top bytes) ≡ Ok tt → Tells f (rows f bytes) (bounded (meaning f bytes))
  tells_passed refusal e = viewed.tells (passed refusal (table_bad f most top bytes) e (checked f most top bytes))
