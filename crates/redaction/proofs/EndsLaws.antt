-- How a redaction ends. Assumes nothing.
use Rattle.std.proofs.Common.{◌≡◌, ℕ, false, List, [], ◌∷◌, length, unwrap_or, sym, refl, ap, ◌∙◌}
use Rattle.pairs.specs.Lookups.{lookup}
use Rattle.pairs.specs.Pairs.{Pair, firsts}
use Rattle.pairs.proofs.FirstsLaws.{firsts_news, lookup_firsts}
use Rattle.redaction.specs.Orders.{longest_first}
use Rattle.redaction.specs.Redactions.{ended, identified, redacted, shown, steps}
use Rattle.redaction.specs.Redactions.State.{going}

-- a scope with some pairs; ps are the pairs recorded
module _ (n : ℕ) (fallback text : List ℕ) where
  pub some_redacted : (ps : List Pair) → (length ps ≡ 0 → ⊥) → redacted n fallback (firsts ps) text ≡ ended n fallback (steps n (going false text) (longest_first (firsts ps)))
  some_redacted [] h = absurd (h refl)
  some_redacted (p ∷ ps) h =
      ap (λ qs. redacted n fallback qs text) (firsts_news (p ∷ ps)) ∙ sym (ap (λ qs. ended n fallback (steps n (going false text) (longest_first qs))) (firsts_news (p ∷ ps)))

  pub some_identified : (ps : List Pair) → (length ps ≡ 0 → ⊥) → identified n fallback (firsts ps) text ≡ shown n (unwrap_or (lookup ps text) fallback)
  some_identified [] h = absurd (h refl)
  some_identified (p ∷ ps) h =
      ap (λ qs. identified n fallback qs text) (firsts_news (p ∷ ps))
      ∙ sym (ap (λ qs. shown n (unwrap_or (lookup qs text) fallback)) (firsts_news (p ∷ ps)))
      ∙ ap (λ x. shown n (unwrap_or x fallback)) (lookup_firsts (p ∷ ps) text)
