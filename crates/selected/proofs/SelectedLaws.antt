-- Selected text is to be expanded where one of its bytes is, by those behind it.
use Rattle.std.proofs.Common.{◌≡◌, ℕ, ◌+◌, ◌-◌, Bool, ◌||◌, List, [], ◌∷◌, length, take, drop, refl, sym, ap, ◌∙◌}
use Rattle.std.proofs.lemmas.List.{drop-drop, take_rest}
use Rattle.std.specs.List.{list_any, enumerate_from}
use Rattle.names.specs.declared.PropertySyntax.{PropertySyntax}
use Rattle.items.specs.Items.{expands, expands_here}

module _ (s : PropertySyntax) (text : List ℕ) where
  -- whether a byte at a place is to be expanded; `&text[i + 1..]` is read as the `take`
  abbrev pub expands_at : ℕ × ℕ → Bool
  expands_at p = expands_here s p.1 (take (length text - (p.0 + 1)) (drop (p.0 + 1) text))

  -- the bytes from the place i on
  pub expands_any : (i : ℕ) (bs : List ℕ) → drop i text ≡ bs → list_any expands_at (enumerate_from i bs) ≡ expands s bs
  expands_any i [] e = refl
  expands_any i (b ∷ bs) e =
      let behind : drop (i + 1) text ≡ bs = sym (drop-drop 1 i text) ∙ ap (drop 1) e in
      ap (λ q. expands_here s b q || list_any expands_at (enumerate_from (i + 1) bs)) (take_rest text (i + 1) ∙ behind)
      ∙ ap (λ r. expands_here s b bs || r) (expands_any (i + 1) bs behind)
