-- A text without replacements: each of its bytes stands for itself.
use Rattle.std.proofs.Common.{◌≡◌, ℕ, zero, suc, ◌+◌, false, ◌||◌, List, [], ◌∷◌, ◌++◌, drop, sym, refl, ap, ◌∙◌, subst, ap₂}
use Rattle.std.proofs.lemmas.Bool.{or_parts}
use Rattle.names.specs.declared.PropertySyntax.{PropertySyntax}
use Rattle.source.specs.Shapes.{Shape}
use Rattle.items.specs.Pieces.{Piece, literal}
use Rattle.items.specs.Items.{Item, item}
use Rattle.expansion.specs.Laws.{replaces, some_replaced}
use Rattle.expansion.specs.Segments.{Segments, Untouched, UnchangedItself}
use Rattle.expansion.proofs.ItemLaws.{item_itself, item_kept, split}
use Rattle.expansion.proofs.EndLaws.{changed_by_root, ended_segments}
use Rattle.expansion.proofs.SegmentLaws.{no_segments}

module _ (sh : List ℕ → Shape) (s : PropertySyntax) where
  unreplaced : (i : ℕ) (bs : List ℕ) (k : ℕ) (ps : List Piece) → some_replaced sh s i bs k ≡ false → Segments sh s (drop k bs) ps
      → Untouched s (drop k bs) × (ps ≡ literal (drop k bs))
  unfolding some_replaced
  unreplaced i [] zero ps h g = (tt, sym (no_segments g))
  unreplaced i [] (suc k) ps h g = (tt, sym (no_segments g))
  unreplaced i (b ∷ bs) (suc k) ps h g = unreplaced (i + 1) bs k ps h g
  unreplaced i (b ∷ bs) zero ps h g =
      let it : Item = item sh s i b bs in
      let no_marks = or_parts (replaces it.act) (some_replaced sh s (i + 1) bs it.more) h in
      let x = split i g in
      let p = item_kept sh s i b bs x.first no_marks.0 in
      let q = unreplaced (i + 1) bs it.more x.others no_marks.1 x.rest in
      let behind : drop it.more bs ≡ bs = ap (λ k. drop k bs) p.more in
      ((p.itself, subst (Untouched s) behind q.0), x.whole ∙ ap₂ (λ xs ys. xs ++ ys) p.pieces (q.1 ∙ ap literal behind))

  untouched : (i : ℕ) (bs : List ℕ) → Untouched s bs → some_replaced sh s i bs 0 ≡ false
  unfolding some_replaced
  untouched i [] h = refl
  untouched i (b ∷ bs) h =
      let p = item_itself sh i h.0 in
      ap₂ (λ a k. replaces a || some_replaced sh s (i + 1) bs k) p.0 p.1 ∙ untouched (i + 1) bs h.1

pub unchanged_itself : UnchangedItself
unchanged_itself sh s most t u text c ps e =
    let mark = changed_by_root sh s most t u text c ps e in
    record {
      same = λ h. unreplaced sh s 0 text 0 ps (sym mark ∙ h) (ended_segments sh s most t u text c ps e);
      only = λ h. mark ∙ untouched sh s 0 text h;
    }
