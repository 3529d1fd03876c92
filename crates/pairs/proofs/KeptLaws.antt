-- Pairs whose bytes stay as they were, and a pair that is laid behind them. Assumes nothing.
use Rattle.std.proofs.Common.{◌≡◌, ℕ, ◌+◌, ◌-◌, ◌≤◌, true, ◌&&◌, leb, List, [], ◌∷◌, ◌++◌, length, take, drop, sym, refl, ap, ◌∙◌, arith}
use Rattle.std.proofs.lemmas.List.{drop_at, drop-drop, take_at, take-take}
use Rattle.std.proofs.lemmas.List.Recursion.{and_push}
use Rattle.std.proofs.lemmas.Slice.{between_is}
use Rattle.std.proofs.lemmas.Bool.{and_from, and_parts, le-leb, leb-true}
use Rattle.std.specs.List.{between}
use Rattle.pairs.specs.Records.{all_within, pair_of, pairs_in, within}
use Rattle.pairs.specs.declared.record.PairRecord.{PairRecord}

pub within_ends : (n : ℕ) (r : PairRecord) → within n r ≡ true → r.at + r.text + r.result ≤ n
within_ends n r e =
    let a = and_parts (leb r.at n) (leb r.text (n - r.at) && leb r.result (n - r.at - r.text)) e in
    let b = and_parts (leb r.text (n - r.at)) (leb r.result (n - r.at - r.text)) a.1 in
    omega (arith, leb-true r.at n a.0, leb-true r.text (n - r.at) b.0, leb-true r.result (n - r.at - r.text) b.1)

pub ends_within : (n : ℕ) (r : PairRecord) → r.at + r.text + r.result ≤ n → within n r ≡ true
ends_within n r h = and_from _ _ (le-leb r.at n (omega arith)) (and_from _ _ (le-leb r.text (n - r.at) (omega arith)) (le-leb r.result (n - r.at - r.text) (omega arith)))

-- more bytes hold them too
pub all_within_raised : (n m : ℕ) (rs : List PairRecord) → n ≤ m → all_within n rs ≡ true → all_within m rs ≡ true
all_within_raised n m [] h e = refl
all_within_raised n m (r ∷ rs) h e =
    let both = and_parts (within n r) (all_within n rs) e in
    let low : r.at + r.text + r.result ≤ m = omega (arith, within_ends n r both.0) in
    and_from _ _ (ends_within m r low) (all_within_raised n m rs h both.1)

pub all_within_push : (n : ℕ) (rs : List PairRecord) (r : PairRecord) → all_within n rs ≡ true → within n r ≡ true → all_within n (rs ++ (r ∷ [])) ≡ true
all_within_push n rs r e f = and_push (all_within n) (within n) refl (λ _ _. refl) rs r ∙ and_from _ _ e f

-- bytes that agree up to n
module _ (n : ℕ) (xs ys : List ℕ) (same : take n xs ≡ take n ys) where
  between_kept : (i j : ℕ) → j ≤ n → between i j xs ≡ between i j ys
  between_kept i j low =
      between_is xs i j ∙ ap (drop i) (sym (take-take j n xs low) ∙ ap (take j) same ∙ take-take j n ys low) ∙ sym (between_is ys i j)

  pub pair_kept : (r : PairRecord) → within n r ≡ true → pair_of xs r ≡ pair_of ys r
  pair_kept r e =
      let ends = within_ends n r e in
      let text : between r.at (r.at + r.text) xs ≡ between r.at (r.at + r.text) ys = between_kept r.at (r.at + r.text) (omega arith) in
      let result : between (r.at + r.text) (r.at + r.text + r.result) xs ≡ between (r.at + r.text) (r.at + r.text + r.result) ys =
      between_kept (r.at + r.text) (r.at + r.text + r.result) ends in
      λ i. (text i, result i)

  pub pairs_kept : (rs : List PairRecord) → all_within n rs ≡ true → pairs_in xs rs ≡ pairs_in ys rs
  pairs_kept [] e = refl
  pairs_kept (r ∷ rs) e =
      let both = and_parts (within n r) (all_within n rs) e in
      ap (λ p. p ∷ pairs_in xs rs) (pair_kept r both.0) ∙ ap (λ ps. pair_of ys r ∷ ps) (pairs_kept rs both.1)

-- a text and its result laid behind the front of the bytes
pub pair_laid : (front text result rest : List ℕ) (r : PairRecord) → r.at ≡ length front → r.text ≡ length text → r.result ≡ length result →
    pair_of (front ++ (text ++ (result ++ rest))) r ≡ (text, result)
pair_laid front text result rest r is_at is_text is_result =
    let bytes : List ℕ = front ++ (text ++ (result ++ rest)) in
    let k : r.at + r.text - r.at ≡ length text = omega arith in
    let j : r.at + r.text + r.result - (r.at + r.text) ≡ length result = omega arith in
    let behind : drop r.at bytes ≡ text ++ (result ++ rest) = drop_at front (text ++ (result ++ rest)) r.at (sym is_at) in
    let past : drop (r.at + r.text) bytes ≡ result ++ rest =
    sym (drop-drop r.text r.at bytes) ∙ ap (drop r.text) behind ∙ drop_at text (result ++ rest) r.text (sym is_text) in
    let a : between r.at (r.at + r.text) bytes ≡ text =
    ap (take (r.at + r.text - r.at)) behind ∙ take_at text (result ++ rest) (r.at + r.text - r.at) (sym k) in
    let b : between (r.at + r.text) (r.at + r.text + r.result) bytes ≡ result =
    ap (take (r.at + r.text + r.result - (r.at + r.text))) past ∙ take_at result rest (r.at + r.text + r.result - (r.at + r.text)) (sym j) in
    λ i. (a i, b i)
