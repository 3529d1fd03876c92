-- The first match, where each part of the text that is as long as the needle is compared with it. Assumes nothing.
use Rattle.std.proofs.Common.{◌≡◌, ℕ, ◌+◌, ◌-◌, ◌<◌, ◌≤◌, Bool, true, false, cond, leb, List, [], ◌∷◌, length, take, drop, sym, refl, ap, ◌∙◌, subst, arith}
use Rattle.std.proofs.lemmas.List.{length-take}
use Rattle.std.proofs.lemmas.Bool.{cond-true, cond-false, leb-false, lt-leb, le-leb}
use Rattle.std.proofs.lemmas.Slice.Eq.{bytes_eq-Decides}
use Rattle.std.proofs.lemmas.Iterator.{YieldsList}
use Rattle.std.proofs.lemmas.Iterator.Splits.{YieldsList-from_shown_while}
use Rattle.std.specs.List.{position_from, slice_get}
use Rattle.std.specs.Slice.Iter.{windows_rest, windows_size, windows_steps}
use Rattle.std.specs.Str.{bytes_eq}
use Rattle.matches.specs.Places.{spots}
use Rattle.matches.proofs.PlacesLaws.{starts_is}

-- the parts of k bytes that `windows` gives
abbrev pub parts : ℕ → List ℕ → List (List ℕ)
parts k [] = []
parts k (b ∷ bs) = cond (leb k (length (b ∷ bs))) (take k (b ∷ bs) ∷ parts k bs) []

parts_none : (k : ℕ) (bs : List ℕ) → length bs < k → parts k bs ≡ []
parts_none k [] h = refl
parts_none k (b ∷ bs) h = cond-false _ _ _ (lt-leb k (length (b ∷ bs)) h)

parts_some : (k : ℕ) (bs : List ℕ) → 0 < k → k ≤ length bs → parts k bs ≡ take k bs ∷ parts k (drop 1 bs)
parts_some k [] some h = absurd (omega arith)
parts_some k (b ∷ bs) some h = cond-true _ _ _ (le-leb k (length (b ∷ bs)) h)

pub gives_parts : {s : _} (n bs : List ℕ) → 0 < length n → windows_size s ≡ length n → windows_rest s ≡ bs → YieldsList (windows_steps {A = ℕ}) (λ w. w.now) s (parts (length n) bs)
gives_parts {s} n bs some size rest =
    subst (YieldsList (windows_steps {A = ℕ}) (λ w. w.now) s) (ap (λ k. parts k (windows_rest s)) size ∙ ap (parts (length n)) rest)
    (YieldsList-from_shown_while (windows_steps {A = ℕ}) (λ w. w.now) (λ t. parts (windows_size t) (windows_rest t)) (λ t. 0 < windows_size t)
    (λ t u h st. ap length (parts_none (windows_size t) (windows_rest t) st.1.0))
    (λ t w u h st. (
      omega arith,
      parts_some (windows_size t) (windows_rest t) h st.1.0
          ∙ ap (λ p. p ∷ parts (windows_size t) (drop 1 (windows_rest t))) (sym st.1.1)
          ∙ ap (λ r. w.now ∷ parts (windows_size t) r) (sym st.1.2)
          ∙ ap (λ k. w.now ∷ parts k (windows_rest u)) (sym st.0),
    )) s (omega arith))

-- too few bytes for it
not_short : (n bs : List ℕ) → length bs < length n → bytes_eq (take (length n) bs) n ≡ true → ⊥
not_short n bs h e =
    let same : length (take (length n) bs) ≡ length n = ap length ((bytes_eq-Decides (take (length n) bs) n).0 e) in
    omega (arith, length-take (length n) bs)

module _ (n : List ℕ) (some : 0 < length n) where
  -- the first match is the first part that is the needle
  pub first_part : (i : ℕ) (bs : List ℕ) → slice_get (spots n 0 i bs) 0 ≡ position_from (λ w. bytes_eq w n) i (parts (length n) bs)
  first_part i [] = refl
  first_part i (b ∷ bs) = go (first_part (i + 1) bs) (leb (length n) (length (b ∷ bs))) refl (bytes_eq (take (length n) (b ∷ bs)) n) refl
    where
      test : List ℕ → Bool
      test w = bytes_eq w n

      head : (d : Bool) → bytes_eq (take (length n) (b ∷ bs)) n ≡ d → spots n 0 i (b ∷ bs) ≡ cond d (i ∷ spots n (length n - 1) (i + 1) bs) (spots n 0 (i + 1) bs)
      head d e = ap (λ c. cond c (i ∷ spots n (length n - 1) (i + 1) bs) (spots n 0 (i + 1) bs)) (starts_is n (b ∷ bs) some ∙ e)

      go : slice_get (spots n 0 (i + 1) bs) 0 ≡ position_from test (i + 1) (parts (length n) bs) → (c : Bool) → leb (length n) (length (b ∷ bs)) ≡ c → (d : Bool) → bytes_eq (take (length n) (b ∷ bs)) n ≡ d →
          slice_get (spots n 0 i (b ∷ bs)) 0 ≡ position_from test i (cond c (take (length n) (b ∷ bs) ∷ parts (length n) bs) [])
      go more true h true e = ap (λ ps. slice_get ps 0) (head true e) ∙ sym (cond-true _ _ _ e)
      go more true h false e = ap (λ ps. slice_get ps 0) (head false e) ∙ more ∙ sym (cond-false _ _ _ e)
      go more false h true e = absurd (not_short n (b ∷ bs) (leb-false (length n) (length (b ∷ bs)) h) e)
      go more false h false e =
          let low : length bs < length n = omega (arith, leb-false (length n) (length (b ∷ bs)) h) in
          ap (λ ps. slice_get ps 0) (head false e) ∙ more ∙ ap (position_from test (i + 1)) (parts_none (length n) bs low)
