-- The places of the matches, from one match to the next. Assumes nothing.
use Rattle.std.proofs.Common.{◌≡◌, ℕ, zero, suc, ◌+◌, ◌-◌, ◌<◌, ◌≤◌, Bool, true, false, cond, ◌&&◌, List, [], ◌∷◌, length, take, drop, Some, None, Option, sym, refl, ap, ◌∙◌, arith, length-drop}
use Rattle.std.proofs.lemmas.List.{length-take}
use Rattle.std.proofs.lemmas.Bool.{lt-ltb}
use Rattle.std.proofs.lemmas.Bool.Decides.{same_from_decides}
use Rattle.std.proofs.lemmas.Slice.Eq.{bytes_eq-Decides}
use Rattle.std.specs.List.{slice_get}
use Rattle.std.specs.Str.{bytes_eq}
use Rattle.memchr.specs.Find.{FindsNeedle, OccursAt}
use Rattle.memchr.proofs.lemmas.MatchLemmas.{OccursAt-from_part, OccursAt-part}
use Rattle.matches.specs.declared.matching.Matches.{Matches}
use Rattle.matches.specs.declared.matching.Matches.TheVariants.{Often, Once}
use Rattle.matches.specs.Kinds.{kind_of}
use Rattle.matches.specs.Places.{places, spots, starts}

bytes_eq_sym : (xs ys : List ℕ) → bytes_eq xs ys ≡ bytes_eq ys xs
bytes_eq_sym xs ys =
    let back = bytes_eq-Decides ys xs in
    same_from_decides _ _ (bytes_eq-Decides xs ys) (λ e. sym (back.0 e), λ e. back.1 (sym e))

-- a needle that has a byte stands at the front where the part there is the needle
pub starts_is : (n bs : List ℕ) → 0 < length n → starts n bs ≡ bytes_eq (take (length n) bs) n
starts_is n bs some = ap (λ b. b && bytes_eq n (take (length n) bs)) (lt-ltb 0 (length n) some) ∙ bytes_eq_sym n (take (length n) bs)

module _ (n : List ℕ) (some : 0 < length n) where
  -- the needle stands at a place where the library finds it, and nowhere else
  stands : (text : List ℕ) (k : ℕ) → OccursAt text n k → starts n (drop k text) ≡ true
  stands text k h = starts_is n (drop k text) some ∙ (bytes_eq-Decides _ n).1 (OccursAt-part text n k h)

  stands_not : (text : List ℕ) (k : ℕ) → (OccursAt text n k → ⊥) → starts n (drop k text) ≡ false
  stands_not text k h = go (bytes_eq (take (length n) (drop k text)) n) refl
    where
      go : (c : Bool) → bytes_eq (take (length n) (drop k text)) n ≡ c → starts n (drop k text) ≡ false
      go false e = starts_is n (drop k text) some ∙ e
      go true e =
          let same : take (length n) (drop k text) ≡ n = (bytes_eq-Decides (take (length n) (drop k text)) n).0 e in
          let fits : k + length n ≤ length text = omega (arith, ap length same, length-take (length n) (drop k text), length-drop k text) in
          absurd (h (OccursAt-from_part text n k fits same))

  -- Here i is the place of the first byte. The needle stands at none of them.
  none_there : (i : ℕ) (bs : List ℕ) → ((k : ℕ) → k < length bs → starts n (drop k bs) ≡ false) → slice_get (spots n 0 i bs) 0 ≡ None
  none_there i [] h = refl
  none_there i (b ∷ bs) h =
      ap (λ c. slice_get (cond c (i ∷ spots n (length n - 1) (i + 1) bs) (spots n 0 (i + 1) bs)) 0) (h 0 (omega arith))
      ∙ none_there (i + 1) bs (λ k l. h (suc k) (omega arith))

  -- the needle stands at byte k, and at none before it
  first_there : (i : ℕ) (bs : List ℕ) (k m : ℕ) → m ≡ i + k → k < length bs → ((j : ℕ) → j < k → starts n (drop j bs) ≡ false) → starts n (drop k bs) ≡ true → slice_get (spots n 0 i bs) 0 ≡ Some m
  first_there i [] k m e l h p = absurd (omega arith)
  first_there i (b ∷ bs) zero m e l h p =
      ap (λ c. slice_get (cond c (i ∷ spots n (length n - 1) (i + 1) bs) (spots n 0 (i + 1) bs)) 0) p ∙ ap Some (omega arith)
  first_there i (b ∷ bs) (suc k) m e l h p =
      ap (λ c. slice_get (cond c (i ∷ spots n (length n - 1) (i + 1) bs) (spots n 0 (i + 1) bs)) 0) (h 0 (omega arith))
      ∙ first_there (i + 1) bs k m (omega arith) (omega arith) (λ j q. h (suc j) (omega arith)) p

  -- the first match is what the library finds
  pub first_is : (text : List ℕ) (r : Option ℕ) → FindsNeedle text n 0 r → r ≡ slice_get (places n text) 0
  first_is text None h = sym (none_there 0 text (λ k l. stands_not text k (h k (omega arith) (omega arith))))
  first_is text (Some k) h =
      let fits = h.1.fits in
      sym (first_there 0 text k k (omega arith) (omega arith) (λ j l. stands_not text j (h.0.before j (omega arith) l)) (stands text k h.1))

  -- a place that is named later, or a match that is left out, changes no count
  same_count : (k i j : ℕ) (bs : List ℕ) → length (spots n k i bs) ≡ length (spots n k j bs)
  same_count k i j [] = refl
  same_count (suc k) i j (b ∷ bs) = same_count k (i + 1) (j + 1) bs
  same_count zero i j (b ∷ bs) = go (starts n (b ∷ bs)) (same_count (length n - 1) (i + 1) (j + 1) bs) (same_count 0 (i + 1) (j + 1) bs)
    where
      go : (c : Bool) → length (spots n (length n - 1) (i + 1) bs) ≡ length (spots n (length n - 1) (j + 1) bs) → length (spots n 0 (i + 1) bs) ≡ length (spots n 0 (j + 1) bs) →
          length (cond c (i ∷ spots n (length n - 1) (i + 1) bs) (spots n 0 (i + 1) bs)) ≡ length (cond c (j ∷ spots n (length n - 1) (j + 1) bs) (spots n 0 (j + 1) bs))
      go true hit miss = ap suc hit
      go false hit miss = miss

  skipped : (k i : ℕ) (bs : List ℕ) → length (spots n k i bs) ≡ length (spots n 0 0 (drop k bs))
  skipped zero i bs = same_count 0 i 0 bs
  skipped (suc k) i [] = refl
  skipped (suc k) i (b ∷ bs) = skipped k (i + 1) bs

  count_more : (bs : List ℕ) (i j : ℕ) → slice_get (spots n 0 i bs) 0 ≡ Some j → (i ≤ j) × (length (spots n 0 i bs) ≡ suc (length (spots n 0 0 (drop (j - i + length n) bs))))
  count_more [] i j e = absurd (cc)
  count_more (b ∷ bs) i j e = go (starts n (b ∷ bs)) (count_more bs (i + 1) j) e
    where
      go : (c : Bool) → (slice_get (spots n 0 (i + 1) bs) 0 ≡ Some j → (i + 1 ≤ j) × (length (spots n 0 (i + 1) bs) ≡ suc (length (spots n 0 0 (drop (j - (i + 1) + length n) bs))))) →
          slice_get (cond c (i ∷ spots n (length n - 1) (i + 1) bs) (spots n 0 (i + 1) bs)) 0 ≡ Some j →
          (i ≤ j) × (length (cond c (i ∷ spots n (length n - 1) (i + 1) bs) (spots n 0 (i + 1) bs)) ≡ suc (length (spots n 0 0 (drop (j - i + length n) (b ∷ bs)))))
      go true more f =
          let same : i ≡ j = cc in
          let k : suc (length n - 1) ≡ j - i + length n = omega arith in
          (omega arith, ap suc (skipped (length n - 1) (i + 1) bs) ∙ ap (λ m. suc (length (spots n 0 0 (drop m (b ∷ bs))))) k)
      go false more f =
          let low : i + 1 ≤ j = (more f).0 in
          let k : suc (j - (i + 1) + length n) ≡ j - i + length n = omega arith in
          (omega arith, (more f).1 ∙ ap (λ m. suc (length (spots n 0 0 (drop m (b ∷ bs))))) k)

  -- after the first match the count goes on behind it
  pub count_on : (text : List ℕ) (at : ℕ) → slice_get (places n text) 0 ≡ Some at → length (places n text) ≡ suc (length (places n (drop (at + length n) text)))
  count_on text at e =
      let k : at - 0 + length n ≡ at + length n = omega arith in
      (count_more text 0 at e).1 ∙ ap (λ m. suc (length (places n (drop m text)))) k

pub count_none : (ps : List ℕ) → slice_get ps 0 ≡ None → length ps ≡ 0
count_none [] e = refl
count_none (p ∷ ps) e = absurd (cc)

-- how often it stands there, by the place of the first match and what stands behind it
abbrev by_next : ℕ → Option ℕ → Matches
by_next at None = Once at
by_next at (Some m) = Often

kind_by : (ps qs : List ℕ) (at : ℕ) → slice_get ps 0 ≡ Some at → length ps ≡ suc (length qs) → kind_of ps ≡ by_next at (slice_get qs 0)
kind_by [] qs at e n = absurd (cc)
kind_by (p ∷ []) [] at e n = cc
kind_by (p ∷ []) (q ∷ qs) at e n = absurd (omega arith)
kind_by (p ∷ r ∷ ps) [] at e n = absurd (omega arith)
kind_by (p ∷ r ∷ ps) (q ∷ qs) at e n = refl

module _ (n text : List ℕ) (at : ℕ) (some : 0 < length n) (first : Some at ≡ slice_get (places n text) 0) where
  kind_on : kind_of (places n text) ≡ by_next at (slice_get (places n (drop (at + length n) text)) 0)
  kind_on = kind_by (places n text) (places n (drop (at + length n) text)) at (sym first) (count_on n some text at (sym first))

  pub once : None ≡ slice_get (places n (drop (at + length n) text)) 0 → Once at ≡ kind_of (places n text)
  once e = sym (kind_on ∙ ap (by_next at) (sym e))

  pub often : (m : ℕ) → Some m ≡ slice_get (places n (drop (at + length n) text)) 0 → Often ≡ kind_of (places n text)
  often m e = sym (kind_on ∙ ap (by_next at) (sym e))

-- an empty needle stands nowhere
pub empty_nowhere : (n text : List ℕ) → length n ≡ 0 → places n text ≡ []
empty_nowhere [] text e = go 0 text
  where
    go : (i : ℕ) (bs : List ℕ) → spots [] 0 i bs ≡ []
    go i [] = refl
    go i (b ∷ bs) = go (i + 1) bs
empty_nowhere (x ∷ n) text e = absurd (omega arith)
