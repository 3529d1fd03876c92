-- Pairs taken length by length, from the longest down, come in the order of the stable sort. Assumes nothing.
use Rattle.std.proofs.Common.{◌≡◌, ℕ, zero, suc, ◌-◌, ◌<◌, ◌≤◌, max, Bool, true, false, cond, eqb, leb, ◌⊎◌, List, [], ◌∷◌, ◌++◌, sym, refl, ap, ◌∙◌, subst, inl, inr, ⊎_elim, arith}
use Rattle.std.proofs.lemmas.Bool.{cases_lt, cond-false, cond-true, eq-eqb, eqb-false, eqb-true, le-leb, leb-true, lt-leb, ne_eqb}
use Rattle.pairs.specs.Pairs.{Pair, firsts, has}
use Rattle.pairs.specs.Sizes.{longest, of_size, size, size_within}
use Rattle.pairs.proofs.FirstsLaws.{firsts_news}
use Rattle.pairs.proofs.News.{news}
use Rattle.redaction.specs.Orders.{filled, insert, longest_first, sorted}

-- the pairs of n bytes and fewer, length by length, down to 1
abbrev pub down_from : ℕ → List Pair → List Pair
down_from zero ps = []
down_from (suc n) ps = of_size (suc n) ps ++ down_from n ps

-- no result is longer than n
abbrev Low : ℕ → List Pair → Type 0
Low n [] = Unit {0}
Low n (p ∷ ps) = (size p ≤ n) × Low n ps

taken : (n : ℕ) (p : Pair) (ps : List Pair) → size p ≡ n → of_size n (p ∷ ps) ≡ p ∷ of_size n ps
taken n p ps e = cond-true _ _ _ (eq-eqb (size p) n e)

passed : (n : ℕ) (p : Pair) (ps : List Pair) → (size p ≡ n → ⊥) → of_size n (p ∷ ps) ≡ of_size n ps
passed n p ps ne = cond-false _ _ _ (ne_eqb (size p) n ne)

-- a pair that is empty or too long is not taken
down_passed : (n : ℕ) (p : Pair) (ps : List Pair) → (size p ≡ 0) ⊎ (n < size p) → down_from n (p ∷ ps) ≡ down_from n ps
down_passed zero p ps h = refl
down_passed (suc n) p ps h =
    let other : size p ≡ suc n → ⊥ = λ e. ⊎_elim (λ (z : size p ≡ 0). omega arith) (λ (l : suc n < size p). omega arith) h in
    let below : (size p ≡ 0) ⊎ (n < size p) = ⊎_elim (λ (z : size p ≡ 0). inl z) (λ (l : suc n < size p). inr (omega arith)) h in
    ap (λ q. q ++ down_from n (p ∷ ps)) (passed (suc n) p ps other) ∙ ap (λ q. of_size (suc n) ps ++ q) (down_passed n p ps below)

-- p goes before what is not longer
front_level : (k : ℕ) (p : Pair) (qs ys : List Pair) → k ≤ size p → insert p ys ≡ p ∷ ys → insert p (of_size k qs ++ ys) ≡ p ∷ (of_size k qs ++ ys)
front_level k p [] ys h e = e
front_level k p (q ∷ qs) ys h e = go (front_level k p qs ys h e) (eqb (size q) k) refl
  where
    go : insert p (of_size k qs ++ ys) ≡ p ∷ (of_size k qs ++ ys) → (b : Bool) → eqb (size q) k ≡ b → insert p (cond b (q ∷ of_size k qs) (of_size k qs) ++ ys) ≡ p ∷ (cond b (q ∷ of_size k qs) (of_size k qs) ++ ys)
    go more true t = let l : size q ≤ size p = omega (arith, eqb-true (size q) k t) in cond-true _ _ _ (le-leb (size q) (size p) l)
    go more false t = more

front : (n : ℕ) (p : Pair) (ps : List Pair) → n ≤ size p → insert p (down_from n ps) ≡ p ∷ down_from n ps
front zero p ps h = refl
front (suc n) p ps h = front_level (suc n) p ps (down_from n ps) h (front n p ps (omega arith))

-- p goes behind what is longer
past_level : (k : ℕ) (p : Pair) (qs ys : List Pair) → size p < k → insert p (of_size k qs ++ ys) ≡ of_size k qs ++ insert p ys
past_level k p [] ys h = refl
past_level k p (q ∷ qs) ys h = go (past_level k p qs ys h) (eqb (size q) k) refl
  where
    go : insert p (of_size k qs ++ ys) ≡ of_size k qs ++ insert p ys → (b : Bool) → eqb (size q) k ≡ b → insert p (cond b (q ∷ of_size k qs) (of_size k qs) ++ ys) ≡ cond b (q ∷ of_size k qs) (of_size k qs) ++ insert p ys
    go more true t =
        let l : size p < size q = omega (arith, eqb-true (size q) k t) in
        cond-false _ _ _ (lt-leb (size q) (size p) l) ∙ ap (λ r. q ∷ r) more
    go more false t = more

down_insert : (n : ℕ) (p : Pair) (ps : List Pair) → 0 < size p → size p ≤ n → down_from n (p ∷ ps) ≡ insert p (down_from n ps)
down_insert zero p ps some h = absurd (omega arith)
down_insert (suc n) p ps some h =
    ⊎_elim
    (λ (l : size p < suc n).
    ap (λ q. q ++ down_from n (p ∷ ps)) (passed (suc n) p ps (λ e. omega arith))
    ∙ ap (λ q. of_size (suc n) ps ++ q) (down_insert n p ps some (omega arith))
    ∙ sym (past_level (suc n) p ps (down_from n ps) l))
    (λ (l : suc n ≤ size p).
    ap (λ q. q ++ down_from n (p ∷ ps)) (taken (suc n) p ps (omega arith))
    ∙ ap (λ q. p ∷ (of_size (suc n) ps ++ q)) (down_passed n p ps (inr (omega arith)))
    ∙ sym (front (suc n) p ps (omega arith)))
    (cases_lt (size p) (suc n))

down_none : (n : ℕ) → down_from n [] ≡ []
down_none zero = refl
down_none (suc n) = down_none n

-- going down length by length is the stable sort
down_sorted : (n : ℕ) (ps : List Pair) → Low n ps → down_from n ps ≡ longest_first ps
down_sorted n [] low = down_none n
down_sorted n (p ∷ ps) low = go (down_sorted n ps low.1) (eqb (size p) 0) refl
  where
    go : down_from n ps ≡ sorted (filled ps) → (b : Bool) → eqb (size p) 0 ≡ b → down_from n (p ∷ ps) ≡ sorted (cond b (filled ps) (p ∷ filled ps))
    go more true t = down_passed n p ps (inl (eqb-true (size p) 0 t)) ∙ more
    go more false t =
        let some : 0 < size p = ⊎_elim (λ (a : 0 < size p). a) (λ (a : size p ≤ 0). absurd (eqb-false (size p) 0 t (omega arith))) (cases_lt 0 (size p)) in
        down_insert n p ps some low.0 ∙ ap (insert p) more

-- a length that no pair has, no new pair has
of_size_news : (m : ℕ) (seen ps : List Pair) → of_size m ps ≡ [] → of_size m (news seen ps) ≡ []
of_size_news m seen [] e = refl
of_size_news m seen (p ∷ ps) e = go (λ f. of_size_news m (seen ++ (p ∷ [])) ps f) (eqb (size p) m) refl e (has seen p)
  where
    rest : List Pair
    rest = news (seen ++ (p ∷ [])) ps

    go : (of_size m ps ≡ [] → of_size m rest ≡ []) → (b : Bool) → eqb (size p) m ≡ b → cond b (p ∷ of_size m ps) (of_size m ps) ≡ [] → (h : Bool) → of_size m (cond h rest (p ∷ rest)) ≡ []
    go more true t f h = let y : ◌≡◌ {A = ℕ} 0 1 = cc in absurd (omega arith)
    go more false t f true = more f
    go more false t f false = cond-false _ _ _ t ∙ more f

-- no result has a length above that and up to n
size_gap : (n : ℕ) (ps : List Pair) (m : ℕ) → size_within n ps < m → m ≤ n → of_size m ps ≡ []
size_gap n [] m h l = refl
size_gap n (p ∷ ps) m h l = go (λ f. size_gap n ps m f l) (cases_lt n (size p))
  where
    go : (size_within n ps < m → of_size m ps ≡ []) → (n < size p) ⊎ (size p ≤ n) → of_size m (p ∷ ps) ≡ []
    go more (inr a) =
        let s = cond-true (leb (size p) n) (max (size p) (size_within n ps)) (size_within n ps) (le-leb (size p) n a) in
        passed m p ps (λ e. omega arith) ∙ more (omega arith)
    go more (inl a) =
        let s = cond-false (leb (size p) n) (max (size p) (size_within n ps)) (size_within n ps) (lt-leb (size p) n a) in
        passed m p ps (λ e. omega arith) ∙ more (omega arith)

pub size_low : (n : ℕ) (ps : List Pair) → size_within n ps ≤ n
size_low n [] = omega arith
size_low n (p ∷ ps) = go (size_low n ps) (leb (size p) n) refl
  where
    go : size_within n ps ≤ n → (b : Bool) → leb (size p) n ≡ b → cond b (max (size p) (size_within n ps)) (size_within n ps) ≤ n
    go more true t = omega (arith, leb-true (size p) n t)
    go more false t = more

-- lengths that do not occur may be passed over
down_gap : (n k : ℕ) (ps : List Pair) → k ≤ n → ((m : ℕ) → k < m → m ≤ n → of_size m ps ≡ []) → down_from n ps ≡ down_from k ps
down_gap zero k ps h gap = let e : 0 ≡ k = omega arith in ap (λ j. down_from j ps) e
down_gap (suc n) k ps h gap = go (cases_lt k (suc n)) (λ l. down_gap n k ps l (λ m a c. gap m a (omega arith)))
  where
    go : (k < suc n) ⊎ (suc n ≤ k) → (k ≤ n → down_from n ps ≡ down_from k ps) → down_from (suc n) ps ≡ down_from k ps
    go (inr e) more = let same : suc n ≡ k = omega arith in ap (λ j. down_from j ps) same
    go (inl l) more = ap (λ q. q ++ down_from n ps) (gap (suc n) l (omega arith)) ∙ more (omega arith)

-- the next length to go on from
pub down_next : (n : ℕ) (ps : List Pair) → down_from n (firsts ps) ≡ down_from (size_within n ps) (firsts ps)
down_next n ps = down_gap n (size_within n ps) (firsts ps) (size_low n ps) (λ m a c. ap (of_size m) (firsts_news ps) ∙ of_size_news m [] ps (size_gap n ps m a c))

low_longest : (n : ℕ) (ps : List Pair) → longest ps ≤ n → Low n ps
low_longest n [] h = tt
low_longest n (p ∷ ps) h = (omega arith, low_longest n ps (omega arith))

low_news : (n : ℕ) (seen ps : List Pair) → Low n ps → Low n (news seen ps)
low_news n seen [] low = tt
low_news n seen (p ∷ ps) low = go (has seen p) (low_news n (seen ++ (p ∷ [])) ps low.1)
  where
    rest : List Pair
    rest = news (seen ++ (p ∷ [])) ps

    go : (b : Bool) → Low n rest → Low n (cond b rest (p ∷ rest))
    go true more = more
    go false more = (low.0, more)

-- the length to start from
pub down_start : (ps : List Pair) → down_from (longest ps) (firsts ps) ≡ longest_first (firsts ps)
down_start ps = down_sorted (longest ps) (firsts ps) (subst (Low (longest ps)) (sym (firsts_news ps)) (low_news (longest ps) [] ps (low_longest (longest ps) ps (omega arith))))

pub down_step : (k : ℕ) (ps : List Pair) → 0 < k → down_from k ps ≡ of_size k ps ++ down_from (k - 1) ps
down_step zero ps h = absurd (omega arith)
down_step (suc k) ps h = let e : suc k - 1 ≡ k = omega arith in ap (λ j. of_size (suc k) ps ++ down_from j ps) (sym e)
