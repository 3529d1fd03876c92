-- What is kept of a list of notings. Assumes nothing.
use Rattle.std.proofs.Common.{◌≡◌, ℕ, Bool, true, false, cond, ◌||◌, List, [], ◌∷◌, ◌++◌, sym, refl, ap, ◌∙◌, subst, ⊎_elim}
use Rattle.std.proofs.lemmas.Slice.Eq.{bytes_eq-Decides}
use Rattle.std.proofs.Math.Bool.{or-false, or_assoc}
use Rattle.std.proofs.lemmas.List.{append_assoc, append-nil}
use Rattle.std.proofs.lemmas.List.Recursion.{or_push}
use Rattle.std.proofs.lemmas.Bool.{and_from, and_parts, both_ways, cond-true, cond-false, false≢true, or_cases, or_from, or_left, or_right}
use Rattle.std.specs.Str.{bytes_eq}
use Rattle.pairs.specs.Lookups.{lookup}
use Rattle.pairs.specs.Once.{Distinct, EachOnce}
use Rattle.pairs.specs.Pairs.{Pair, add, add_all, firsts, has, same_pair}
use Rattle.pairs.proofs.News.{news}

pub same_pair_eq : (p q : Pair) → same_pair p q ≡ true → p ≡ q
same_pair_eq p q e =
    let both = and_parts (bytes_eq p.0 q.0) (bytes_eq p.1 q.1) e in
    let a : p.0 ≡ q.0 = (bytes_eq-Decides p.0 q.0).0 both.0 in
    let b : p.1 ≡ q.1 = (bytes_eq-Decides p.1 q.1).0 both.1 in
    λ i. (a i, b i)

pub has_push : (qs : List Pair) (q p : Pair) → has (qs ++ (q ∷ [])) p ≡ (has qs p || same_pair q p)
has_push qs q p = or_push (λ rs. has rs p) (λ r. same_pair r p) refl (λ _ _. refl) qs q

-- what is there already adds nothing
absorbed : (x y : Bool) → (y ≡ true → x ≡ true) → x ≡ (x || y)
absorbed true y h = refl
absorbed false true h = h refl
absorbed false false h = refl

has_held : (qs : List Pair) (q p : Pair) → has qs q ≡ true → has qs p ≡ (has qs p || same_pair q p)
has_held qs q p e = absorbed (has qs p) (same_pair q p) (λ s. ap (has qs) (sym (same_pair_eq q p s)) ∙ e)

pub has_add : (qs : List Pair) (q p : Pair) → has (add qs q) p ≡ (has qs p || same_pair q p)
has_add qs q p = go (has qs q) refl
  where
    go : (b : Bool) → has qs q ≡ b → has (cond b qs (qs ++ (q ∷ []))) p ≡ (has qs p || same_pair q p)
    go true e = has_held qs q p e
    go false e = has_push qs q p

has_add_all : (seen ps : List Pair) (p : Pair) → has (add_all seen ps) p ≡ (has seen p || has ps p)
has_add_all seen [] p = sym (or-false (has seen p))
has_add_all seen (q ∷ ps) p =
    has_add_all (add seen q) ps p ∙ (ap (λ b. b || has ps p) (has_add seen q p) ∙ or_assoc (has seen p) (same_pair q p) (has ps p))

-- the pairs of the list, no more and no fewer
pub has_firsts : (ps : List Pair) (p : Pair) → has (firsts ps) p ≡ has ps p
has_firsts ps p = has_add_all [] ps p

add_all_push : (seen ps : List Pair) (p : Pair) → add_all seen (ps ++ (p ∷ [])) ≡ add (add_all seen ps) p
add_all_push seen [] p = refl
add_all_push seen (q ∷ ps) p = add_all_push (add seen q) ps p

-- one noting more
pub firsts_push : (ps : List Pair) (p : Pair) → firsts (ps ++ (p ∷ [])) ≡ add (firsts ps) p
firsts_push ps p = add_all_push [] ps p

module _ (seen : List Pair) (p : Pair) where
  -- the list kept so far need only hold what was seen
  seen_more : (kept : List Pair) → ((q : Pair) → has kept q ≡ has seen q) → (q : Pair) → has (add kept p) q ≡ has (seen ++ (p ∷ [])) q
  seen_more kept h q = has_add kept p q ∙ ap (λ b. b || same_pair p q) (h q) ∙ sym (has_push seen p q)

add_all_news : (seen kept ps : List Pair) → ((q : Pair) → has kept q ≡ has seen q) → add_all kept ps ≡ kept ++ news seen ps
add_all_news seen kept [] h = sym (append-nil kept)
add_all_news seen kept (p ∷ ps) h = add_all_news (seen ++ (p ∷ [])) (add kept p) ps (seen_more seen p kept h) ∙ go (has seen p) (h p)
  where
    rest : List Pair
    rest = news (seen ++ (p ∷ [])) ps

    go : (b : Bool) → has kept p ≡ b → cond (has kept p) kept (kept ++ (p ∷ [])) ++ rest ≡ kept ++ cond b rest (p ∷ rest)
    go true t = ap (λ k. k ++ rest) (cond-true _ _ _ t)
    go false t = ap (λ k. k ++ rest) (cond-false _ _ _ t) ∙ append_assoc kept (p ∷ []) rest

-- in one walk along the list
pub firsts_news : (ps : List Pair) → firsts ps ≡ news [] ps
firsts_news ps = add_all_news [] [] ps (λ q. refl)

same_self : (p : Pair) → same_pair p p ≡ true
same_self p = and_from _ _ ((bytes_eq-Decides p.0 p.0).1 refl) ((bytes_eq-Decides p.1 p.1).1 refl)

-- what was seen is not new
seen_not_new : (seen ps : List Pair) (p : Pair) → has seen p ≡ true → has (news seen ps) p ≡ false
seen_not_new seen [] p e = refl
seen_not_new seen (q ∷ ps) p e = go (seen_not_new (seen ++ (q ∷ [])) ps p (has_push seen q p ∙ or_left _ _ e)) (has seen q) refl (same_pair q p) refl
  where
    rest : List Pair
    rest = news (seen ++ (q ∷ [])) ps

    go : has rest p ≡ false → (b : Bool) → has seen q ≡ b → (c : Bool) → same_pair q p ≡ c → has (cond b rest (q ∷ rest)) p ≡ false
    go more true t c u = more
    go more false t true u = absurd (both_ways (has seen q) t (ap (has seen) (same_pair_eq q p u) ∙ e))
    go more false t false u = or_from _ _ u more

distinct_news : (seen ps : List Pair) → Distinct (news seen ps)
distinct_news seen [] = tt
distinct_news seen (p ∷ ps) = go (distinct_news (seen ++ (p ∷ [])) ps) (has seen p)
  where
    rest : List Pair
    rest = news (seen ++ (p ∷ [])) ps

    go : Distinct rest → (b : Bool) → Distinct (cond b rest (p ∷ rest))
    go more true = more
    go more false = (seen_not_new (seen ++ (p ∷ [])) ps p (has_push seen p p ∙ or_right _ _ (same_self p)), more)

pub each_once : EachOnce
each_once ps = (subst Distinct (sym (firsts_news ps)) (distinct_news [] ps), has_firsts ps)

-- a look-up that finds nothing in what was seen
lookup_news : (seen ps : List Pair) (x : List ℕ) → ((p : Pair) → has seen p ≡ true → bytes_eq p.1 x ≡ false) → lookup (news seen ps) x ≡ lookup ps x
lookup_news seen [] x h = refl
lookup_news seen (p ∷ ps) x h = go (λ e. lookup_news (seen ++ (p ∷ [])) ps x (seen_on e)) (bytes_eq p.1 x) refl (has seen p) refl
  where
    rest : List Pair
    rest = news (seen ++ (p ∷ [])) ps

    seen_on : bytes_eq p.1 x ≡ false → (q : Pair) → has (seen ++ (p ∷ [])) q ≡ true → bytes_eq q.1 x ≡ false
    seen_on e q g = ⊎_elim (h q) (λ (s : same_pair p q ≡ true). ap (λ r. bytes_eq r.1 x) (sym (same_pair_eq p q s)) ∙ e) (or_cases _ _ (sym (has_push seen p q) ∙ g))

    go : (bytes_eq p.1 x ≡ false → lookup rest x ≡ lookup ps x) → (b : Bool) → bytes_eq p.1 x ≡ b → (c : Bool) → has seen p ≡ c → lookup (cond c rest (p ∷ rest)) x ≡ lookup (p ∷ ps) x
    go more true e true t = absurd (both_ways (bytes_eq p.1 x) (h p t) e)
    go more true e false t = cond-true _ _ _ e ∙ sym (cond-true _ _ _ e)
    go more false e true t = more e ∙ sym (cond-false _ _ _ e)
    go more false e false t = cond-false _ _ _ e ∙ more e ∙ sym (cond-false _ _ _ e)

-- repeats do not matter to it
pub lookup_firsts : (ps : List Pair) (x : List ℕ) → lookup (firsts ps) x ≡ lookup ps x
lookup_firsts ps x = ap (λ qs. lookup qs x) (firsts_news ps) ∙ lookup_news [] ps x (λ p e. absurd (false≢true e))
