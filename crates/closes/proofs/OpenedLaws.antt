-- The search for a close up to the first `}`: each inner `${` opens one more.
use Rattle.std.proofs.Common.{◌≡◌, ℕ, zero, suc, ◌+◌, ◌-◌, ◌<◌, ◌≤◌, Bool, true, false, cond, ◌&&◌, eqb, List, [], ◌∷◌, length, get_or, take, drop, Option, Some, sym, refl, ap, ◌∙◌, arith, length-drop}
use Rattle.std.proofs.lemmas.Bool.{eqb-true}
use Rattle.std.proofs.lemmas.Bool.Decides.{nat_tests}
use Rattle.std.proofs.lemmas.List.{at_drop_more}
use Rattle.std.proofs.lemmas.List.Sums.{sum_by-cons}
use Rattle.std.specs.Prelude.{◌==◌}
use Rattle.std.specs.List.{zip}
use Rattle.closes.specs.Braced.{braced, opened}
use Rattle.closes.specs.Fronts.{opens}
use Rattle.closes.specs.Search.{by, ends, found, goes}

-- the test of the code is that of the definition
same_test : (b c : ℕ) (cs : List ℕ) → ◌≡◌ {A = ℕ} (cond (b == 36 && c == 123) 1 0) (cond (opens b (c ∷ cs)) 1 0)
same_test b c cs = grind (arith, nat_tests)

alone : (b : ℕ) → opens b [] ≡ false
alone b = grind (arith, nat_tests)

opened_next : (b c : ℕ) (cs : List ℕ) → opened (b ∷ c ∷ cs) ≡ cond (b == 36 && c == 123) 1 0 + opened (c ∷ cs)
opened_next b c cs = sum_by-cons (λ (p : ℕ × ℕ). cond (p.0 == 36 && p.1 == 123) 1 0) (b, c) (zip (c ∷ cs) cs)

opened_more : (b : ℕ) (bs : List ℕ) → opened (b ∷ bs) ≡ cond (opens b bs) 1 0 + opened bs
opened_more b [] = ap (λ t. cond t 1 0 + 0) (sym (alone b))
opened_more b (c ∷ cs) = opened_next b c cs ∙ ap (λ n. n + opened (c ∷ cs)) (same_test b c cs)

-- The count has come past the pair that ends at byte i.
pub record Counting (bs : List ℕ) (count i : ℕ) : Type 0 where
  pub rest : opened bs ≡ count + opened (drop (i - 1) bs)
  pub few : count < i

pub counting_from : (bs : List ℕ) → Counting bs 0 1
counting_from bs = record { rest = omega arith; few = omega arith }

pub counting_end : {bs : List ℕ} {count i : ℕ} → Counting bs count i → length bs ≤ i → count ≡ opened bs
counting_end {bs} {count} {i} r h = go (drop (i - 1) bs) refl
  where
    go : (l : List ℕ) → drop (i - 1) bs ≡ l → count ≡ opened bs
    go [] e = omega (arith, r.rest, ap opened e)
    go (b ∷ []) e = omega (arith, r.rest, ap opened e)
    go (b ∷ c ∷ l) e = absurd (omega (arith, ap length e, length-drop (i - 1) bs, r.few))

pub counting_on : {bs : List ℕ} {count i more : ℕ} → Counting bs count i → i < length bs → (t : Bool) → (get_or bs (i - 1) 0 == 36 && get_or bs i 0 == 123) ≡ t → more ≡ count + cond t 1 0 → Counting bs more (i + 1)
counting_on {bs} {count} {i} {more} r h t e m =
    let here : opened (drop (i - 1) bs) ≡ opened (get_or bs (i - 1) 0 ∷ drop (i - 1 + 1) bs) = at_drop_more opened bs (i - 1) 0 (omega arith) in
    let back : i - 1 + 1 ≡ i = omega (arith, r.few) in
    let next : drop (i - 1 + 1) bs ≡ get_or bs i 0 ∷ drop (i + 1) bs = ap (λ k. drop k bs) back ∙ at_drop_more (λ l. l) bs i 0 h in
    let steps : opened (get_or bs (i - 1) 0 ∷ drop (i - 1 + 1) bs) ≡ cond t 1 0 + opened (get_or bs i 0 ∷ drop (i + 1) bs)
    = ap (λ l. opened (get_or bs (i - 1) 0 ∷ l)) next ∙ opened_next (get_or bs (i - 1) 0) (get_or bs i 0) (drop (i + 1) bs) ∙ ap (λ c. cond c 1 0 + opened (get_or bs i 0 ∷ drop (i + 1) bs)) e in
    let behind : opened (drop (i + 1 - 1) bs) ≡ opened (get_or bs i 0 ∷ drop (i + 1) bs) = ap (λ k. opened (drop k bs)) (omega arith) ∙ at_drop_more opened bs i 0 h in
    go t m (r.rest ∙ ap (λ n. count + n) (here ∙ steps ∙ ap (λ n. cond t 1 0 + n) (sym behind)))
  where
    go : (t : Bool) → more ≡ count + cond t 1 0 → opened bs ≡ count + (cond t 1 0 + opened (drop (i + 1 - 1) bs)) → Counting bs more (i + 1)
    go true m s = record { rest = omega arith; few = omega (arith, r.few) }
    go false m s = record { rest = omega arith; few = omega (arith, r.few) }

-- before a `}` nothing opens
before_close : (b c : ℕ) (cs : List ℕ) → c ≡ 125 → opens b (c ∷ cs) ≡ false
before_close b c cs h = grind (arith, nat_tests)

-- The first k bytes have no `}`, and byte k is one: the search goes on there, with as many levels more as they open.
pub record Passed (n i k : ℕ) (bs : List ℕ) : Type 0 where
  pub close : found braced n i bs ≡ found braced (n + opened (take k bs)) (i + k) (drop k bs)
  pub few : opened (take k bs) ≤ k

-- the last of the bytes before a `}` opens nothing, whether more is read behind it or not
front : (b k : ℕ) (bs : List ℕ) → k < length bs → get_or bs k 0 ≡ 125 → opens b (take k bs) ≡ opens b bs
front b k [] l h = absurd (omega arith)
front b zero (c ∷ cs) l h = alone b ∙ sym (before_close b c cs h)
front b (suc k) (c ∷ cs) l h = refl

pub passed : (n i k : ℕ) (bs : List ℕ) → k < length bs → get_or bs k 0 ≡ 125 → ((j : ℕ) → j < k → get_or bs j 0 ≡ 125 → ⊥) → Passed n i k bs
passed n i zero bs l h none =
    let more : n ≡ n + 0 = omega arith in
    let on : i ≡ i + 0 = omega arith in
    record { close = ap (λ m. found braced m i bs) more ∙ ap (λ j. found braced (n + 0) j bs) on; few = omega arith }
passed n i (suc k) [] l h none = absurd (omega arith)
passed n i (suc k) (b ∷ bs) l h none =
    let up : (m : ℕ) → Passed m (i + 1) k bs = λ m. passed m (i + 1) k bs (omega arith) h (λ j q. none (suc j) (omega arith)) in
    go (eqb b 125) refl (opens b bs) refl (up (n + 1)) (up n)
  where
    turn : Bool → Bool → Option ℕ
    turn c o = by (cond c (cond (n == 0) (ends (Some i)) (goes (n - 1))) (cond o (goes (n + 1)) (goes n))) (λ o. o) (λ t. found braced t (i + 1) bs)

    on : (m d : ℕ) → m ≡ n + d → d ≤ 1 → found braced n i (b ∷ bs) ≡ found braced m (i + 1) bs → opened (take (suc k) (b ∷ bs)) ≡ d + opened (take k bs) → Passed m (i + 1) k bs → Passed n i (suc k) (b ∷ bs)
    on m d e one so more p =
        let levels : m + opened (take k bs) ≡ n + opened (take (suc k) (b ∷ bs)) = omega arith in
        let place : i + 1 + k ≡ i + suc k = omega arith in
        record {
          close = so ∙ p.close ∙ ap (λ x. found braced x (i + 1 + k) (drop k bs)) levels ∙ ap (λ j. found braced (n + opened (take (suc k) (b ∷ bs))) j (drop k bs)) place;
          few = omega (arith, p.few);
        }

    more : (o : Bool) → opens b bs ≡ o → opened (take (suc k) (b ∷ bs)) ≡ cond o 1 0 + opened (take k bs)
    more o f = opened_more b (take k bs) ∙ ap (λ t. cond t 1 0 + opened (take k bs)) (front b k bs (omega arith) h ∙ f)

    go : (c : Bool) → eqb b 125 ≡ c → (o : Bool) → opens b bs ≡ o → Passed (n + 1) (i + 1) k bs → Passed n (i + 1) k bs → Passed n i (suc k) (b ∷ bs)
    go true e o f deeper level = absurd (none 0 (omega arith) (eqb-true b 125 e))
    go false e true f deeper level = on (n + 1) 1 refl (omega arith) (ap (λ c. turn c (opens b bs)) e ∙ ap (turn false) f) (more true f) deeper
    go false e false f deeper level = on n 0 (omega arith) (omega arith) (ap (λ c. turn c (opens b bs)) e ∙ ap (turn false) f) (more false f) level
