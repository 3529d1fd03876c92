-- The search for the close in an operator's text as far as it has come, and the search as a whole.
use Rattle.std.proofs.Common.{◌≡◌, ℕ, ◌+◌, ◌-◌, ◌<◌, ◌≤◌, Bool, true, false, List, [], ◌∷◌, length, get_or, take, drop, Some, None, Ok, Option, Result, sym, ap, ◌∙◌, arith}
use Rattle.std.proofs.lemmas.List.{take_rest}
use Rattle.std.proofs.lemmas.Bool.{cond-true}
use Rattle.std.proofs.lemmas.Bool.Decides.{nat_tests}
use Rattle.budget.specs.declared.WorkBudget.{WorkBudget}
use Rattle.budget.specs.declared.WorkFault.{WorkFault}
use Rattle.budget.specs.Charges.{paid, spent}
use Rattle.budget.proofs.Calls.{Paid, Went, went, left_all, left_at, left_more, left_last}
use Rattle.names.specs.declared.PropertySyntax.TheVariants.{DockerCompose}
use Rattle.names.specs.Reads.{name_at, name_looks}
use Rattle.closes.specs.Compose.{Levels, close_after, close_behind, compose_close, compose_looks, in_text, looks_after, looks_behind, one_level, seen, text_close, text_looks, text_turn}
use Rattle.closes.specs.Fronts.{begins, op_found}
use Rattle.closes.specs.Search.{ends, goes}
use Rattle.closes.proofs.SearchLaws.{Scan, scan_goes}

abbrev pub levels : ℕ → Bool → Option ℕ → Levels
levels n skip last = record { depth = n; skip = skip; last = last }

-- The search has come to byte i of the text that starts at place p.
pub record Scanning (p : ℕ) (bs : List ℕ) (w₀ w : WorkBudget) (n : ℕ) (skip : Bool) (last : Option ℕ) (i : ℕ) : Type 0 where
  pub scan : Scan in_text one_level p bs w₀ w (levels n skip last) i
  pub low : 0 < n
  pub high : n ≤ i + 1

-- The byte b at place i has the search go on so.
pub record Goes (n : ℕ) (skip : Bool) (last : Option ℕ) (i b m : ℕ) (next : Bool) (o : Option ℕ) : Type 0 where
  pub so : text_turn (levels n skip last) i b [] ≡ goes (levels m next o)
  pub low : 0 < m
  pub high : m ≤ n + 1

pub scanning_on : {p : ℕ} {bs : List ℕ} {w₀ w w' : WorkBudget} {n m : ℕ} {skip next : Bool} {last o : Option ℕ} {i : ℕ} → Scanning p bs w₀ w n skip last i
    → i < length bs → Went w w' (1 ∷ []) → Goes n skip last (p + i) (get_or bs i 0) m next o → Scanning p bs w₀ w' m next o (i + 1)
scanning_on r h p e = record { scan = scan_goes r.scan h p e.so; low = e.low; high = omega (arith, r.high, e.high) }

-- the latest `}` after the byte b at place i
pub record Seen (last : Option ℕ) (i b : ℕ) (o : Option ℕ) : Type 0 where
  pub is : o ≡ seen last i b

pub seen_here : {last : Option ℕ} {i b : ℕ} {o : Option ℕ} → b ≡ 125 → o ≡ Some i → Seen last i b o
seen_here h e = record { is = grind (arith, nat_tests) }

pub seen_before : {last : Option ℕ} {i b : ℕ} {o : Option ℕ} → (b ≡ 125 → ⊥) → o ≡ last → Seen last i b o
seen_before h e = record { is = grind (arith, nat_tests) }

-- what a byte does, by the tests of the code
pub at_newline : (n : ℕ) (skip : Bool) (last : Option ℕ) (i b : ℕ) → b ≡ 10 → text_turn (levels n skip last) i b [] ≡ ends last
at_newline n skip last i b h = grind (arith, nat_tests)

pub at_close : (n : ℕ) (skip : Bool) (last : Option ℕ) (i b : ℕ) → b ≡ 125 → skip ≡ false → 0 < n → n - 1 ≡ 0 → text_turn (levels n skip last) i b [] ≡ ends (Some i)
at_close n skip last i b h s p z = grind (arith, nat_tests)

module _ {n : ℕ} {skip : Bool} {last : Option ℕ} {i b : ℕ} {o : Option ℕ} (p : 0 < n) (e : Seen last i b o) where
  pub skipped : (b ≡ 10 → ⊥) → skip ≡ true → Goes n skip last i b n false o
  skipped h s = let f = e.is in record { so = grind (arith, nat_tests); low = p; high = omega arith }

  pub less : {m : ℕ} {next : Bool} → b ≡ 125 → skip ≡ false → (n - 1 ≡ 0 → ⊥) → m ≡ n - 1 → next ≡ skip → Goes n skip last i b m next o
  less h s z x y = let f = e.is in record { so = grind (arith, nat_tests); low = omega arith; high = omega arith }

  pub more : {m : ℕ} {next : Bool} → b ≡ 123 → skip ≡ false → m ≡ n + 1 → next ≡ true → Goes n skip last i b m next o
  more h s x y = let f = e.is in record { so = grind (arith, nat_tests); low = omega arith; high = omega arith }

  pub other : {m : ℕ} {next : Bool} → (b ≡ 10 → ⊥) → (b ≡ 125 → ⊥) → (b ≡ 123 → ⊥) → skip ≡ false → m ≡ n → next ≡ skip → Goes n skip last i b m next o
  other h u v s x y = let f = e.is in record { so = grind (arith, nat_tests); low = omega arith; high = omega arith }

-- a name read, then what follows it
pub composed : {w w₁ w₂ : WorkBudget} {o : Option (List ℕ × List ℕ)} {r : Result (Option ℕ) WorkFault} (bs name rest js : List ℕ) (y : Option ℕ)
    → w₁ ≡ spent w (name_looks DockerCompose bs) → Ok o ≡ paid w (name_looks DockerCompose bs) (name_at DockerCompose bs) → o ≡ Some (name, rest)
    → (js ≡ looks_behind (length name) rest) × (y ≡ close_behind (length name) rest)
    → r ≡ paid w₁ js y → w₂ ≡ spent w₁ js → Paid w w₂ (compose_looks bs) (compose_close bs) r
composed {w} {w₁} bs name rest js y work says some c e h =
    let p = went w w₁ (name_looks DockerCompose bs) work (name_at DockerCompose bs) says in
    let left = left_more (looks_after (name_at DockerCompose bs)) (left_all w (compose_looks bs)) p.0 in
    let n = sym some ∙ p.1 in
    left_last js (compose_close bs) (left_at left (sym (c.0 ∙ ap looks_after n))) (e ∙ ap (paid w₁ js) (c.1 ∙ ap close_after n)) h

-- what follows it, by the tests of the code
pub at_brace : (n : ℕ) (rest : List ℕ) → true ≡ begins (125 ∷ []) rest → ([] ≡ looks_behind n rest) × (Some n ≡ close_behind n rest)
at_brace n rest t = (sym (cond-true _ _ _ (sym t)), sym (cond-true _ _ _ (sym t)))

module _ (n : ℕ) (rest : List ℕ) (f : false ≡ begins (125 ∷ []) rest) where
  pub no_operator : None ≡ op_found rest → ([] ≡ looks_behind n rest) × (None ≡ close_behind n rest)
  no_operator e = (grind (arith, nat_tests), grind (arith, nat_tests))

  pub at_operator : {op : ℕ} → Some op ≡ op_found rest → (text_looks (n + op) (take (length rest - op) (drop op rest)) ≡ looks_behind n rest)
      × (text_close (n + op) (take (length rest - op) (drop op rest)) ≡ close_behind n rest)
  at_operator {op} e = let whole = take_rest rest op in (grind (arith, nat_tests), grind (arith, nat_tests))
