-- What holds of every list of charges.
use Rattle.std.specs.Prelude.{◌≡◌, ℕ, ◌^◌, ◌<◌, ◌≤◌, List, ◌++◌, sum}
use Rattle.budget.specs.Charges.{charged, charges, taken, over, later}

pub record ChargeLaws : Type 0 where
  -- charges join: the second list starts from the total of the first
  pub join : (limit t : ℕ) (ks js : List ℕ) → charges limit t (ks ++ js) ≡ later (charges limit t ks) limit js
  -- a taken total is the sum of the start and the charges, held at 2^64 - 1
  pub total : (limit t u : ℕ) (ks : List ℕ) → t < 2 ^ 64 → charges limit t ks ≡ taken u → u ≡ charged t (sum ks)
  -- from a start within the limit, charges are all taken exactly where this sum is within it
  pub within : (limit t u : ℕ) (ks : List ℕ) → t ≤ limit → charges limit t ks ≡ taken u → u ≤ limit
  pub fits : (limit t : ℕ) (ks : List ℕ) → t < 2 ^ 64 → t ≤ limit → charged t (sum ks) ≤ limit → charges limit t ks ≡ taken (charged t (sum ks))
  -- a refused total is above the limit, and no more than the sum of all
  pub above : (limit t u : ℕ) (ks : List ℕ) → charges limit t ks ≡ over u → (limit < u) × (u ≤ charged t (sum ks))
  -- a higher limit changes no taken total, and no refused one that is above it too
  pub raise : (limit more t u : ℕ) (ks : List ℕ) → limit ≤ more → charges limit t ks ≡ taken u → charges more t ks ≡ taken u
  pub refuse : (limit more t u : ℕ) (ks : List ℕ) → limit ≤ more → more < u → charges limit t ks ≡ over u → charges more t ks ≡ over u
