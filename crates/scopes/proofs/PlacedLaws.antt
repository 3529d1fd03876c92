-- A noting by its answer.
use Rattle.std.proofs.Common.{◌≡◌, ℕ, Bool, true, false, cond, not, ◌&&◌, Ok, Err, Result, refl, arith}
use Rattle.pairs.specs.Pairs.{Pair}
use Rattle.scopes.specs.Notes.{PairMemory, appended, full, lacks, note_answer, note_memory, noted, room, unplaced}
use Rattle.scopes.specs.declared.note.PairsFull.{PairsFull}

abbrev Reply : Type 0
Reply = Result (Unit {0}) PairsFull

module _ (y : PairMemory) (p : Pair) where
  -- it is noted
  pub on_noted : (u : Unit {0}) → ◌≡◌ {A = Reply} (Ok u) (note_answer y p) → (unplaced y p ≡ false) × (note_memory y p ≡ noted y p)
  on_noted u e = go (lacks y p) (room y p) e
    where
      go : (l r : Bool) → ◌≡◌ {A = Reply} (Ok u) (cond l (cond r (Ok tt) (Err full)) (Ok tt)) → ((l && not r) ≡ false) × (cond l (cond r (appended y p) y) y ≡ cond l (appended y p) y)
      go true true e = (refl, refl)
      go true false e = let z : ◌≡◌ {A = ℕ} 0 1 = cc in absurd (omega arith)
      go false r e = (refl, refl)

  -- there is no room for it
  pub on_full : (f : PairsFull) → ◌≡◌ {A = Reply} (Err f) (note_answer y p) → (unplaced y p ≡ true) × (note_memory y p ≡ y)
  on_full f e = go (lacks y p) (room y p) e
    where
      go : (l r : Bool) → ◌≡◌ {A = Reply} (Err f) (cond l (cond r (Ok tt) (Err full)) (Ok tt)) → ((l && not r) ≡ true) × (cond l (cond r (appended y p) y) y ≡ y)
      go true true e = let z : ◌≡◌ {A = ℕ} 0 1 = cc in absurd (omega arith)
      go true false e = (refl, refl)
      go false r e = let z : ◌≡◌ {A = ℕ} 0 1 = cc in absurd (omega arith)
