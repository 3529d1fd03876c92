-- The pair of a replaced text is noted, or the call is refused.
use Rattle.std.proofs.Common.{◌≡◌, ℕ, ◌-◌, Bool, true, false, cond, List, [], length, take, replicate, Ok, Err, Result, sym, ap, ◌∙◌, arith}
use Rattle.std.proofs.lemmas.List.{take_at}
use Rattle.answers.specs.Told.{Told, unchanged, replaced, refused, answer_of, area_of, fronted, text_of}
use Rattle.answers.specs.declared.Answer.{Answer}
use Rattle.answers.specs.declared.Answer.TheVariants.{Replaced}
use Rattle.scopes.specs.Notes.{PairMemory, note_answer, note_memory, noted, unplaced}
use Rattle.scopes.specs.declared.note.PairsFull.{PairsFull}
use Rattle.scopes.proofs.PlacedLaws.{on_full, on_noted}
use Rattle.session.specs.Calls.{Noted, heard, if_placed}
use Rattle.session.specs.Shown.{denied}
use Rattle.session.specs.declared.error.CallError.{CallError}
use Rattle.session.specs.declared.error.CallError.TheVariants.{PairsFull as Full}

abbrev Reply : Type 0
Reply = Result (Unit {0}) PairsFull

-- the text that is read at the front of the area is the one told
read_told : (n k : ℕ) (r text area : List ℕ) → k ≡ length r → area ≡ fronted n r → text_of (Replaced k) text area ≡ r
read_told n k r text area is lies = ap (take k) lies ∙ take_at r (replicate (n - length r) 0) k (sym is)

module _ (y : PairMemory) (text : List ℕ) (n k : ℕ) (a : Answer) (is : a ≡ Replaced k) (area res : List ℕ) (reads : res ≡ text_of a text area) where
  -- res is the text told
  told_is : (r : List ℕ) → ◌≡◌ {A = Result Answer CallError} (Ok a) (Ok (Replaced (length r))) → area ≡ fronted n r → res ≡ r
  told_is r e lies =
      let len : k ≡ length r = cc in
      reads ∙ ap (λ b. text_of b text area) is ∙ read_told n k r text area len lies

  abbrev Test : List ℕ → Bool
  Test r = unplaced y (text, r)

  pub placed : (u : Unit {0}) (z : PairMemory) → ◌≡◌ {A = Reply} (Ok u) (note_answer y (text, res)) → z ≡ note_memory y (text, res)
      → (t : Told CallError) → Ok a ≡ answer_of t → area ≡ area_of n t → Noted y text t n (Ok a) area z
  placed u z ok left unchanged e lies = let c : ◌≡◌ {A = ℕ} 0 1 = cc in absurd (omega arith)
  placed u z ok left (refused x message) e lies = let c : ◌≡◌ {A = ℕ} 0 1 = cc in absurd (omega arith)
  placed u z ok left (replaced r) e lies =
      let same = told_is r e lies in
      let both = on_noted y (text, res) u ok in
      let free : Test r ≡ false = ap Test (sym same) ∙ both.0 in
      let t : if_placed Test (replaced r) ≡ replaced r = ap (λ b. cond b (refused Full []) (replaced r)) free in
      record {
        answer = e ∙ sym (ap answer_of t);
        area = lies ∙ sym (ap (area_of n) t);
        pairs = left ∙ both.1 ∙ ap (λ x. noted y (text, x)) same ∙ sym (ap (heard y text) t);
      }

  pub unplaced_refused : (f : PairsFull) (z : PairMemory) (w : Result Answer CallError) (left : List ℕ) → ◌≡◌ {A = Reply} (Err f) (note_answer y (text, res)) → z ≡ note_memory y (text, res)
      → w ≡ answer_of (denied Full) → left ≡ area_of n (denied Full)
      → (t : Told CallError) → Ok a ≡ answer_of t → area ≡ area_of n t → Noted y text t n w left z
  unplaced_refused f z w left went stays says zeros unchanged e lies = let c : ◌≡◌ {A = ℕ} 0 1 = cc in absurd (omega arith)
  unplaced_refused f z w left went stays says zeros (refused x message) e lies = let c : ◌≡◌ {A = ℕ} 0 1 = cc in absurd (omega arith)
  unplaced_refused f z w left went stays says zeros (replaced r) e lies =
      let same = told_is r e lies in
      let both = on_full y (text, res) f went in
      let none : Test r ≡ true = ap Test (sym same) ∙ both.0 in
      let t : if_placed Test (replaced r) ≡ denied Full = ap (λ b. cond b (refused Full []) (replaced r)) none in
      record {
        answer = says ∙ sym (ap answer_of t);
        area = zeros ∙ sym (ap (area_of n) t);
        pairs = stays ∙ both.1 ∙ sym (ap (heard y text) t);
      }
