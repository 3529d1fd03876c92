-- Selected text: its events by how it is completed, and the values of properties.
use Rattle.std.proofs.Common.{◌≡◌, ℕ, suc, ◌-◌, Bool, true, false, ◌||◌, ltb, List, [], ◌∷◌, length, Some, None, Option, sym, ap, arith}
use Rattle.std.specs.Option.{option_map}
use Rattle.std.proofs.lemmas.Bool.{lt-ltb}
use Rattle.names.specs.declared.PropertySyntax.{PropertySyntax}
use Rattle.source.specs.Shapes.{bytes_of, empty, shape, unset}
use Rattle.items.specs.declared.action.FrameCompletion.{FrameCompletion}
use Rattle.items.specs.declared.action.FrameCompletion.TheVariants.{Root, Append, RequiredButUnset, RequiredButEmpty}
use Rattle.items.specs.Pieces.{is_filled}
use Rattle.items.specs.Items.{expands}
use Rattle.items.specs.Looks.{chosen}
use Rattle.expansion.specs.Events.{Event, acts, charge, explained, message, selected}
use Rattle.walk.specs.Frames.{Proper, open_events, put_events}

module _ (nested : ℕ → List ℕ → List Event → List Event) (d : ℕ) (s : PropertySyntax) (close : ℕ) (w : List ℕ) (es : List Event) where
  -- once it is charged, by whether it has to be walked
  abbrev pub behind : Bool → FrameCompletion → List Event
  behind true completion = open_events nested d (close - length w) w completion es
  behind false completion = put_events d w completion es

  pub acts_chosen : (b : Bool) (completion : FrameCompletion) → Proper completion → b ≡ expands s w → acts nested d s (chosen close w completion) es ≡ charge (length w) ∷ behind b completion
  acts_chosen b Root p e = absurd p
  acts_chosen true Append p e = ap (λ b. charge (length w) ∷ selected nested d s b (close - length w) w es) (sym e)
  acts_chosen false Append p e = ap (λ b. charge (length w) ∷ selected nested d s b (close - length w) w es) (sym e)
  acts_chosen true (RequiredButUnset name) p e = ap (λ b. charge (length w) ∷ explained nested d s b (close - length w) w (message unset name w ∷ [])) (sym e)
  acts_chosen false (RequiredButUnset name) p e = ap (λ b. charge (length w) ∷ explained nested d s b (close - length w) w (message unset name w ∷ [])) (sym e)
  acts_chosen true (RequiredButEmpty name) p e = ap (λ b. charge (length w) ∷ explained nested d s b (close - length w) w (message empty name w ∷ [])) (sym e)
  acts_chosen false (RequiredButEmpty name) p e = ap (λ b. charge (length w) ∷ explained nested d s b (close - length w) w (message empty name w ∷ [])) (sym e)

-- a value shows where its length is not 0
pub shows_by_len : (len : ℕ) (o : Option (List ℕ)) → Some len ≡ option_map length o → ltb 0 len ≡ is_filled (shape o) || false
shows_by_len len None e = let z : ◌≡◌ {A = ℕ} 0 1 = cc in absurd (omega arith)
shows_by_len len (Some []) e = let z : len ≡ 0 = cc in ap (ltb 0) z
shows_by_len len (Some (b ∷ bs)) e = let z : len ≡ suc (length bs) = cc in lt-ltb 0 len (omega arith)

pub len_of_value : (len : ℕ) (o : Option (List ℕ)) → Some len ≡ option_map length o → len ≡ length (bytes_of o)
len_of_value len None e = let z : ◌≡◌ {A = ℕ} 0 1 = cc in absurd (omega arith)
len_of_value len (Some v) e = cc
