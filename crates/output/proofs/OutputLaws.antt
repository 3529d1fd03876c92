-- What an output holds after each step.
use Rattle.std.proofs.Common.{◌≡◌, ℕ, ◌+◌, ◌-◌, ◌^◌, ◌<◌, ◌≤◌, min, List, [], ◌++◌, length, get_or, take, drop, set, Some, None, Option, sym, refl, ap, ◌∙◌, subst, append_assoc, arith, length-append, MutBor, rules}
use borrow.Rule.Slice.PartMut.{put_mid}
use denote.Ref.{at_last}
use Rattle.std.proofs.lemmas.List.{append-nil, places, same_lists, take_all, get_or-set_same, get_or-set_other}
use Rattle.std.proofs.lemmas.Bool.{cases_eq}
use Rattle.source.specs.Laying.{laid}
use Rattle.source.specs.Shapes.{bytes_of}
use Rattle.output.specs.declared.Output.{Output}
use Rattle.output.specs.Outputs.{Grows, Holds, counted, laid_behind, put}

none_of : (n : ℕ) → ◌≡◌ {A = List ℕ} [] (take n [])
none_of n = sym (take_all n [] (omega arith))

-- laying an unset name is laying no bytes
laid_bytes : (m : Option (List ℕ)) (area : List ℕ) → laid m area ≡ laid (Some (bytes_of m)) area
laid_bytes None area = ap (λ l. l ++ area) (none_of (length area))
laid_bytes (Some value) area = refl

-- a byte at its place, or none where the area is full
module _ (area bytes : List ℕ) (at : ℕ) where
  pub byte_laid : (byte : ℕ) → byte ≡ get_or bytes 0 0 → length bytes ≡ 1 → at < length area → set area at byte ≡ laid_behind at bytes area
  byte_laid byte b v l =
      same_lists _ _ (search (rules, places)) (λ k d h. grind (arith, places, get_or-set_same, get_or-set_other, cases_eq k at))

  pub past_laid : length area ≤ at → area ≡ laid_behind at bytes area
  past_laid l = same_lists _ _ (search (rules, places)) (λ k d h. grind (arith, places))

-- bytes, or a value, laid into the part of the area behind the text
bytes_part : (bytes area part : List ℕ) (at len : ℕ) → at ≡ min len (length area) → part ≡ laid (Some bytes) (take (length area - at) (drop at area))
    → put_mid at (length area - at) area part ≡ laid_behind len bytes area
bytes_part bytes area part at len e p = same_lists _ _ (search (rules, places)) (λ k d h. grind (arith, places))

pub part_laid : (m : Option (List ℕ)) (area part : List ℕ) (at len : ℕ) → at ≡ min len (length area) → part ≡ laid m (take (length area - at) (drop at area))
    → put_mid at (length area - at) area part ≡ laid_behind len (bytes_of m) area
part_laid m area part at len e p = bytes_part (bytes_of m) area part at len e (p ∙ laid_bytes m (take (length area - at) (drop at area)))

-- as much of the longer text as fits is at the front
front_on : (bytes area text : List ℕ) (n at : ℕ) → length area ≡ n → n < 2 ^ 63 → at ≡ counted (length text) → take (length text) area ≡ take n text
    → take (length (text ++ bytes)) (laid_behind at bytes area) ≡ take n (text ++ bytes)
front_on bytes area text n at s r a e =
    same_lists _ _ (search (rules, places)) (λ k d h.
    let here : get_or (take (length text) area) k d ≡ get_or (take n text) k d = ap (λ l. get_or l k d) e in
    grind (arith, places))

pub put_is : {area : MutBor (List ℕ)} {now : List ℕ} {len : ℕ} (out : Output) (bytes : List ℕ) (n : ℕ) → area ≡ at_last out.area now
    → now ≡ laid_behind out.len bytes out.area.now → len ≡ counted (out.len + n) → ◌≡◌ {A = Output} (record { area = area; len = len }) (put bytes n out)
put_is out bytes n a b l = cc

pub put_grows : {out after : Output} (bytes : List ℕ) (n : ℕ) → after ≡ put bytes n out → n ≡ length bytes → Grows out bytes after
put_grows {out} bytes n e l lent text h =
    let P : Output → Type 0 = λ o. Holds o lent (text ++ bytes) in
    subst P (sym e) (record {
      same = h.same;
      size = search (rules, places);
      room = h.room;
      len = omega (arith, h.len, length-append text bytes);
      front = front_on bytes out.area.now text (length lent.now) out.len h.size h.room h.len h.front;
    })

-- one growth after another, and none
pub grows_then : {before between after : Output} (xs ys : List ℕ) → Grows before xs between → Grows between ys after → Grows before (xs ++ ys) after
grows_then {after = after} xs ys p q lent text h =
    let P : List ℕ → Type 0 = λ t. Holds after lent t in
    subst P (append_assoc text xs ys) (q lent (text ++ xs) (p lent text h))

pub grows_none : (out : Output) → Grows out [] out
grows_none out lent text h =
    let P : List ℕ → Type 0 = λ t. Holds out lent t in
    subst P (sym (append-nil text)) h
