-- A record's bytes and the record that they are read as, both ways.
use Rattle.std.proofs.Common.{◌≡◌, ◌+◌, ◌-◌, ◌≤◌, ℕ, Bool, true, false, cond, zero, suc, Option, Some, None, Ok, Err, List, [], ◌∷◌, ◌++◌, length, length-append, take, drop, drop-cons, replicate, eqb, refl, sym, ap, ◌∙◌, subst, inl, inr, arith, if◌then◌else◌}
use Rattle.std.specs.List.{list_all, position, position_from}
use Rattle.std.specs.Int.{w32, to_be_bytes, from_be_bytes}
use Rattle.std.specs.Prelude.{nat_lt, not, ◌&&◌}
use Rattle.std.specs.Str.{IsUtf8, is_utf8}
use Rattle.std.proofs.lemmas.Iterator.Adapters.{position_from-zero}
use Rattle.std.proofs.Math.Seq.{take-append_seam, drop-append_seam}
use Rattle.std.proofs.lemmas.Bool.{eqb-true, cases_Bool}
use Rattle.std.proofs.lemmas.List.{take-append-drop, length-drop, length-take, length-replicate, drop-drop}
use Rattle.std.proofs.lemmas.Nat.{from_be_bytes-to_be_bytes_4}
use Rattle.std.proofs.lemmas.Str.{IsUtf8-from_is_utf8, is_utf8-from_IsUtf8}
use Rattle.co_text.specs.Titles.{IsTitle, is_plain}
use Rattle.co_pack.specs.Records.{title_bytes, record_bytes, IsRecord, title_length, title_text, behind_title, is_text, is_set, padded, title_within, with_title, record_of}
use Rattle.co_pack.specs.RecordFaults.{IsReadAs}
use Rattle.co_pack.specs.declared.records.RecordFault.{RecordFault}
use Rattle.co_pack.specs.declared.records.RecordFault.TheVariants.{BadRecord, OutOfMemory}
use Rattle.co_pack.specs.declared.packing.Place.{Place}
use Rattle.co_pack.specs.declared.records.Record.{Record}

-- ---- zeros

zeros_none : (n i : ℕ) → position_from is_set i (replicate n 0) ≡ None
zeros_none zero i = refl
zeros_none (suc n) i = zeros_none n (i + 1)

none_zero : (x : ℕ) (b : Bool) → eqb x 0 ≡ b → (i : ℕ) (o : Option ℕ) → cond (not b) (Some i) o ≡ None → (x ≡ 0) × (o ≡ None)
none_zero x true is i o none = (eqb-true x 0 is, none)
none_zero x false is i o none = absurd cc

none_zeros : (xs : List ℕ) (i : ℕ) → position_from is_set i xs ≡ None → xs ≡ replicate (length xs) 0
none_zeros [] i none = refl
none_zeros (x ∷ xs) i none =
    let both = none_zero x (eqb x 0) refl i (position_from is_set (i + 1) xs) none in
    ap (λ y. y ∷ xs) both.0 ∙ ap (λ ys. 0 ∷ ys) (none_zeros xs (i + 1) both.1)

-- ---- the title

title_parts : (long good : Bool) (text : List ℕ) (at end at' : ℕ) (o : Option ℕ) (title : List ℕ)
    → (if long then Err at else if good then padded text end o else Err at') ≡ Ok title → (long ≡ false) × (good ≡ true) × (o ≡ None) × (text ≡ title)
title_parts true good text at end at' o title is = absurd cc
title_parts false false text at end at' o title is = absurd cc
title_parts false true text at end at' (Some k) title is = absurd cc
title_parts false true text at end at' None title is = (refl, refl, refl, cc)

both_true : (a b : Bool) → (a && b) ≡ true → (a ≡ true) × (b ≡ true)
both_true true b is = (refl, is)
both_true false b is = absurd cc

not_less : (a b : ℕ) → nat_lt a b ≡ false → b ≤ a
not_less a b is = grind (arith, is)

pub not_above : (a b : ℕ) → b ≤ a → nat_lt a b ≡ false
not_above a b within = grind arith

-- a title that was found is one, and its bytes are spelled
pub found_title : (bytes title : List ℕ) → length bytes ≡ 256 → title_within bytes ≡ Ok title → IsTitle title × (drop 16 bytes ≡ title_bytes title)
unfolding title_within title_bytes
found_title bytes title size is =
    let parts = title_parts (nat_lt 200 (title_length bytes)) (is_text (title_text bytes)) (title_text bytes) 16 (17 + title_length bytes) 17 (position is_set (behind_title bytes)) title is in
    let few : title_length bytes ≤ 200 = not_less 200 (title_length bytes) parts.0 in
    let long : length (title_text bytes) ≡ title_length bytes = length-take (title_length bytes) (drop 17 bytes) ∙ omega (arith, length-drop 17 bytes) in
    let text = both_true (is_utf8 (title_text bytes)) (list_all is_plain (title_text bytes)) parts.1 in
    let same : title_text bytes ≡ title = parts.3 in
    let zeros : behind_title bytes ≡ replicate (length (behind_title bytes)) 0 = none_zeros (behind_title bytes) 0 (sym (position_from-zero is_set (behind_title bytes)) ∙ parts.2) in
    let left : length (behind_title bytes) ≡ 239 - length (title_text bytes) = length-drop (title_length bytes) (drop 17 bytes) ∙ omega (arith, length-drop 17 bytes) in
    let behind : behind_title bytes ≡ replicate (239 - length (title_text bytes)) 0 = zeros ∙ ap (λ k. replicate k 0) left in
    let spelled : drop 16 bytes ≡ title_bytes (title_text bytes) = drop-cons bytes 16 0 (omega arith) ∙ ap (λ n. n ∷ drop 17 bytes) (sym long)
    ∙ ap (λ xs. length (title_text bytes) ∷ xs) (sym (take-append-drop (title_length bytes) (drop 17 bytes)) ∙ ap (λ zs. title_text bytes ++ zs) behind) in (
      subst IsTitle same (record { short = omega arith; text = IsUtf8-from_is_utf8 (title_text bytes) text.0; plain = text.1 }),
      subst (λ (t : List ℕ). drop 16 bytes ≡ title_bytes t) same spelled,
    )

title_good : (long good : Bool) (text : List ℕ) (at end at' : ℕ) (o : Option ℕ) → long ≡ false → good ≡ true → o ≡ None
    → (if long then Err at else if good then padded text end o else Err at') ≡ Ok text
title_good long good text at end at' o a b c = rw (a, b, c) refl

title_ends : (long good : Bool) (text title : List ℕ) (at end at' : ℕ) (o : Option ℕ) → long ≡ false → (if good then padded text end None else Err at') ≡ padded title end None
    → (if long then Err at else if good then padded text end o else Err at') ≡ padded title end o
title_ends long true text title at end at' o short is = let same : text ≡ title = cc in rw (short, same) refl
title_ends long false text title at end at' o short is = absurd cc

-- what is behind a title that was found decides
pub title_decided : (bytes text behind title : List ℕ) (o : Option ℕ) → title_length bytes ≤ 200 → text ≡ title_text bytes → behind ≡ behind_title bytes
    → (if is_text text then padded text 0 None else Err 17) ≡ padded title 0 None → position is_set behind ≡ o → title_within bytes ≡ padded title (17 + title_length bytes) o
unfolding title_within
title_decided bytes text behind title o few text_is behind_is found set =
    title_ends (nat_lt 200 (title_length bytes)) (is_text (title_text bytes)) (title_text bytes) title 16 (17 + title_length bytes) 17 (position is_set (behind_title bytes))
    (not_above 200 (title_length bytes) few)
    (subst (λ (t : List ℕ). (if is_text t then padded t (17 + title_length bytes) None else Err 17) ≡ padded title (17 + title_length bytes) None) text_is found)
    ∙ ap (padded title (17 + title_length bytes)) (ap (position is_set) (sym behind_is) ∙ set)

pub not_text : (bytes : List ℕ) → (IsUtf8 bytes → ⊥) → is_text bytes ≡ false
not_text bytes not = elim (cases_Bool (is_utf8 bytes)) [
  | inl is ↦ absurd (not (IsUtf8-from_is_utf8 bytes is))
  | inr is ↦ rw is refl
]

pub text_of_title : (bytes : List ℕ) → IsTitle bytes → is_text bytes ≡ true
text_of_title bytes is = let utf8 : is_utf8 bytes ≡ true = is_utf8-from_IsUtf8 bytes is.text in let plain : list_all is_plain bytes ≡ true = is.plain in rw (utf8, plain) refl

-- ---- a record

-- bytes from their parts
joined : (bytes w rest : List ℕ) (at : ℕ) → w ≡ take 4 (drop at bytes) → drop (at + 4) bytes ≡ rest → drop at bytes ≡ w ++ rest
joined bytes w rest at front back = sym (take-append-drop 4 (drop at bytes)) ∙ ap (λ ys. ys ++ drop 4 (drop at bytes)) (sym front) ∙ ap (λ ys. w ++ ys) (drop-drop 4 at bytes ∙ back)

pub spelled_from : (bytes title : List ℕ) (document : ℕ) (place : Place) → drop 16 bytes ≡ title_bytes title
    → to_be_bytes w32 document ≡ take 4 (drop 0 bytes) → to_be_bytes w32 place.bin ≡ take 4 (drop 4 bytes) → to_be_bytes w32 place.offset ≡ take 4 (drop 8 bytes) → to_be_bytes w32 place.length ≡ take 4 (drop 12 bytes)
    → bytes ≡ record_bytes document place title
unfolding record_bytes
spelled_from bytes title document place rest d b o l =
    joined bytes (to_be_bytes w32 document) _ 0 d (joined bytes (to_be_bytes w32 place.bin) _ 4 b (joined bytes (to_be_bytes w32 place.offset) _ 8 o (joined bytes (to_be_bytes w32 place.length) _ 12 l rest)))

-- a record has 256 bytes
pub length-record_bytes : (document : ℕ) (place : Place) (title : List ℕ) → length title ≤ 200 → length (record_bytes document place title) ≡ 256
unfolding record_bytes title_bytes
length-record_bytes document place title few =
    let tail : length (title ++ replicate (239 - length title) 0) ≡ 239 = length-append title (replicate (239 - length title) 0) ∙ ap (λ n. length title + n) (length-replicate (239 - length title) 0) ∙ omega arith in
    omega arith

-- a spelled title is found
pub spelled_title : (document : ℕ) (place : Place) (title : List ℕ) → IsTitle title → title_within (record_bytes document place title) ≡ Ok title
unfolding title_within title_bytes record_bytes
spelled_title document place title is =
    let zeros : List ℕ = replicate (239 - length title) 0 in
    let text : take (length title) (title ++ replicate (239 - length title) 0) ≡ title = take-append_seam title (replicate (239 - length title) 0) in
    let behind : drop (length title) (title ++ replicate (239 - length title) 0) ≡ replicate (239 - length title) 0 = drop-append_seam title (replicate (239 - length title) 0) in
    let utf8 : is_utf8 title ≡ true = is_utf8-from_IsUtf8 title is.text in
    let good : is_text title ≡ true = rw (utf8, is.plain) refl in
    let few : nat_lt 200 (length title) ≡ false = not_above 200 (length title) is.short in
    title_good (nat_lt 200 (length title)) (is_text (take (length title) (title ++ replicate (239 - length title) 0))) (take (length title) (title ++ replicate (239 - length title) 0)) 16 (17 + length title) 17
    (position is_set (drop (length title) (title ++ replicate (239 - length title) 0)))
    few (ap is_text text ∙ good) (ap (position is_set) behind ∙ position_from-zero is_set (replicate (239 - length title) 0) ∙ zeros_none (239 - length title) 0)
    ∙ ap (λ (t : List ℕ). padded t 0 None) text

numbers : (r : Record) → IsRecord r → with_title (record_bytes r.document r.place r.title) (Ok r.title) ≡ Ok r
unfolding record_bytes
numbers r is =
    let d : from_be_bytes w32 (to_be_bytes w32 r.document) ≡ r.document = from_be_bytes-to_be_bytes_4 r.document is.document in
    let b : from_be_bytes w32 (to_be_bytes w32 r.place.bin) ≡ r.place.bin = from_be_bytes-to_be_bytes_4 r.place.bin is.bin in
    let o : from_be_bytes w32 (to_be_bytes w32 r.place.offset) ≡ r.place.offset = from_be_bytes-to_be_bytes_4 r.place.offset is.offset in
    let l : from_be_bytes w32 (to_be_bytes w32 r.place.length) ≡ r.place.length = from_be_bytes-to_be_bytes_4 r.place.length is.long in
    rw (d, b, o, l) refl

pub spelled_record : (bytes : List ℕ) (r : Record) → IsRecord r → bytes ≡ record_bytes r.document r.place r.title → record_of bytes ≡ Ok r
unfolding record_of
spelled_record bytes r is spelled =
    ap (λ xs. with_title xs (title_within xs)) spelled ∙ ap (with_title (record_bytes r.document r.place r.title)) (spelled_title r.document r.place r.title is.titled) ∙ numbers r is

-- a fault of the title is the record's
pub refused : (bytes : List ℕ) (fault : RecordFault) → IsReadAs {X = List ℕ} (Err fault) (title_within bytes) → IsReadAs {X = Record} (Err fault) (record_of bytes)
unfolding record_of
refused bytes (BadRecord place) is = ap (with_title bytes) is
refused bytes OutOfMemory is = tt

-- where bytes are spelled the title is found
pub not_refused : (bytes : List ℕ) (fault : RecordFault) → IsReadAs {X = List ℕ} (Err fault) (title_within bytes) → (r : Record) → IsRecord r → bytes ≡ record_bytes r.document r.place r.title → IsReadAs {X = Record} (Err fault) (Ok r)
not_refused bytes fault is r good spelled = subst (IsReadAs {X = Record} (Err fault)) (spelled_record bytes r good spelled) (refused bytes fault is)
