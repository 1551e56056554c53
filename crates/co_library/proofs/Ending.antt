-- The end of a whole reading.
use Rattle.std.proofs.Common.{◌≡◌, ℕ, Bool, true, false, cond, eqb, List, length, drop, Ok, Err, refl, sym, ap, ◌∙◌}
use Rattle.co_wire.specs.Reading.{Left, left, ◌>>=◌, magic, headed, ended, Fails}
use Rattle.co_wire.specs.declared.fault.WireFault.{WireFault}
use Rattle.co_wire.specs.declared.fault.WireFault.TheVariants.{Length, Range, Public, OutOfMemory}
use Rattle.co_wire.proofs.Formats.{guarded}
use Rattle.co_library.specs.Libraries.{Parts}
use Rattle.co_library.specs.Files.{library_word, parts, library_in}

whole_is : (bytes : List ℕ) (s s1 s2 : Left) (l : Parts) (w : List ℕ) → s ≡ left 0 (drop 0 bytes) → magic library_word s ≡ Ok (w, s1) → parts s1 ≡ Ok (l, s2) → library_in bytes ≡ ended l s2
unfolding library_in
whole_is bytes s s1 s2 l w start e1 e2 = ap (λ (s : Left). headed library_word parts s >>= λ found. ended found.0 found.1) (sym start) ∙ rw (e1, e2) refl

-- where nothing is left all is read
pub whole_ends : (bytes : List ℕ) (s s1 s2 : Left) (l : Parts) (w : List ℕ) → s ≡ left 0 (drop 0 bytes) → magic library_word s ≡ Ok (w, s1) → parts s1 ≡ Ok (l, s2)
    → ended {X = Unit {0} × Left} (tt, s2) s2 ≡ Ok (tt, s2) → library_in bytes ≡ Ok l
whole_ends bytes s s1 s2 l w start e1 e2 ends =
    let nothing = (guarded (eqb (length s2.rest) 0) s2.at (tt, s2) (tt, s2) ends).0 in
    whole_is bytes s s1 s2 l w start e1 e2 ∙ rw nothing refl

still_err : {A B : Type 0} (b : Bool) (at place : ℕ) (x : A) (y : B) → cond b (Ok x) (Err at) ≡ Err place → cond b (Ok y) (Err at) ≡ Err place
still_err true at place x y e = absurd cc
still_err false at place x y e = let same : at ≡ place = cc in ap (λ (n : ℕ). Err n) same

-- a fault at the end is one of the whole
pub whole_fails : (bytes : List ℕ) (s s1 s2 : Left) (l : Parts) (w : List ℕ) (fault : WireFault) → s ≡ left 0 (drop 0 bytes) → magic library_word s ≡ Ok (w, s1) → parts s1 ≡ Ok (l, s2)
    → Fails fault (ended {X = Unit {0} × Left} (tt, s2) s2) → Fails fault (library_in bytes)
whole_fails bytes s s1 s2 l w (Public place) start e1 e2 fails = whole_is bytes s s1 s2 l w start e1 e2 ∙ still_err (eqb (length s2.rest) 0) s2.at place (tt, s2) l fails
whole_fails bytes s s1 s2 l w OutOfMemory start e1 e2 fails = tt
whole_fails bytes s s1 s2 l w (Length wanted found) start e1 e2 fails = absurd fails
whole_fails bytes s s1 s2 l w (Range place) start e1 e2 fails = absurd fails
