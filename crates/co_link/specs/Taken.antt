-- What a source gives, where it tells what it has left.
use Rattle.std.specs.Prelude.{◌≡◌, ◌↔◌, ℕ, ◌+◌, ◌≤◌, ◌<◌, List, [], ◌++◌, length, take, drop, Option, option_map, IfSome, Result, Ok, Err, OnOk, OnErr}
use Rattle.std.specs.List.{between}
use Rattle.co_link.specs.declared.sink.Failed.{Failed}
use Rattle.co_link.specs.declared.files.FileFault.{FileFault}
use Rattle.co_link.specs.declared.files.FileFault.TheVariants.{Failed as FileFailed, TooLong, OutOfMemory}
use Rattle.co_link.specs.declared.taking.TakeFault.{TakeFault}

-- the next count bytes of the source stand at the front of into, and the rest of into is as before;
-- no byte comes exactly where none is left
pub record TakesBytes (old new : Option (List ℕ)) (into_old into_new : List ℕ) (count : ℕ)
    : Type 0 where
  pub within : count ≤ length into_old
  pub left : new ≡ option_map (drop count) old
  pub enough : IfSome old (λ bytes. count ≤ length bytes)
  pub bytes : IfSome old (λ bytes. take count into_new ≡ take count bytes)
  pub rest : IfSome old (λ bytes. drop count into_new ≡ drop count into_old)
  pub end : IfSome old (λ bytes. (count ≡ 0) ↔ (bytes ≡ []))

-- what is left after a take; after a failure nothing was taken
abbrev pub Takes : Option (List ℕ) → Option (List ℕ) → List ℕ → List ℕ → Result ℕ Failed → Type 0
Takes old new into_old into_new (Ok count) = TakesBytes old new into_old into_new count
Takes old new into_old into_new (Err _) = new ≡ old

-- the next count bytes of the source stand in the buffer from the place on; no byte comes exactly
-- where none is left
pub record TakesBehind (old new : Option (List ℕ)) (buffer : List ℕ) (place count : ℕ)
    : Type 0 where
  pub within : place + count ≤ length buffer
  pub left : new ≡ option_map (drop count) old
  pub bytes : IfSome old (λ bytes. between place (place + count) buffer ≡ take count bytes)
  pub end : IfSome old (λ bytes. (count ≡ 0) ↔ (bytes ≡ []))

-- after a failure the source has what it had
abbrev pub TakesInto : Option (List ℕ) → Option (List ℕ) → List ℕ → ℕ → Result ℕ Failed → Type 0
TakesInto old new buffer place (Ok count) = TakesBehind old new buffer place count
TakesInto old new buffer place (Err _) = new ≡ old

-- what comes next: these bytes, and then what a source has left
abbrev pub behind : List ℕ → Option (List ℕ) → Option (List ℕ)
behind first left = option_map (λ more. first ++ more) left

-- what was taken stands behind the first bytes, in order, and they are at most so many together; Ok
-- comes where they are so many, or where nothing is left, and a fault where they are fewer
pub record TakesUpTo (most : ℕ) (first taken : List ℕ) (old new : Option (List ℕ))
    (result : Result (Unit {0}) TakeFault) : Type 0 where
  pub within : length taken ≤ most
  pub moved : behind taken new ≡ behind first old
  pub ended : OnOk result (length taken < most → IfSome new (λ left. left ≡ []))
  pub short : OnErr result (length taken < most)

-- at most so many bytes were taken
abbrev pub TookAtMost : ℕ → Option (List ℕ) → Option (List ℕ) → Type 0
TookAtMost most old new = (taken : List ℕ) × (length taken ≤ most) × (behind taken new ≡ old)

-- all that a source has, where it is within the limit: its first limit bytes and one more decide,
-- and no more are taken
abbrev pub ReadsWithin : ℕ → Option (List ℕ) → Option (List ℕ) → Result (List ℕ) FileFault → Type 0
ReadsWithin limit old new (Ok bytes) =
    (length bytes ≤ limit) × (behind bytes new ≡ old) × IfSome new (λ left. left ≡ [])
ReadsWithin limit old new (Err TooLong) =
    (taken : List ℕ) × (length taken ≡ limit + 1) × (behind taken new ≡ old)
ReadsWithin limit old new (Err FileFailed) = TookAtMost limit old new
ReadsWithin limit old new (Err OutOfMemory) = TookAtMost limit old new
