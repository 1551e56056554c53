-- Answers that are read as wanted.
use Rattle.std.specs.Prelude.{◌≡◌, ◌<◌, ◌≤◌, ℕ, min, Bool, true, false, Result, Ok, Err}
use Rattle.co_text.specs.declared.limits.TheConstants.{MOST_KEYWORDS}
use Rattle.co_client.specs.declared.fault.SearchFault.{SearchFault}
use Rattle.co_client.specs.declared.fault.SearchFault.TheVariants.{TooManyKeywords, OutOfMemory}

-- the fault is want of memory
abbrev pub is_want : SearchFault → Bool
is_want OutOfMemory = true
is_want fault = false

-- the answer is the wanted value or fault; want of memory is free
abbrev pub IsReadAs : {X : Type 0} → Result X SearchFault → Result X SearchFault → Type 0
IsReadAs (Ok x) wanted = wanted ≡ Ok x
IsReadAs (Err fault) wanted = is_want fault ≡ false → wanted ≡ Err fault

-- the fault of a query with so many terms: more than are answered, told up to the greatest number
-- of 32 bits; want of memory is free
abbrev pub IsManyTerms : ℕ → SearchFault → Type 0
IsManyTerms number (TooManyKeywords found) =
    (MOST_KEYWORDS < number) × (found ≡ min number 4294967295)
IsManyTerms number OutOfMemory = Unit {0}
IsManyTerms number fault = ⊥

-- an answer for so many terms: each but that there are too many, and want of memory, comes only for
-- few
abbrev pub IsForFew : {X : Type 0} → ℕ → Result X SearchFault → Type 0
IsForFew number (Err (TooManyKeywords found)) = Unit {0}
IsForFew number (Err OutOfMemory) = Unit {0}
IsForFew number result = number ≤ MOST_KEYWORDS
