-- When bytes are refused as a record.
use Rattle.std.specs.Prelude.{◌≡◌, ℕ, Result, Ok, Err}
use Rattle.co_pack.specs.declared.records.RecordFault.{RecordFault}
use Rattle.co_pack.specs.declared.records.RecordFault.TheVariants.{BadRecord, OutOfMemory}

-- the answer is the wanted value, or the fault at the wanted place; memory may be wanting at any
-- time
abbrev pub IsReadAs : {X : Type 0} → Result X RecordFault → Result X ℕ → Type 0
IsReadAs (Ok x) wanted = wanted ≡ Ok x
IsReadAs (Err (BadRecord place)) wanted = wanted ≡ Err place
IsReadAs (Err OutOfMemory) wanted = Unit {0}
