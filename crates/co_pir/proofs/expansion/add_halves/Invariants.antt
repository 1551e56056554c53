use Rattle.std.proofs.Common.{◌≡◌, map, take}
use Rattle.co_switch.specs.Steps.{raised}
use Rattle.co_pir.specs.Expansions.{even_half, odd_half}
use Rattle.co_pir.proofs.expansion.add_halves.Given as goal

abbrev pub invariant-loop-cipher : goal.invariant-loop-cipher
invariant-loop-cipher g l =
    (l.evens.items ≡ map (even_half l.key) (take l.cipher-index l.ciphers))
    × (l.odds.items ≡ map (odd_half l.exponent l.key) (take l.cipher-index l.ciphers))
    × (l.steps ≡ raised l.initial.steps l.cipher-index)
