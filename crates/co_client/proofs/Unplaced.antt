-- Hits that can't be placed.
use Rattle.std.proofs.Common.{◌≡◌, ℕ, ◌<◌, ap, arith, List, length, get_or}
use Rattle.std.specs.Prelude.{All}
use Rattle.std.proofs.lemmas.List.{length-map}
use Rattle.std.proofs.lemmas.List.Elements.{All-from_get_or, Contains-get_or}
use Rattle.co_noise.specs.Shapes.{Numbers}
use Rattle.co_text.specs.declared.ranks.Ranked.{Ranked}
use Rattle.co_bucket.specs.Lists.{bucket_count, candidates_of}
use Rattle.co_bucket.specs.Placement.{IsWitness}
use Rattle.co_rounds.specs.Placing.{choices_of}

pub choices-long : (s : Numbers) (hits : List Ranked) → length (choices_of s hits) ≡ length hits
choices-long s hits = length-map hits (λ (h : Ranked). candidates_of s.salt (bucket_count s.hits) h.document)

-- a witness's items are ranks of hits
pub ranks-within : (s : Numbers) (hits : List Ranked) (choices : List (List ℕ)) (ranks buckets : List ℕ) → choices ≡ choices_of s hits → IsWitness choices ranks buckets → All (λ r. r < length hits) ranks
ranks-within s hits choices ranks buckets e w = All-from_get_or (λ r. r < length hits) ranks 0
    (λ i u.
    let member = (w.members (get_or ranks i 0)).0 (Contains-get_or ranks i 0 u) in
    omega (arith, member.0, w.within, ap length e, choices-long s hits))
