-- Rotations one from another, and what they mean, by a set of keys.
use Rattle.std.proofs.Common.{◌≡◌, ℕ, ◌*◌, ◌/◌, ◌^◌, ◌<◌, subst, arith, length}
use Rattle.co_bfv.specs.Ciphertexts.{Ciphertext, IsCiphertext, ciphertext_degree}
use Rattle.co_switch.specs.Keys.{Keys, AreKeys, keys_degree, rotation_key, no_key}
use Rattle.co_switch.specs.Switches.{switched}
use Rattle.co_rot.specs.Bits.{lowest_bit, parent_of}
use Rattle.co_rot.specs.Rotations.{rotation, RotationsTurn}
use Rattle.co_rot.proofs.Turning.{rotation-step}
use Rattle.co_rot.proofs.Keyed.{rotation_keys_are}
use Rattle.co_rot.proofs.Rotated.{rotation-means}

pub from_parent : (keys : Keys) (c : Ciphertext) (i : ℕ) → AreKeys keys → 0 < i → i < 2 ^ length keys.rotations → rotation keys c i ≡ switched (rotation_key keys (lowest_bit i)) (rotation keys c (parent_of i))
from_parent keys c i a z u = let k = rotation_keys_are keys a in rotation-step (length keys.rotations) k.few keys c i k.count z u

pub turns : (keys : Keys) (c : Ciphertext) → AreKeys keys → IsCiphertext c → ciphertext_degree c ≡ keys_degree keys → RotationsTurn keys c
turns keys c a ok one s m bound ws wm good means i l =
    let k = rotation_keys_are keys a in
    rotation-means (keys_degree keys) (length keys.rotations) keys k c ok one s ws (λ b u. good b no_key u) m wm bound means i (subst (λ (x : ℕ). i < x) (half (2 ^ length keys.rotations)) l)
  where
    half : (x : ℕ) → 2 * x / 2 ≡ x
    half x = omega arith
