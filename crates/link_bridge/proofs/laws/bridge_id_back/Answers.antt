use Rattle.std.proofs.Common.{◌≡◌, ℕ, List, [], ◌∷◌, length, reverse, ap, arith}
use Rattle.link_base.specs.Number.{IsBytes, number, bytes_of}
use Rattle.link_base.proofs.Numbers.{bytes_of-number}
use Rattle.link_bridge.specs.Id.{priority_octets}
use Rattle.link_bridge.specs.declared.bridge.id.BridgeIdBuffer.{BridgeIdBuffer}
use Rattle.link_bridge.proofs.laws.bridge_id_back.Goals as goal

-- two bytes are those of their number, the highest first
two_back : (octets : List ℕ) → length octets ≡ 2 → IsBytes octets → reverse (bytes_of 2 (number (reverse octets))) ≡ octets
two_back [] two bytes = absurd (omega (arith, two))
two_back (a ∷ []) two bytes = absurd (omega (arith, two))
two_back (a ∷ b ∷ []) two bytes = ap reverse (bytes_of-number (b ∷ a ∷ []) (bytes.1.0, (bytes.0, tt)))
two_back (a ∷ b ∷ c ∷ octets) two bytes = absurd (omega (arith, two))

abbrev buffer_with : List ℕ → List ℕ → BridgeIdBuffer
buffer_with first second = record { priority = first; address = second }

pub returns-clause-buffer : goal.returns-clause-buffer
returns-clause-buffer c = λ buffer octets. ap (λ p. buffer_with p buffer.address) (two_back (priority_octets buffer) octets.0 octets.1)
