-- The segments of an IPv6 address.
use Rattle.std.proofs.Common.{◌≡◌, suc, get_or, ◌<◌, ℕ, ◌%◌, List, [], ◌∷◌, ◌++◌, map, codes, length, ◌-◌, length-drop, arith, take, drop, refl, ap, ap₂}
use Rattle.std.specs.List.{flat_map}
use Rattle.std.proofs.lemmas.Grind.{common_steps}
use Rattle.std.proofs.lemmas.List.{take_all}
use Rattle.std.proofs.lemmas.Slice.Eq.{bytes_eq-Decides}
use Rattle.std.specs.Net.Text.{hex, groups_text}
use Rattle.link_show.specs.Gained.{chains}
use Rattle.link_show.specs.Text.{after, joined}

-- bytes are their low eight bits
pub low_bytes : (bytes : List ℕ) → ((i : ℕ) → get_or bytes i 0 < 256) → map (λ b. b % 256) bytes ≡ bytes
low_bytes [] h = refl
low_bytes (b ∷ bytes) h = let low : b % 256 ≡ b = omega (arith, h 0) in ap₂ (λ x y. x ∷ y) low (low_bytes bytes (λ i. h (suc i)))

-- segments, each after a colon
behind_colons : (segments : List ℕ) → flat_map (λ t. codes ":" ++ hex t) segments ≡ after (codes ":") (codes ":") (map hex segments)
behind_colons [] = refl
behind_colons (s ∷ rest) = ap (λ t. 58 ∷ (hex s ++ t)) (behind_colons rest)

-- segments, with colons between them
pub groups_joined : (segments : List ℕ) → groups_text segments ≡ joined (codes ":") (map hex segments)
groups_joined [] = refl
groups_joined (s ∷ rest) = ap (λ t. hex s ++ t) (behind_colons rest)

-- what is behind a place, as a slice has it
pub behind_place : {X : Type 0} (n : ℕ) (xs : List X) → take (length xs - n) (drop n xs) ≡ drop n xs
behind_place n xs = take_all (length xs - n) (drop n xs) (omega (arith, length-drop n xs))

-- what the prover tries for segments with a run of zeros, and for an address that may be IPv4-mapped
pub ruleset group_steps = (common_steps, chains, groups_joined, behind_place)

pub ruleset mapped_steps = (common_steps, chains, bytes_eq-Decides)
