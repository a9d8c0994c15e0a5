-- Bytes start with one message only.
use Rattle.std.proofs.Common.{◌≡◌, ℕ, ◌+◌, ◌<◌, List, [], ◌∷◌, ◌++◌, length, take, drop, refl, sym, ap, ap₂, ◌∙◌, arith, append_assoc}
use Rattle.link_base.specs.Number.{bytes_of, number, bound}
use Rattle.link_base.proofs.Numbers.{number-bytes_of}
use Rattle.link_messages.specs.Message.{Packet, packet_bytes, IsPacket}

pub one_number : (n x y : ℕ) → x < bound n → y < bound n → bytes_of n x ≡ bytes_of n y → x ≡ y
one_number n x y low high e = sym (number-bytes_of n x low) ∙ ap number e ∙ number-bytes_of n y high

head_same : (c d : ℕ) (a b : List ℕ) → c ∷ a ≡ d ∷ b → c ≡ d
head_same c d a b e = cc

tail_same : (c d : ℕ) (a b : List ℕ) → c ∷ a ≡ d ∷ b → a ≡ b
tail_same c d a b e = cc

pub split_front : (a b x y : List ℕ) → length a ≡ length b → a ++ x ≡ b ++ y → (a ≡ b) × (x ≡ y)
split_front [] [] x y n e = (refl, e)
split_front [] (d ∷ b) x y n e = absurd (omega (arith, n))
split_front (c ∷ a) [] x y n e = absurd (omega (arith, n))
split_front (c ∷ a) (d ∷ b) x y n e =
    let others = split_front a b x y (omega (arith, n)) (tail_same c d (a ++ x) (b ++ y) e) in
    (ap₂ (λ h t. h ∷ t) (head_same c d (a ++ x) (b ++ y) e) others.0, others.1)

-- the same fields and payload
pub record IsSamePacket (p q : Packet) : Type 0 where
  pub kind : p.kind ≡ q.kind
  pub flags : p.flags ≡ q.flags
  pub sequence : p.sequence ≡ q.sequence
  pub port : p.port ≡ q.port
  pub payload : p.payload ≡ q.payload

pub one_packet : (p q : Packet) (r t : List ℕ) → IsPacket p → IsPacket q → packet_bytes p ++ r ≡ packet_bytes q ++ t → IsSamePacket p q
one_packet p q r t hp hq e =
    let sizes : bytes_of 4 (16 + length p.payload) ≡ bytes_of 4 (16 + length q.payload) = ap (take 4) e in
    let size = one_number 4 (16 + length p.payload) (16 + length q.payload) (omega (arith, hp.payload)) (omega (arith, hq.payload)) sizes in
    let rest : (p.payload ++ p.padding) ++ r ≡ (q.payload ++ q.padding) ++ t = ap (drop 16) e in
    let payloads = sym (append_assoc p.payload p.padding r) ∙ rest ∙ append_assoc q.payload q.padding t in
    record {
      kind = one_number 2 p.kind q.kind (omega (arith, hp.kind)) (omega (arith, hq.kind)) (ap (λ l. take 2 (drop 4 l)) e);
      flags = one_number 2 p.flags q.flags (omega (arith, hp.flags)) (omega (arith, hq.flags)) (ap (λ l. take 2 (drop 6 l)) e);
      sequence = one_number 4 p.sequence q.sequence (omega (arith, hp.sequence)) (omega (arith, hq.sequence)) (ap (λ l. take 4 (drop 8 l)) e);
      port = one_number 4 p.port q.port (omega (arith, hp.port)) (omega (arith, hq.port)) (ap (λ l. take 4 (drop 12 l)) e);
      payload = (split_front p.payload q.payload (p.padding ++ r) (q.padding ++ t) (omega (arith, size)) payloads).0;
    }
