-- A message is well-formed or not.
use Rattle.std.proofs.Common.{◌≡◌, inl, inr, ℕ, ◌+◌, ◌<◌, ◌≤◌, nat_lt, List, [], ◌++◌, length, take, drop, Option, Some, None, Ok, Err, sym, subst, ap, ◌∙◌, arith, ◌⊎◌}
use Rattle.std.proofs.lemmas.Bool.{cond_both, ltb-true}
use Rattle.std.proofs.lemmas.List.{length-append}
use Rattle.netlink_packet_route.specs.Number.{number}
use Rattle.link_base.proofs.Numbers.{number-bytes_of}
use Rattle.link_messages.specs.declared.buffer_parts.Message.{Message}
use Rattle.link_messages.specs.declared.message.MessageError.{MessageError}
use Rattle.link_messages.specs.declared.message.MessageError.TheVariants as errors
use Rattle.link_messages.specs.Message.{Packet, BeginsWithPacket, packet_of, header_fault}
use Rattle.link_messages.specs.Header.{IsAnyLinkType}
use Rattle.nlroute_ffi.specs.declared.message.FoundMessage.{FoundMessage}
use Rattle.nlroute_ffi.specs.Messages.{HasFields, HasNoFields, ReadsMessage}

-- ---- the header of a message

stated_length : (r : List ℕ) (m : Packet) → BeginsWithPacket r m → number (take 4 r) ≡ 16 + length m.payload
stated_length r m h = ap (λ s. number (take 4 s)) h.string ∙ number-bytes_of 4 (16 + length m.payload) (omega (arith, h.is.payload))

stated_kind : (r : List ℕ) (m : Packet) → BeginsWithPacket r m → number (take 2 (drop 4 r)) ≡ m.kind
stated_kind r m h = ap (λ s. number (take 2 (drop 4 s))) h.string ∙ number-bytes_of 2 m.kind (omega (arith, h.is.kind))

whole : (r : List ℕ) (m : Packet) → BeginsWithPacket r m → 16 + length m.payload ≤ length r
whole r m h = omega (arith, ap length h.string, length-append (m.payload ++ m.padding) h.rest, length-append m.payload m.padding)

-- why a header is malformed
means : (at : ℕ) (r : List ℕ) (e : MessageError) → header_fault at r ≡ Some e → (length r < 16) ⊎ ((number (take 4 r) < 16) ⊎ (length r < number (take 4 r)))
means at r e h =
    let stated = number (take 4 r) in
    let P : Option MessageError → Type 0 = λ o. o ≡ Some e → (length r < 16) ⊎ ((stated < 16) ⊎ (length r < stated)) in
    cond_both (nat_lt (length r) 16) (Some (errors.ShortHeader at (length r))) _ P (λ b k. inl (ltb-true (length r) 16 b))
    (λ _. cond_both (nat_lt stated 16) (Some (errors.SmallLength at stated)) _ P (λ b k. inr (inl (ltb-true stated 16 b)))
    (λ _. cond_both (nat_lt (length r) stated) (Some (errors.Overrun at stated (length r))) None P (λ b k. inr (inr (ltb-true (length r) stated b))) (λ _ k. absurd cc))) h

no_fault : (n stated size : ℕ) → (n < 16) ⊎ ((stated < 16) ⊎ (n < stated)) → stated ≡ 16 + size → 16 + size ≤ n → ⊥
no_fault n stated size (inl low) e long = omega (arith, low, long)
no_fault n stated size (inr (inl low)) e long = omega (arith, low, e)
no_fault n stated size (inr (inr low)) e long = omega (arith, low, e, long)

no_header_fault : (at : ℕ) (r : List ℕ) (m : Packet) (e : MessageError) → BeginsWithPacket r m → header_fault at r ≡ Some e → ⊥
no_header_fault at r m e h fault = no_fault (length r) (number (take 4 r)) (length m.payload) (means at r e fault) (stated_length r m h) (whole r m h)

-- ---- that of a link

too_short : (m : Message) (e : MessageError) → HasNoFields m e → length m.payload.now < 16
too_short m (errors.ShortLink at n) h = omega (arith, h.1.2, h.1.3)
too_short m (errors.OtherType at kind) h = absurd (h.1.0 h.0)
too_short m (errors.ShortHeader at left) h = absurd h.1
too_short m (errors.SmallLength at n) h = absurd h.1
too_short m (errors.Overrun at n left) h = absurd h.1
too_short m (errors.ShortError at n) h = absurd h.1

no_link_fault : (r : List ℕ) (m n : Message) (found : FoundMessage) (e : MessageError) → BeginsWithPacket r (packet_of m) → BeginsWithPacket r (packet_of n) → HasFields m found → HasNoFields n e → ⊥
no_link_fault r m n found e h k (inl (header, has, is)) none =
    omega (arith, has.size, too_short n e none, stated_length r (packet_of m) h, stated_length r (packet_of n) k)
no_link_fault r m n found e h k (inr (other, is)) none = other (subst IsAnyLinkType (sym (stated_kind r (packet_of n) k) ∙ stated_kind r (packet_of m) h) none.0)

-- ---- both

-- what is at an offset is not malformed, too
pub one_message : (at : ℕ) (r : List ℕ) (found : Option FoundMessage) (e : MessageError) → ReadsMessage at r (Ok found) → ReadsMessage at r (Err e) → ⊥
one_message at r None e none (inl (some, fault)) = some none
one_message at r None e none (inr (m, is, bad)) = let empty : [] ≡ _ = sym none ∙ is.begins.string in absurd cc
one_message at r (Some found) e (m, is, fields) (inl (some, fault)) = no_header_fault at r (packet_of m) e is.begins fault
one_message at r (Some found) e (m, is, fields) (inr (n, also, bad)) = no_link_fault r m n found e is.begins also.begins fields bad
