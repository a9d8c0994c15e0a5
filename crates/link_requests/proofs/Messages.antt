-- The message in the bytes of a request.
use Rattle.std.proofs.Common.{◌≡◌, ℕ, ◌+◌, ◌<◌, ◌^◌, false, cond, List, [], ◌++◌, length, take, Option, Some, None, Result, Ok, Err, inl, inr, ◌&&◌, pos, refl, sym, ap, ◌∙◌, arith, Fits}
use Rattle.std.specs.Prelude.{nat_lt, int_le}
use Rattle.std.specs.Int.{w32, cast_unsigned, cast_signed}
use Rattle.std.proofs.Math.Facts.{Fits-of_z}
use Rattle.std.proofs.lemmas.Bool.{le-ltb, cond-false}
use Rattle.std.proofs.lemmas.Int.{to_z-of_z}
use Rattle.std.proofs.lemmas.List.{append-nil}
use Rattle.std.proofs.lemmas.Nat.{or_of_16}
use Rattle.link_base.specs.Number.{number, bound}
use Rattle.link_base.proofs.Numbers.{number-bytes_of}
use Rattle.link_messages.specs.declared.buffer_parts.Message.{Message}
use Rattle.link_messages.specs.declared.header.LinkHeader.{LinkHeader}
use Rattle.link_messages.specs.declared.message.MessageError.{MessageError}
use Rattle.link_messages.specs.Message.{Packet, packet_bytes, packet_of, IsPacket, BeginsWithPacket, NextMessage, header_fault}
use Rattle.link_messages.specs.Header.{HasLinkHeader, header_in}
use Rattle.link_entries.specs.declared.entry.Entry.{Entry}
use Rattle.link_requests.specs.declared.head.Head.{Head}
use Rattle.link_requests.specs.Request.{is_request, needs_index, head_error, link_head, packet_with, attributes_of, request_of, sized}
use Rattle.link_requests.specs.declared.misfit.RequestError.{RequestError}
use Rattle.link_requests.specs.declared.misfit.RequestError.TheVariants.{BadType, NoIndex}
use Rattle.link_requests.specs.Law.{IsHead, IsMessageOf, IsHeaderOf}
use Rattle.link_requests.proofs.Packets.{IsSamePacket, one_packet}
use Rattle.link_requests.proofs.Requests.{is_written, packet_length, message_length}

-- ---- the message that was written

packet_is : (head : Head) (a : List ℕ) → IsHead head → 32 + length a < 2 ^ 32 → IsPacket (packet_with head a)
packet_is head a h short = record {
  kind = h.kind;
  flags = or_of_16 head.flags 1 h.flags (omega arith);
  sequence = h.sequence;
  port = h.port;
  payload = omega (arith, message_length head a, short);
  padding = omega arith;
}

none_or_some : (x : RequestError) → Some x ≡ None → ⊥
none_or_some x e = absurd cc

no_request : (head : Head) → head_error head ≡ None → head.kind ≡ 3 → ⊥
no_request head none three =
    let bad : is_request head.kind ≡ false = ap is_request three in
    let is : head_error head ≡ Some BadType = ap (λ b. cond b (cond (needs_index head && int_le head.index (pos 0)) (Some NoIndex) None) (Some BadType)) bad in
    none_or_some BadType (sym is ∙ none)

-- ---- what is found

module _ (head : Head) (octets s : List ℕ) (es : List Entry) (h : IsHead head) (a : List ℕ) (text : s ≡ packet_bytes (packet_with head a)) (short : 32 + length a < 2 ^ 32) where
  long : length s ≡ 32 + length a
  long = ap length text ∙ packet_length head a

  begins_same : (q : Packet) → BeginsWithPacket s q → IsSamePacket (packet_with head a) q
  begins_same q b = one_packet (packet_with head a) q [] b.rest (packet_is head a h short) b.is (append-nil (packet_bytes (packet_with head a)) ∙ sym text ∙ b.string)

  packet_same : (m : Message) → IsSamePacket (packet_with head a) (packet_of m) → packet_of m ≡ packet_with head a
  packet_same m is = cc

  no_fault : header_fault 0 s ≡ None
  no_fault =
      let sized : number (take 4 s) ≡ 32 + length a = ap (λ t. number (take 4 t)) text ∙ number-bytes_of 4 (16 + length (link_head head ++ a)) (omega (arith, message_length head a, short)) ∙ message_length head a in
      let one = le-ltb (length s) 16 (omega (arith, long)) in
      let two = le-ltb (number (take 4 s)) 16 (omega (arith, sized)) in
      let three = le-ltb (length s) (number (take 4 s)) (omega (arith, sized, long)) in
      cond-false (nat_lt (length s) 16) _ _ one ∙ cond-false (nat_lt (number (take 4 s)) 16) _ _ two ∙ cond-false (nat_lt (length s) (number (take 4 s))) _ None three

  found : (result : Result (Option Message) MessageError) → head_error head ≡ None → attributes_of head octets es ≡ Ok a → NextMessage 0 s result → (m : Message) × (result ≡ Ok (Some m)) × IsMessageOf head octets es s m
  found (Ok None) taken encoded (inl none) = absurd (omega (arith, long, ap length none))
  found (Ok None) taken encoded (inr (q, b, done)) = absurd (no_request head taken ((begins_same q b).kind ∙ done))
  found (Ok (Some m)) taken encoded is =
      let same = begins_same (packet_of m) is.0.begins in
      let size : length m.payload.now ≡ length (link_head head ++ a) = ap length (sym same.payload) in
      let end : m.next ≡ length s = omega (arith, is.0.next, size, message_length head a, long) in
      (m, refl, record { attributes = a; encoded = encoded; packet = packet_same m same; at = is.0.offset; next = end })
  found (Err e) taken encoded bad = let wrong : None ≡ Some e = sym no_fault ∙ bad.1 in absurd cc

pub message_found : (head : Head) (octets s : List ℕ) (es : List Entry) (result : Result (Option Message) MessageError) → IsHead head → request_of head octets es ≡ Ok s → NextMessage 0 s result
    → (m : Message) × (result ≡ Ok (Some m)) × IsMessageOf head octets es s m
message_found head octets s es result h is next =
    let w = is_written head octets es (length s) (sym (ap sized is)) in
    let text : s ≡ packet_bytes (packet_with head w.attributes) = let both : Ok s ≡ Ok (packet_bytes (packet_with head w.attributes)) = sym is ∙ w.is in cc in
    found head octets s es h w.attributes text w.short result w.head_taken w.encoded next

-- ---- its header

pub header_found : (head : Head) (octets s : List ℕ) (es : List Entry) (m : Message) (header : LinkHeader) → IsHead head → IsMessageOf head octets es s m → HasLinkHeader (packet_of m) header → IsHeaderOf head header
header_found head octets s es m header h w has =
    let payload : m.payload.now ≡ link_head head ++ w.attributes = ap (λ p. p.payload) w.packet in
    let is : header ≡ header_in (link_head head ++ w.attributes) = has.is ∙ ap header_in payload in
    let low : cast_unsigned w32 head.index < bound 4 = let f : Fits w32 (cast_unsigned w32 head.index) = Fits-of_z h.index in omega (arith, f) in
    record {
      family = ap (λ x. x.family) is;
      kind = ap (λ x. x.kind) is ∙ number-bytes_of 2 head.link_type (omega (arith, h.link_type));
      index = ap (λ x. x.index) is ∙ ap (cast_signed w32) (number-bytes_of 4 (cast_unsigned w32 head.index) low) ∙ to_z-of_z w32 head.index h.index;
      flags = ap (λ x. x.flags) is ∙ number-bytes_of 4 head.link_flags (omega (arith, h.link_flags));
      change = ap (λ x. x.change) is ∙ number-bytes_of 4 head.change (omega (arith, h.change));
    }
