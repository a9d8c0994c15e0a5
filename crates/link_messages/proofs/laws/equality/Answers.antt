use Rattle.std.proofs.Common.{rules, ◌≡◌, ◌==◌, ap, ap₂}
use Rattle.std.specs.Bool.{Decides}
use Rattle.std.proofs.lemmas.Bool.Decides.{Decides-and, Decides-like}
use Rattle.std.specs.Cmp.{unsigned_Decides, signed_Decides, booleans_Decides}
use Rattle.std.specs.Cmp.Lexicographic.{pointwise_decides}
use Rattle.netlink_packet_route.specs.contracts.family.FamilyPartialEq.TheImpl as of_family
use Rattle.link_messages.specs.contracts.buffer_parts.PayloadPartialEq.TheImpl as of_payload
use Rattle.link_messages.specs.contracts.buffer_parts.PartPartialEq.TheImpl as of_part
use Rattle.link_messages.specs.declared.buffer_parts.Payload.{Payload}
use Rattle.link_messages.specs.declared.buffer_parts.Part.{Part}
use Rattle.link_messages.specs.Finding.{stretch_of}
use Rattle.link_messages.specs.Link.{part_of}
use Rattle.link_messages.proofs.laws.equality.Goals as goal

payloads : (a b : Payload) → Decides (of_payload.ghosts.eq a b) (stretch_of a ≡ stretch_of b)
payloads a b =
    Decides-like _ (λ h. ap₂ (λ at bytes. (at, bytes)) h.0 h.1) (λ h. (ap (λ z. z.0) h, ap (λ z. z.1) h))
    (Decides-and (a.at == b.at) _ (unsigned_Decides a.at b.at) (pointwise_decides unsigned_Decides a.bytes.now b.bytes.now))

parts : (a b : Part) → Decides (of_part.ghosts.eq a b) (part_of a ≡ part_of b)
parts a b =
    Decides-like _ (λ h. ap₂ (λ family payload. (family, payload)) h.0 h.1) (λ h. (ap (λ z. z.0) h, ap (λ z. z.1) h))
    (Decides-and {P = a.family ≡ b.family} (of_family.ghosts.eq a.family b.family) _ (search rules) (payloads a.payload b.payload))

pub returns-clause-payload : goal.returns-clause-payload
returns-clause-payload c = payloads

pub returns-clause-part : goal.returns-clause-part
returns-clause-part c = parts

pub returns-clause-acknowledgement : goal.returns-clause-acknowledgement
returns-clause-acknowledgement c = λ a b.
    Decides-like _ (λ h. record { is_done = h.0; error = h.1.0; list = h.1.1 }) (λ e. (e.is_done, (e.error, e.list)))
    (Decides-and _ _ (booleans_Decides a.is_done b.is_done) (Decides-and _ _ (signed_Decides a.error b.error) (payloads a.list b.list)))

pub returns-clause-header : goal.returns-clause-header
returns-clause-header c = λ a b. search rules
