-- The JSON of messages: a document for each.
use Rattle.std.specs.Prelude.{◌≡◌, ◌≢◌, ℕ, ℤ, ◌+◌, Bool, true, false, not, ◌==◌, ◌||◌, List, [], ◌∷◌, ◌++◌, length, drop, Option, Some, Result, Ok, Err, codes}
use Rattle.std.specs.List.{flat_map}
use Rattle.std.specs.Io.KnownBytes.{Appends}
use Rattle.json.specs.Token.{Token}
use Rattle.json.specs.Json.{Json, boolean}
use Rattle.json.specs.Print.{print}
use Rattle.json.specs.Tree.{json_tokens}
use Rattle.netlink_packet_route.specs.declared.family.Family.TheVariants as families
use Rattle.link_messages.specs.declared.buffer_parts.Message.{Message}
use Rattle.link_messages.specs.declared.message.MessageError.{MessageError}
use Rattle.link_messages.specs.declared.header.LinkHeader.{LinkHeader}
use Rattle.link_messages.specs.declared.acknowledgement.Acknowledgement.{Acknowledgement}
use Rattle.link_messages.specs.Message.{IsMessageAt, header_fault, packet_of}
use Rattle.link_messages.specs.Header.{IsAnyLinkType, HasLinkHeader, HasNoLinkHeader}
use Rattle.link_messages.specs.Link.{attributes_of}
use Rattle.link_messages.specs.Acknowledgement.{IsReplyType, IsAcknowledgement, IsNoAcknowledgement}
use Rattle.link_show.specs.Message.{reason_text, offset_of, errno_name, has_result, IsGeneral, AreZerosAfter, ShowsBuffer}
use Rattle.link_show.specs.MessageNames.{message_types, flags_of}
use Rattle.link_json.specs.declared.messages.Failure.{Failure}
use Rattle.link_json.specs.declared.messages.Failure.TheVariants.{Memory, Writer}
use Rattle.link_json.specs.Doc.{Field, object_of, array_of, fields_tokens, number_json, signed_json, name_json, error_json}
use Rattle.link_json.specs.List.{ShowsList}
use Rattle.link_json.specs.Value.{enum_json, flags_json}
use Rattle.link_json.specs.Link.{ShowsLink}

-- ---- members

-- the error of a message
abbrev pub message_error : MessageError → Field
message_error error = (codes "error", error_json (Some (offset_of error)) (reason_text error))

-- a `struct nlmsghdr`
abbrev pub message_fields : Message → List Field
message_fields m =
    (codes "len", number_json (16 + length m.payload.now)) ∷
    (codes "type", enum_json message_types m.kind) ∷
    (codes "flags", flags_json (flags_of m.kind) m.flags) ∷
    (codes "seq", number_json m.sequence) ∷
    (codes "pid", number_json m.port) ∷ []

-- the error of a reply, with its sign, and the name of an errno
abbrev pub errno_json : ℤ → Json
errno_json e = object_of ((codes "number", signed_json e) ∷ (codes "name", name_json (errno_name e)) ∷ [])

-- what a reply says: its result, and its attributes
abbrev pub reply_json : Acknowledgement → List Json → Json
reply_json a js = object_of ((codes "errno", errno_json a.error) ∷ (codes "attrs", array_of js) ∷ [])

abbrev pub SaysReply : Acknowledgement → Json → Bool → Type 0
SaysReply a j well = (js : List Json) × ShowsList 0 families.Reply a.list.at a.list.bytes.now js well × (j ≡ reply_json a js)

-- an NLMSG_DONE says something if the dump failed, or if its list is not empty
abbrev pub says_something : Acknowledgement → Bool
says_something a = has_result a || not (length a.list.bytes.now == 0)

-- the member for what it says, if it says something
abbrev pub shows_said : Bool → Acknowledgement → List Field → Bool → Type 0
shows_said true a fields well = (j : Json) × SaysReply a j well × (fields ≡ (codes "reply", j) ∷ [])
shows_said false a fields well = (fields ≡ []) × (well ≡ true)

abbrev pub ShowsReply : Acknowledgement → List Field → Bool → Type 0
ShowsReply a = shows_said (says_something a) a

-- what a message is, besides its header, and whether it has no error
pub data ShowsBody (m : Message) (fields : List Field) (well : Bool) : Type 0 where
  Link : (h : LinkHeader) → ¬ IsGeneral m → HasLinkHeader (packet_of m) h → (link : Json) → ShowsLink h (attributes_of m.at (packet_of m)) link well
      → fields ≡ (codes "link", link) ∷ [] → ShowsBody m fields well
  Reply : (a : Acknowledgement) → IsAcknowledgement m.at (packet_of m) a → ShowsReply a fields well → ShowsBody m fields well
  General : IsGeneral m → fields ≡ [] → well ≡ true → ShowsBody m fields well
  NoLink : (error : MessageError) → IsAnyLinkType m.kind → ¬ IsGeneral m → HasNoLinkHeader m.at (packet_of m) error → fields ≡ message_error error ∷ [] → well ≡ false → ShowsBody m fields well
  NoReply : (error : MessageError) → IsReplyType m.kind → IsNoAcknowledgement m.at (packet_of m) error → fields ≡ message_error error ∷ [] → well ≡ false → ShowsBody m fields well
  Other : ¬ IsAnyLinkType m.kind → ¬ IsReplyType m.kind → fields ≡ [] → well ≡ true → ShowsBody m fields well

-- ---- documents

-- a document: where it is from, what it says, and whether it has no error
abbrev pub whole_document : List Field → List Field → Bool → Json
whole_document place fields well = object_of (place ++ (fields ++ (codes "ok", boolean well) ∷ []))

-- the document of a message
abbrev pub ShowsDocument : List Field → Message → Json → Bool → Type 0
ShowsDocument place m j well = (body : List Field) × ShowsBody m body well × (j ≡ whole_document place (message_fields m ++ body) well)

abbrev pub ShowsMessage : List Field → Message → List Json → Bool → Type 0
ShowsMessage place m js well = (j : Json) × ShowsDocument place m j well × (js ≡ j ∷ [])

-- what ends the messages of s at offset `at`: its end, the NLMSG_DONE m, zeros after a message, or other bytes that are no
-- message; and the document for it, if it has one. If the end is the first that there is, it has one
pub data ShowsEnd (place : List Field) (s : List ℕ) (at : ℕ) (js : List Json) (well : Bool) : Type 0 where
  Ended : drop at s ≡ [] → at ≢ 0 → js ≡ [] → well ≡ true → ShowsEnd place s at js well
  Empty : drop at s ≡ [] → at ≡ 0 → js ≡ whole_document place [] true ∷ [] → well ≡ true → ShowsEnd place s at js well
  Done : (m : Message) → IsMessageAt at (drop at s) m → m.kind ≡ 3 → ShowsMessage place m js well → ShowsEnd place s at js well
  Zeros : drop at s ≢ [] → (error : MessageError) → header_fault at (drop at s) ≡ Some error → AreZerosAfter at (drop at s) → js ≡ [] → well ≡ true → ShowsEnd place s at js well
  Broken : drop at s ≢ [] → (error : MessageError) → header_fault at (drop at s) ≡ Some error → ¬ AreZerosAfter at (drop at s)
      → js ≡ whole_document place (message_error error ∷ []) false ∷ [] → well ≡ false → ShowsEnd place s at js well

-- the documents for the messages of a buffer, and whether none has an error
abbrev pub ShowsMessages : List Field → List ℕ → List Json → Bool → Type 0
ShowsMessages place s = ShowsBuffer (ShowsMessage place) (ShowsEnd place s) s

-- a document as a line
abbrev pub document_line : Json → List ℕ
document_line j = print (json_tokens j) ++ 10 ∷ []

-- members were written, and whether they have no error
abbrev pub WritesFields : (List Field → Bool → Type 0) → List Token → List Token → Bool → Type 0
WritesFields shows old new well = (fields : List Field) × shows fields well × (new ≡ old ++ fields_tokens fields)

-- the lines of documents were written
abbrev pub WritesLines : (List Json → Bool → Type 0) → Option (List ℕ) → Option (List ℕ) → Bool → Type 0
WritesLines shows held_before held_after well = (js : List Json) × shows js well × Appends held_before held_after (flat_map document_line js)

-- zero or more whole lines, each of a document, were written
abbrev pub AddsLines : Option (List ℕ) → Option (List ℕ) → Type 0
AddsLines held_before held_after = (js : List Json) × Appends held_before held_after (flat_map document_line js)

-- if the call failed with `Memory`, then P holds
abbrev pub OnMemory : {X : Type 0} → Result X Failure → Type 0 → Type 0
OnMemory (Ok x) P = Unit {0}
OnMemory (Err Memory) P = P
OnMemory (Err Writer) P = Unit {0}
