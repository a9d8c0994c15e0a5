-- The lists of a message: that of its attributes, and those of other sets that attributes hold.
use Rattle.std.proofs.Common.{◌≡◌, ℕ, Bool, false, List, [], ◌∷◌, ◌++◌, map, Option, Some, None, sym, ap, ◌∙◌, append_assoc}
use Rattle.std.proofs.lemmas.List.{append-nil}
use Rattle.netlink_packet_route.specs.declared.family.Family.{Family}
use Rattle.netlink_packet_route.specs.declared.family.Family.TheVariants.{Link}
use Rattle.netlink_packet_route.specs.declared.opening.Context.{Context}
use Rattle.link_messages.specs.declared.buffer_parts.Part.{Part}
use Rattle.link_messages.specs.declared.header.LinkHeader.{LinkHeader}
use Rattle.link_messages.specs.declared.lists.ListsError.{ListsError}
use Rattle.link_messages.specs.declared.lists.ListsError.TheVariants as errors
use Rattle.link_messages.specs.Message.{Packet}
use Rattle.link_messages.specs.Finding.{Stretch}
use Rattle.link_messages.specs.Link.{part_of, attributes_of}
use Rattle.link_messages.specs.Header.{HasLinkHeader, HasNoLinkHeader}
use Rattle.link_messages.specs.Held.{context_of, levels}
use Rattle.link_messages.specs.Shown.{Display, Shows}

-- a list, and the set that reads it
abbrev pub Listed : Type 0
Listed = Family × Stretch

-- the list that an attribute holds, if another set reads it: those of nested lists are part of the list around them
abbrev pub held_list : Option Family → Stretch → List Listed
held_list None list = []
held_list (Some set) list = (set, list) ∷ []

-- of an attribute, the lists in it: the one that it holds, and behind it those in that. One that does not decode has none
abbrev pub lists_only : Display Listed
lists_only = record {
  omits = λ context family kind. false;
  error = λ level family at fault. [];
  leaf = λ context level family k b content lists. lists ≡ [];
  around = λ level h inner whole lists well. (lists ≡ held_list h.set h.list ++ inner) × (well ≡ whole);
}

-- a list of a set, and behind it the lists that its attributes hold, through n levels; an attribute that does not decode
-- changes nothing
abbrev pub HasLists : ℕ → Context → Family → Stretch → List Listed → Type 0
HasLists n context family list lists = (held : List Listed) × (whole : Bool) × Shows lists_only n context 0 family list held whole × (lists ≡ (family, list) ∷ held)

-- ---- a message

-- the lists of the message m at offset `at`, which is about a link
abbrev pub ListsMessage : ℕ → Packet → List Listed → Type 0
ListsMessage at m lists = (header : LinkHeader) × HasLinkHeader m header × HasLists levels (context_of header.family) Link (attributes_of at m) lists

-- why they were not returned
abbrev pub ListsFail : ℕ → Packet → ListsError → Type 0
ListsFail at m (errors.Memory e) = (header : LinkHeader) × HasLinkHeader m header
ListsFail at m (errors.Message error) = HasNoLinkHeader at m error

-- ---- what is appended

abbrev pub Appends : List Part → List Part → List Listed → Type 0
Appends old new lists = map part_of new ≡ map part_of old ++ lists

pub appends_none : (a : List Part) → Appends a a []
appends_none a = sym (append-nil (map part_of a))

pub appends_both : (a b c : List Part) (s t : List Listed) → Appends a b s → Appends b c t → Appends a c (s ++ t)
appends_both a b c s t first last = last ∙ ap (λ z. z ++ t) first ∙ append_assoc (map part_of a) s t
