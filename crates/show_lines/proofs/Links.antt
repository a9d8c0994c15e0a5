-- Lists and messages, shown one after another.
use Rattle.std.proofs.Common.{◌≡◌, ℕ, zero, suc, Bool, true, ◌&&◌, List, [], ◌∷◌, ◌++◌, map, drop, refl, sym, ap, subst, ◌∙◌, append_assoc}
use Rattle.std.proofs.lemmas.List.{append-nil}
use Rattle.netlink_packet_route.specs.declared.family.Family.{Family}
use Rattle.netlink_packet_route.specs.declared.opening.Context.{Context}
use Rattle.netlink_packet_route.specs.Family.{table_of}
use Rattle.link_messages.specs.declared.buffer_parts.Message.{Message}
use Rattle.link_messages.specs.declared.buffer_parts.Part.{Part}
use Rattle.link_messages.specs.Message.{Stand}
use Rattle.link_messages.specs.Finding.{Stretch}
use Rattle.link_messages.specs.Held.{context_of, levels}
use Rattle.link_messages.specs.Link.{part_of}
use Rattle.link_messages.specs.Lists.{Listed, HasLists}
use Rattle.link_show.specs.List.{EachShown}
use Rattle.link_show.proofs.Listing.{each_none, each_more}
use Rattle.show_lines.specs.List.{Adds, ShowsList}
use Rattle.show_lines.specs.Messages.{ShowsPart, ShowsParts, ShowsLists, ShowsMessage, ShowsMessages, ShowsEnd}

-- ---- lists

pub parts_none : (indent t : List ℕ) → Adds (ShowsParts indent []) t t true
parts_none indent t = ([], each_none (ShowsPart indent), sym (append-nil t))

-- one list more
pub parts_more : (indent : List ℕ) (xs : List Listed) (x : Listed) (t u v : List ℕ) (whole read : Bool) → Adds (ShowsParts indent xs) t u whole → Adds (ShowsPart indent x) u v read
    → Adds (ShowsParts indent (xs ++ x ∷ [])) t v (whole && read)
parts_more indent xs x t u v whole read h k =
    (h.0 ++ k.0, each_more (ShowsPart indent) xs h.0 x k.0 whole read h.1 k.1, k.2 ∙ ap (λ y. y ++ k.0) h.2 ∙ append_assoc t h.0 k.0)

-- the first of the lists that are found is the list itself
own_first : (family : Family) (list : Stretch) (held lists : List Listed) → lists ≡ (family, list) ∷ held → lists ≡ (family, list) ∷ drop 1 lists
own_first family list held lists e = e ∙ ap (λ t. (family, list) ∷ t) (sym (ap (drop 1) e))

pub own_list_first : (n : ℕ) (context : Context) (family : Family) (list : Stretch) (lists : List Listed) → HasLists n context family list lists → lists ≡ (family, list) ∷ drop 1 lists
own_list_first n context family list lists (held, whole, h, e) = own_first family list held lists e

drop-map : (parts : List Part) → drop 1 (map part_of parts) ≡ map part_of (drop 1 parts)
drop-map [] = refl
drop-map (p ∷ parts) = refl

-- a list, and the lists that its attributes hold
pub lists_shown : (family : Family) (list : Stretch) (parts : List Part) (t u v : List ℕ) (whole read : Bool) → HasLists levels (context_of 0) family list (map part_of parts)
    → Adds (ShowsList [] list.0 (table_of family) list.1) t u whole → Adds (ShowsParts [] (map part_of (drop 1 parts))) u v read → Adds (ShowsLists family list) t v (whole && read)
lists_shown family list parts t u v whole read has h k =
    let first : map part_of parts ≡ (family, list) ∷ map part_of (drop 1 parts) =
    own_list_first levels (context_of 0) family list (map part_of parts) has ∙ ap (λ z. (family, list) ∷ z) (drop-map parts) in (
      h.0 ++ k.0,
      record {
        held = map part_of (drop 1 parts);
        lists = subst (HasLists levels (context_of 0) family list) first has;
        own = h.0;
        own_read = whole;
        is_own = h.1;
        others = k.0;
        others_read = read;
        are_others = k.1;
        joined = refl;
        all = refl;
      },
      k.2 ∙ ap (λ y. y ++ k.0) h.2 ∙ append_assoc t h.0 k.0,
    )

-- ---- messages

-- the messages of a buffer up to an offset were shown
pub record ShownTo (s : List ℕ) (at : ℕ) (out : List ℕ) (whole : Bool) : Type 0 where
  pub messages : List Message
  pub stand : Stand s 0 messages at
  pub each : EachShown ShowsMessage messages out whole

pub none_shown : (s : List ℕ) (t : List ℕ) → Adds (ShownTo s 0) t t true
none_shown s t = ([], record { messages = []; stand = refl; each = each_none ShowsMessage }, sym (append-nil t))

-- one message more
pub one_shown : (s : List ℕ) (at : ℕ) (m : Message) (t u v : List ℕ) (whole read : Bool) → ((ms : List Message) → Stand s 0 ms at → Stand s 0 (ms ++ m ∷ []) m.next) → Adds (ShownTo s at) t u whole → Adds (ShowsMessage m) u v read
    → Adds (ShownTo s m.next) t v (whole && read)
one_shown s at m t u v whole read more h k = (
  h.0 ++ k.0,
  record { messages = h.1.messages ++ m ∷ []; stand = more h.1.messages h.1.stand; each = each_more ShowsMessage h.1.messages h.0 m k.0 whole read h.1.each k.1 },
  k.2 ∙ ap (λ x. x ++ k.0) h.2 ∙ append_assoc t h.0 k.0,
)

-- the end of the buffer, or a bad header
pub all_shown : (s : List ℕ) (at : ℕ) (t u v last : List ℕ) (whole read all : Bool) → Adds (ShownTo s at) t u whole → ShowsEnd s at last read → v ≡ u ++ last → all ≡ (whole && read) → Adds (ShowsMessages s) t v all
all_shown s at t u v last whole read all h end e both = (
  h.0 ++ last,
  record { messages = h.1.messages; end = at; stand = h.1.stand; front = h.0; front_read = whole; each = h.1.each; last = last; last_read = read; at_end = end; joined = refl; all = both },
  e ∙ ap (λ x. x ++ last) h.2 ∙ append_assoc t h.0 last,
)
