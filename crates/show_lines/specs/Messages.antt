-- The output for messages, and for the lists in them.
use Rattle.std.specs.Prelude.{◌≡◌, ℕ, ℤ, Bool, true, false, ◌&&◌, List, [], ◌∷◌, ◌++◌, drop, None, Ok, Err, codes}
use Rattle.std.specs.Fmt.{decimal, signed_decimal}
use Rattle.netlink_packet_route.specs.declared.family.Family.{Family}
use Rattle.netlink_packet_route.specs.Family.{family_name, table_of}
use Rattle.netlink_packet_route.specs.Report.{line}
use Rattle.link_messages.specs.declared.buffer_parts.Message.{Message}
use Rattle.link_messages.specs.declared.header.LinkHeader.{LinkHeader}
use Rattle.link_messages.specs.declared.message.MessageError.{MessageError}
use Rattle.link_messages.specs.Message.{NextMessage, Stand, packet_of, error_text}
use Rattle.link_messages.specs.Finding.{Stretch}
use Rattle.link_messages.specs.Header.{HasLinkHeader, HasNoLinkHeader}
use Rattle.link_messages.specs.Held.{context_of, levels}
use Rattle.link_messages.specs.Lists.{Listed, HasLists, ListsMessage}
use Rattle.show_lines.specs.List.{ShowsList}
use Rattle.link_show.specs.List.{EachShown}

-- ---- lines

abbrev pub error_line : MessageError → List ℕ
error_line error = line (codes "  " ++ error_text error)

-- the index of a link
abbrev pub index_line : ℤ → List ℕ
index_line index = line (codes "  ifindex " ++ signed_decimal index)

-- the line before a list: the name of the attribute set, and the offset
abbrev pub part_line : List ℕ → Listed → List ℕ
part_line indent x = line (indent ++ (family_name x.0 ++ (codes " at " ++ decimal x.1.0)))

-- ---- lists

-- the output for a list, and whether it decodes
abbrev pub ShowsPart : List ℕ → Listed → List ℕ → Bool → Type 0
ShowsPart indent x out read = (below : List ℕ) × ShowsList indent x.1.0 (table_of x.0) x.1.1 below read × (out ≡ part_line indent x ++ below)

-- that for several, and whether all decode
abbrev pub ShowsParts : List ℕ → List Listed → List ℕ → Bool → Type 0
ShowsParts indent = EachShown (ShowsPart indent)

-- that for a list, and behind it that for the lists that its attributes hold
pub record ShowsLists (family : Family) (list : Stretch) (out : List ℕ) (whole : Bool) : Type 0 where
  pub held : List Listed
  pub lists : HasLists levels (context_of 0) family list ((family, list) ∷ held)
  pub own : List ℕ
  pub own_read : Bool
  pub is_own : ShowsList [] list.0 (table_of family) list.1 own own_read
  pub others : List ℕ
  pub others_read : Bool
  pub are_others : ShowsParts [] held others others_read
  pub joined : out ≡ own ++ others
  pub all : whole ≡ (own_read && others_read)

-- ---- a message

-- the output for a message, and whether it and its lists decode
pub data ShowsMessage (m : Message) (out : List ℕ) (read : Bool) : Type 0 where
  About : (header : LinkHeader) → HasLinkHeader (packet_of m) header → (lists : List Listed) → ListsMessage m.at (packet_of m) lists → (below : List ℕ) → ShowsParts (codes "  ") lists below read
      → out ≡ index_line header.index ++ below → ShowsMessage m out read
  AboutNone : (error : MessageError) → HasNoLinkHeader m.at (packet_of m) error → out ≡ error_line error → read ≡ false → ShowsMessage m out read

-- ---- a buffer

-- the output at the end of the messages: none, or the error of the bytes that are left
pub data ShowsEnd (s : List ℕ) (at : ℕ) (out : List ℕ) (read : Bool) : Type 0 where
  Ended : NextMessage at (drop at s) (Ok None) → out ≡ [] → read ≡ true → ShowsEnd s at out read
  Broken : (error : MessageError) → NextMessage at (drop at s) (Err error) → out ≡ error_line error → read ≡ false → ShowsEnd s at out read

-- the output for the messages of a buffer, and whether all of them and all of their lists decode
pub record ShowsMessages (s out : List ℕ) (whole : Bool) : Type 0 where
  pub messages : List Message
  pub end : ℕ
  pub stand : Stand s 0 messages end
  pub front : List ℕ
  pub front_read : Bool
  pub each : EachShown ShowsMessage messages front front_read
  pub last : List ℕ
  pub last_read : Bool
  pub at_end : ShowsEnd s end last last_read
  pub joined : out ≡ front ++ last
  pub all : whole ≡ (front_read && last_read)
