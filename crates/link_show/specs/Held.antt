-- The lines of lists whose attributes hold lists of other sets.
use Rattle.std.specs.Prelude.{◌≡◌, ℕ, ◌+◌, ◌*◌, Bool, true, false, not, ◌==◌, ◌&&◌, List, [], ◌∷◌, ◌++◌, length, replicate, Option, Some, None, codes, if◌then◌else◌}
use Rattle.std.specs.List.{list_all}
use Rattle.link_base.specs.declared.wire.buffer.NlaBuffer.{NlaBuffer}
use Rattle.link_base.specs.declared.views.content.Content.{Content}
use Rattle.link_base.specs.Frame.{kind_of}
use Rattle.link_base.specs.Buffer.{kind_field_of, payload_of}
use Rattle.link_base.specs.Class.{is_listed}
use Rattle.link_base.specs.Number.{number}
use Rattle.link_base.specs.Table.{Label, label_at}
use Rattle.netlink_packet_route.specs.declared.family.Family.{Family}
use Rattle.netlink_packet_route.specs.declared.family.Family.TheVariants.{Link, BridgePort}
use Rattle.netlink_packet_route.specs.declared.opening.Context.{Context}
use Rattle.netlink_packet_route.specs.Family.{Holding, Within, family_name, family_number, holders_of, table_of}
use Rattle.link_messages.specs.Finding.{Stretch}
use Rattle.link_messages.specs.Held.{levels}
use Rattle.link_messages.specs.Shown.{Nest, Display, Shows, rows_in}
use Rattle.link_show.specs.declared.line_options.LineOptions.{LineOptions}
use Rattle.link_show.specs.Sink.{Output, Gains}
use Rattle.link_show.specs.Fault.{fault_text}
use Rattle.link_show.specs.Flags.{enum_text}
use Rattle.link_show.specs.Structs.{field}
use Rattle.link_show.specs.HeaderText.{peer_text}
use Rattle.link_show.specs.List.{indented, error_line, label_for, ShowsFlat, ShowsVerdict}

-- ---- a held list

-- a holder is another thing than an attribute in lists of this set
abbrev pub selects : Family → Holding → Bool
selects family (Within set kind) = not (family_number set == family_number family)
selects family holding = true

-- a kind, or the address family of the message, selects the set for a list in an attribute of `family`, and not the attribute
-- alone
abbrev pub is_selected : Family → Family → Bool
is_selected family set = list_all (selects family) (holders_of set)

-- the name of the set in parentheses, if the attribute alone does not select it
abbrev pub set_text : Family → Option Family → List ℕ
set_text family None = []
set_text family (Some set) = if is_selected family set then codes " (" ++ (family_name set ++ codes ")") else []

-- the name of an attribute that holds a list; one without a row is an IFLA_PROTINFO
abbrev pub nest_text : Option Label → List ℕ
nest_text None = codes "IFLA_PROTINFO"
nest_text (Some label) = label.name

abbrev pub empty_mark : List ℕ → List ℕ
empty_mark [] = codes " (empty)"
empty_mark (b ∷ list) = []

-- what is above the lines of a list that an attribute holds
abbrev pub title_text : Nest → List ℕ
title_text h = nest_text h.label ++ (set_text h.family h.set ++ (peer_text h.header ++ empty_mark h.list.1))

-- ---- IFLA_PROTINFO

-- the names of what is known of an attribute type
abbrev names_in : Option Label → List (ℕ × List ℕ)
names_in None = []
names_in (Some label) = label.names

-- the names of the STP states of bridge ports: those of IFLA_BRPORT_STATE
unfoldable pub state_names : List (ℕ × List ℕ)
state_names = names_in (label_at (table_of BridgePort) 1)

-- in a message of AF_BRIDGE (7), an IFLA_PROTINFO (12) of one byte is the STP state of a port, unless it is opened as a list
abbrev pub is_state : Context → Family → Option ℕ → NlaBuffer → Bool
is_state x Link None b = x.address_family == 7 && (kind_of (kind_field_of b) == 12 && length (payload_of b) == 1)
is_state x family list b = false

abbrev pub state_line : List ℕ → List ℕ → List ℕ
state_line indent p = indented indent (field (codes "IFLA_PROTINFO") (enum_text state_names (number p)))

-- the line of an attribute that is no list
abbrev pub shows_leaf : Bool → List ℕ → Option Label → NlaBuffer → Content → List ℕ → Type 0
shows_leaf true indent label b content out = out ≡ state_line indent (payload_of b)
shows_leaf false indent label b content out = ShowsFlat indent label (kind_field_of b) content out

-- it was written
abbrev pub WritesLeaf : Bool → List ℕ → Option Label → NlaBuffer → Content → Output → Output → Type 0
WritesLeaf state indent label b content old new = (out : List ℕ) × shows_leaf state indent label b content out × Gains old new out

-- ---- attributes that are left out

-- the types of the attributes of a message that are shown if only the most important are: IFLA_ADDRESS (1), IFLA_MTU (4),
-- IFLA_LINK (5), IFLA_MASTER (10), IFLA_OPERSTATE (16), IFLA_LINKINFO (18); in messages of AF_BRIDGE (7) also IFLA_PROTINFO (12)
-- and IFLA_AF_SPEC (26)
abbrev pub brief_types : ℕ → List ℕ
brief_types address_family =
    if address_family == 7 then 1 ∷ 4 ∷ 5 ∷ 10 ∷ 12 ∷ 16 ∷ 18 ∷ 26 ∷ []
    else 1 ∷ 4 ∷ 5 ∷ 10 ∷ 16 ∷ 18 ∷ []

-- the options leave an attribute of this type out
abbrev pub is_left_out : LineOptions → Context → Family → ℕ → Bool
is_left_out o x Link kind = o.brief && not (is_listed (brief_types x.address_family) kind)
is_left_out o x family kind = false

-- ---- lists

-- the indent of the lines of attributes that are in this many lists
abbrev pub indent_in : List ℕ → ℕ → List ℕ
indent_in indent level = indent ++ replicate (2 * level) 32

-- whether a list that another set reads is canonical, if `check` asks
abbrev pub ShowsJudgement : Bool → List ℕ → Option Family → Stretch → List ℕ → Bool → Type 0
ShowsJudgement check indent None list out well = (out ≡ []) × (well ≡ true)
ShowsJudgement check indent (Some set) list out well = ShowsVerdict check indent list.0 (table_of set) list.1 out well

-- a title, and below it what is shown of the list, and whether that is canonical
abbrev pub ShowsAround : LineOptions → List ℕ → ℕ → Nest → List ℕ → Bool → List ℕ → Bool → Type 0
ShowsAround o indent level h inner whole out well =
    (verdict : List ℕ) × (sound : Bool) × ShowsJudgement o.check (indent_in indent (level + 1)) h.set h.list verdict sound
    × (out ≡ indented (indent_in indent level) (title_text h) ++ (inner ++ verdict)) × (well ≡ (whole && sound))

-- lines that start with an indent, and those below others with two spaces more
abbrev pub line_display : LineOptions → List ℕ → Display ℕ
line_display o indent = record {
  omits = is_left_out o;
  error = λ level family at fault. error_line (indent_in indent level) at (fault_text (table_of family) fault);
  leaf = λ context level family k b content out. shows_leaf (is_state context family k b) (indent_in indent level) (label_for (rows_in family k) b) b content out;
  around = ShowsAround o indent;
}

-- what is shown for a list of a set: the context, the indent, the offset and the bytes, the lines, and whether none is an error
abbrev pub LineShower : Type 1
LineShower = Context → List ℕ → ℕ → Family → List ℕ → List ℕ → Bool → Type 0

-- the lines of a list of a set; those of the lists that its attributes hold are below them, through n levels
abbrev pub ShowsSet : LineOptions → ℕ → LineShower
ShowsSet o n context indent base family list = Shows (line_display o indent) n context 0 family (base, list)

-- the lines of a list, and, if the options ask, whether it and the lists in it are canonical
abbrev pub ShowsChecked : LineOptions → LineShower
ShowsChecked o context indent base family list out well =
    (lines : List ℕ) × (whole : Bool) × ShowsSet o levels context indent base family list lines whole
    × (verdict : List ℕ) × (sound : Bool) × ShowsVerdict o.check indent base (table_of family) list verdict sound × (out ≡ lines ++ verdict) × (well ≡ (whole && sound))
