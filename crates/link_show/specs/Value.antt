-- The text of a value, by the form of its content.
use Rattle.std.specs.Prelude.{Option, Some, None, ◌≡◌, ℕ, ◌==◌, ◌&&◌, ◌||◌, Bool, true, false, List, [], ◌∷◌, ◌++◌, length, codes, if◌then◌else◌}
use Rattle.link_show.specs.Sink.{Output, Gains}
use Rattle.std.specs.Fmt.{signed_decimal}
use Rattle.std.specs.Net.Addr.{ipv4_octets}
use Rattle.std.specs.Net.Text.{ipv4_text}
use Rattle.link_base.specs.declared.views.content.Content.{Content}
use Rattle.link_base.specs.declared.views.content.Content.TheVariants as contents
use Rattle.link_base.specs.declared.rows.form.Look.TheVariants as looks
use Rattle.link_base.specs.declared.rows.label.Quantity.{Quantity}
use Rattle.link_base.specs.declared.rows.label.Quantity.TheVariants as quantities
use Rattle.link_base.specs.Number.{number}
use Rattle.link_base.specs.declared.names.vlan_protocol.VlanProtocol.{VlanProtocol}
use Rattle.link_base.specs.Class.{is_on}
use Rattle.link_base.specs.Frame.{kind_of}
use Rattle.link_base.specs.Forms.{size_in}
use Rattle.link_base.specs.Table.{Label, Table, class_at, form_at, label_at}
use Rattle.link_base.specs.Borrowed.{Borrows, form_of}
use Rattle.link_base.specs.IpAddress.{sixteen_octets}
use Rattle.link_base.specs.Layout.{numbers_of, octets_of}
use Rattle.link_base.specs.Named.{text_of}
use Rattle.link_base.specs.Protocol.{vlan_protocols, protocol_number}
use Rattle.link_show.specs.Text.{hex_number, empty_text}
use Rattle.link_show.specs.Number.{beside, number_text}
use Rattle.link_show.specs.Counters.{numbers_text}
use Rattle.link_show.specs.Fault.{opaque_text}
use Rattle.link_show.specs.Flags.{flags_text}
use Rattle.link_show.specs.Octets.{address_text, hex_text, ip6_text}
use Rattle.netlink_packet_route.specs.Opening.{without_nul}
use Rattle.link_show.specs.Quoted.{quoted}
use Rattle.link_show.specs.Structs.{role_text, fields_text, struct_text, pair_fields, limits_text, masked_fields}

-- a VLAN protocol
abbrev pub protocol_text : VlanProtocol → List ℕ
protocol_text p = beside (text_of vlan_protocols.labels (protocol_number p)) (hex_number (protocol_number p))

-- the payload of an attribute whose type has no row
abbrev pub other_text : List ℕ → List ℕ
other_text [] = empty_text
other_text (b ∷ p) = codes "hex " ++ hex_text (b ∷ p)

-- whether a number counts something
abbrev pub counts : Quantity → Bool
counts quantities.Number = false
counts quantity = true

-- the number in bytes, if it counts something: they are 4, or 8
abbrev pub counted_in : Quantity → List ℕ → Option ℕ
counted_in quantity p =
    if counts quantity && (length p == 4 || length p == 8) then Some (number p)
    else None

-- bytes: such a number, or an address
abbrev pub number_or_address : Quantity → Option ℕ → List ℕ → List ℕ
number_or_address quantity None p = address_text p
number_or_address quantity (Some n) p = number_text quantity n

-- the text of a content, but for lists, which have none
abbrev pub content_text : Label → Content → List ℕ
content_text label contents.Nothing = []
content_text label (contents.Bool b) = if b then codes "on" else codes "off"
content_text label (contents.FlagOrBool flag) = if is_on flag then codes "on" else codes "off"
content_text label (contents.Number n width order role) = role_text label.names label.quantity role width n
content_text label (contents.Signed z) = signed_decimal z
content_text label (contents.LowFlags bits) = flags_text label.names 1 bits
content_text label (contents.MaskedFlags flags mask) = fields_text masked_fields 0 label.names (octets_of 4 (flags ∷ mask ∷ []))
content_text label (contents.Pair from to) = fields_text pair_fields 0 [] (octets_of 4 (from ∷ to ∷ []))
content_text label (contents.Protocol p) = protocol_text p
content_text label (contents.Mac a) = address_text a
content_text label (contents.Ipv4 a) = ipv4_text (ipv4_octets a)
content_text label (contents.Ipv6 a) = ip6_text (sixteen_octets a)
content_text label (contents.Bytes looks.Address p) = number_or_address label.quantity (counted_in label.quantity p.now) p.now
content_text label (contents.Bytes looks.Text p) = quoted (without_nul p.now)
content_text label (contents.Bytes looks.Held p) = opaque_text (length p.now)
content_text label (contents.Bytes looks.Peer p) = opaque_text (length p.now)
content_text label (contents.Struct layout p) = struct_text layout label.fields label.names p.now
content_text label (contents.Numbers a p) = numbers_text label.names label.quantity a (numbers_of (size_in a) p.now)
content_text label (contents.Limits name numbers) = limits_text name.now numbers.now
content_text label (contents.Addresses list size) = []
content_text label (contents.List list flagged) = []
content_text label (contents.Other p) = other_text p.now

-- the text of an attribute with this content, by what is known of its type
abbrev pub value_text : Option Label → Content → List ℕ
value_text None (contents.Other p) = other_text p.now
value_text None content = []
value_text (Some label) content = content_text label content

-- the text of the attribute f of this table, with its payload p, was written
abbrev pub WritesValue : Table → ℕ → List ℕ → Output → Output → Type 0
WritesValue table f p old new =
    (content : Content) × Borrows (class_at table (kind_of f)) p content × (form_of content ≡ form_at table (kind_of f))
    × Gains old new (value_text (label_at table (kind_of f)) content)
