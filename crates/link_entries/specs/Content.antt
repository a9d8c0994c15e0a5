-- The fields of an entry, by the content of its attribute.
use Rattle.std.specs.Prelude.{ℕ, ◌-◌, List, take, drop, reverse, length, min, nat_lt, if◌then◌else◌}
use Rattle.std.specs.Int.{w64, cast_unsigned}
use Rattle.link_base.specs.declared.rows.form.Layout.{Layout}
use Rattle.link_base.specs.declared.rows.form.Layout.TheVariants as layouts
use Rattle.link_base.specs.declared.views.content.Content.{Content}
use Rattle.link_base.specs.declared.views.content.Content.TheVariants as contents
use Rattle.link_base.specs.Number.{number, four_bytes}
use Rattle.link_base.specs.Frame.{kind_of}
use Rattle.link_base.specs.Class.{is_on}
use Rattle.link_base.specs.Layout.{number_at}
use Rattle.link_base.specs.IpAddress.{four_octets, sixteen_octets}
use Rattle.link_base.specs.Protocol.{protocol_number}
use Rattle.link_entries.specs.declared.entry.Entry.{Entry}
use Rattle.link_entries.specs.Forms.{form_empty, form_bool, form_unsigned, form_signed, form_named, form_flags, form_masked, form_mac, form_ipv4, form_ipv6, form_bridge_id, form_vlan_info, form_qos_mapping, form_berr_counter, form_bittiming, form_bittiming_const, form_bytes, form_list, form_unknown}
use Rattle.link_entries.specs.Entry.{padded}
use Rattle.link_entries.specs.Fields.{role_form, look_form}

-- an entry for bytes of which a struct takes the first n; one for the bytes, if they are fewer
abbrev pub whole : ℕ → List ℕ → Entry → Entry → Entry
whole n p full e = if nat_lt (length p) n then record e { form = form_bytes } else record full { length = n }

-- an entry for a struct with these bytes; one for the bytes, if they are too few, or if the struct has no form of its own
abbrev pub with_struct : Layout → List ℕ → Entry → Entry
with_struct layouts.BridgeId p e = whole 8 p (record e { form = form_bridge_id; number = number (reverse (take 2 p)); octets = padded (take 6 (drop 2 p)) }) e
with_struct layouts.VlanInfo p e = whole 4 p (record e { form = form_vlan_info; number = number_at 2 2 p; second = number_at 2 0 p }) e
with_struct layouts.BooleanOptions p e = whole 8 p (record e { form = form_masked; number = number_at 4 0 p; second = number_at 4 4 p }) e
with_struct layouts.BitTiming p e = whole 32 p (record e { form = form_bittiming }) e
with_struct layouts.Clock p e = whole 4 p (record e { form = form_unsigned; number = number_at 4 0 p }) e
with_struct layouts.CtrlMode p e = whole 8 p (record e { form = form_masked; number = number_at 4 4 p; second = number_at 4 0 p }) e
with_struct layouts.BerrCounter p e = whole 4 p (record e { form = form_berr_counter; number = number_at 2 0 p; second = number_at 2 2 p }) e
with_struct layout p e = record e { form = form_bytes; length = min e.length (length p) }

-- an entry for the content of an attribute with this `nla_type`; of a list, n elements follow
abbrev pub filled : ℕ → Content → ℕ → Entry → Entry
filled f contents.Nothing n e = record e { form = form_empty; length = 0 }
filled f (contents.Bool b) n e = record e { form = form_bool; number = (if b then 1 else 0) }
filled f (contents.FlagOrBool flag) n e = record e { form = form_bool; number = (if is_on flag then 1 else 0) }
filled f (contents.Number x width order role) n e = record e { form = role_form role; number = x }
filled f (contents.Signed z) n e = record e { form = form_signed; number = cast_unsigned w64 z }
filled f (contents.LowFlags bits) n e = record e { form = form_flags; number = bits }
filled f (contents.MaskedFlags bits mask) n e = record e { form = form_masked; number = four_bytes bits; second = four_bytes mask }
filled f (contents.Pair from to) n e = record e { form = form_qos_mapping; number = four_bytes from; second = four_bytes to }
filled f (contents.Protocol p) n e = record e { form = form_named; number = protocol_number p }
filled f (contents.Mac a) n e = record e { form = form_mac; octets = padded a }
filled f (contents.Ipv4 a) n e = record e { form = form_ipv4; octets = padded (four_octets a) }
filled f (contents.Ipv6 a) n e = record e { form = form_ipv6; octets = padded (sixteen_octets a) }
filled f (contents.Bytes look p) n e = record e { form = look_form look }
filled f (contents.Struct layout p) n e = with_struct layout p.now e
filled f (contents.Numbers a p) n e = record e { form = form_list; number = n }
filled f (contents.Limits name numbers) n e = record e { form = form_bittiming_const; length = 48 }
filled f (contents.Addresses list size) n e = record e { form = form_list; number = n }
filled f (contents.List list flagged) n e = record e { form = form_list; number = n }
filled f (contents.Other p) n e = record e { form = form_unknown; flags = f - kind_of f }
