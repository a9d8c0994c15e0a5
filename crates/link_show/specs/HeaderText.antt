-- The fields of the header of a link.
use Rattle.std.specs.Prelude.{ℕ, ◌==◌, List, [], ◌++◌, Option, Some, None, codes, if◌then◌else◌}
use Rattle.std.specs.Fmt.{decimal, signed_decimal}
use Rattle.link_base.specs.Labels.{name_in}
use Rattle.link_messages.specs.declared.header.LinkHeader.{LinkHeader}
use Rattle.link_show.specs.Flags.{flags_text}
use Rattle.link_show.specs.Structs.{field}
use Rattle.link_show.specs.MessageNames.{address_families, device_types, device_flags}

-- the name of a number, or the number after a word
abbrev pub named_or : List ℕ → Option (List ℕ) → ℕ → List ℕ
named_or word None n = word ++ decimal n
named_or word (Some name) n = name

-- a field after a space, unless the number is 0
abbrev pub unless_zero : ℕ → List ℕ → List ℕ → List ℕ
unless_zero n name text = if n == 0 then [] else codes " " ++ field name text

abbrev pub header_parts : LinkHeader → List ℕ
header_parts h =
    unless_zero h.family (codes "family") (named_or [] (name_in address_families h.family) h.family)
    ++ (unless_zero h.kind (codes "type") (named_or [] (name_in device_types h.kind) h.kind)
    ++ (unless_zero h.flags (codes "flags") (flags_text device_flags 4 h.flags)
    ++ unless_zero h.change (codes "change") (flags_text device_flags 4 h.change)))

-- the header of a peer after the name of the attribute, if it is a peer
abbrev pub peer_text : Option LinkHeader → List ℕ
peer_text None = []
peer_text (Some h) = codes " ifindex " ++ (signed_decimal h.index ++ header_parts h)
