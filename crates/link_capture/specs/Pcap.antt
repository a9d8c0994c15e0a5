-- The units of a pcap file.
use Rattle.std.specs.Prelude.{ℕ, ◌+◌, ◌*◌, ◌-◌, ◌%◌, ◌^◌, ◌==◌, ◌&&◌, pos, List, drop, Result, Ok, Err, if◌then◌else◌}
use Rattle.link_capture.specs.declared.error.InputError.{InputError}
use Rattle.link_capture.specs.declared.error.InputError.TheVariants as errors
use Rattle.link_capture.specs.declared.form.Form.{Form}
use Rattle.link_capture.specs.declared.form.Form.TheVariants.{Records}
use Rattle.link_capture.specs.declared.order.Order.{Order}
use Rattle.link_capture.specs.Order.{number_at}
use Rattle.link_capture.specs.Meaning.{UnitMeaning, APacket}

-- the link type of netlink (LINKTYPE_NETLINK)
abbrev pub netlink : ℕ
netlink = 253

-- the link type in a header: the lower 26 bits of its field. Bit 26 says that the length of the frame check sequence of packets
-- is known, and bits 28 to 31 have that length
abbrev pub link_type_of : Order → List ℕ → ℕ
link_type_of order u = number_at order 4 20 u % 2 ^ 26

-- the form of what follows a header: version 2.4, and the link type of netlink
abbrev pub form_after : Order → ℕ → List ℕ → Result Form InputError
form_after order digits u =
    let major = number_at order 2 4 u in
    let minor = number_at order 2 6 u in
    let link = link_type_of order u in
    if (major == 2) && (minor == 4) then (if link == netlink then Ok (Records order digits) else Err (errors.LinkType link))
    else Err (errors.PcapVersion major minor)

-- seconds and parts of a second, of which 10 to the power of `digits` are one, in nanoseconds
abbrev pub nanoseconds : ℕ → ℕ → ℕ → ℕ
nanoseconds digits seconds parts = seconds * 10 ^ 9 + parts * 10 ^ (9 - digits)

-- the packet of a record
abbrev pub recorded : Order → ℕ → List ℕ → UnitMeaning
recorded order digits u = APacket (record {
  time = record { nanosecond = pos (nanoseconds digits (number_at order 4 0 u) (number_at order 4 4 u)); digits = digits };
  original = number_at order 4 12 u;
  link_type = netlink;
  bytes = drop 16 u;
})
