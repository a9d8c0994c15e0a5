-- The units of a raw stream: messages, and times that `rtmon` writes before them.
use Rattle.std.specs.Prelude.{ℕ, ◌==◌, ◌&&◌, pos, List, length, if◌then◌else◌}
use Rattle.link_capture.specs.declared.order.Order.TheVariants.{Little}
use Rattle.link_capture.specs.Order.{number_at}
use Rattle.link_capture.specs.Pcap.{nanoseconds}
use Rattle.link_capture.specs.Meaning.{UnitMeaning, AMessage, ATime}

-- a time: type 15, and 24 bytes; after the header, seconds and microseconds
abbrev pub streamed : List ℕ → UnitMeaning
streamed u =
    if (number_at Little 2 4 u == 15) && (length u == 24)
    then ATime (record { nanosecond = pos (nanoseconds 6 (number_at Little 4 16 u) (number_at Little 4 20 u)); digits = 6 })
    else AMessage u
