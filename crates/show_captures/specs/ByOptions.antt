-- What is written for an input by options, in the plain or the debug form.
use Rattle.std.specs.Prelude.{◌≡◌, ℕ, List, ◌++◌, codes}
use Rattle.std.specs.Fmt.{decimal}
use Rattle.link_capture.specs.declared.error.InputError.{InputError}
use Rattle.link_capture.specs.declared.event.Time.{Time}
use Rattle.link_capture.specs.declared.other_format.OtherFormat.{OtherFormat}
use Rattle.link_capture.specs.ErrorText.{error_text}
use Rattle.link_capture.specs.OtherFormat.{format_text}
use Rattle.netlink_packet_route.specs.Report.{line}
use Rattle.show_lines.specs.declared.arguments.Options.{Options}
use Rattle.show_lines.specs.Show.{ShowsBare, refused_by_options, answered_by_options}
use Rattle.show_captures.specs.Packet.{ShowsPacket}
use Rattle.show_captures.specs.Shower.{UnitShower, InputShower, shower_of}
use Rattle.show_captures.specs.Time.{IsTimeText}

-- the line of a time
abbrev pub ShowsTime : Time → List ℕ → Type 0
ShowsTime time out = (text : List ℕ) × IsTimeText time text × (out ≡ line (codes "time " ++ text))

-- the line of an error that ends an input at an offset
abbrev pub error_line : ℕ → InputError → List ℕ
error_line at error = codes "input error at " ++ (decimal at ++ (codes ": " ++ line (error_text error)))

-- the line of a file in another format
abbrev pub format_line : OtherFormat → List ℕ
format_line format = line (format_text format)

abbrev pub units_by_options : Options → UnitShower
units_by_options options = record { packets = ShowsPacket options; messages = ShowsBare options; times = ShowsTime; errors = error_line; formats = format_line }

abbrev pub by_options : Options → InputShower
by_options = shower_of refused_by_options answered_by_options units_by_options
