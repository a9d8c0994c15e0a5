-- The texts of errors that end an input.
use Rattle.std.specs.Prelude.{ℕ, ◌==◌, List, ◌++◌, codes, if◌then◌else◌}
use Rattle.std.specs.Fmt.{decimal}
use Rattle.link_capture.specs.declared.error.InputError.{InputError}
use Rattle.link_capture.specs.declared.error.InputError.TheVariants as errors
use Rattle.link_capture.specs.declared.error.Head.{Head}
use Rattle.link_capture.specs.declared.error.Head.TheVariants as heads
use Rattle.link_capture.specs.declared.error.Size.{Size}
use Rattle.link_capture.specs.declared.error.Size.TheVariants as sizes

abbrev pub head_text : Head → List ℕ
head_text heads.Pcap = codes ", too few for a pcap header"
head_text heads.Record = codes " left, too few for a record header"
head_text heads.Block = codes " left, too few for a block"
head_text heads.Message = codes " left, too few for a message header"

abbrev pub size_text : Size → List ℕ
size_text sizes.Record = codes "record length"
size_text sizes.Block = codes "block length"
size_text sizes.Section = codes "section block length"
size_text sizes.Interface = codes "interface block length"
size_text sizes.Packet = codes "packet block length"
size_text sizes.Captured = codes "captured length"
size_text sizes.Message = codes "nlmsg_len"

-- a number of bytes
abbrev pub bytes_text : ℕ → List ℕ
bytes_text n = if n == 1 then codes "1 byte" else decimal n ++ codes " bytes"

abbrev pub error_text : InputError → List ℕ
error_text (errors.Short head left) = bytes_text left ++ head_text head
error_text (errors.Small size n least) = size_text size ++ (codes " " ++ (decimal n ++ (codes " is below " ++ decimal least)))
error_text (errors.Large size n) = size_text size ++ (codes " " ++ (decimal n ++ codes " is above 1048576"))
error_text (errors.Overrun size n left) = size_text size ++ (codes " " ++ (decimal n ++ (codes " exceeds the " ++ (bytes_text left ++ codes " left"))))
error_text (errors.Odd n) = codes "block length " ++ (decimal n ++ codes " is not a multiple of 4")
error_text (errors.Unequal first last) = codes "block lengths " ++ (decimal first ++ (codes " and " ++ (decimal last ++ codes " differ")))
error_text errors.NoMagic = codes "no byte-order magic"
error_text (errors.PcapVersion major minor) = codes "pcap version " ++ (decimal major ++ (codes "." ++ (decimal minor ++ codes ", expected 2.4")))
error_text (errors.PcapngVersion major minor) = codes "pcapng version " ++ (decimal major ++ (codes "." ++ (decimal minor ++ codes ", expected 1.0")))
error_text (errors.LinkType n) = codes "link type " ++ (decimal n ++ codes ", expected 253")
error_text (errors.Unread kind) = codes "block type " ++ (decimal kind ++ codes " is not read")
error_text errors.Interfaces = codes "more than 256 interfaces"
error_text (errors.OptionOverrun code n left) = codes "option " ++ (decimal code ++ (codes " has " ++ (bytes_text n ++ (codes ", but " ++ (decimal left ++ codes " are left")))))
error_text (errors.ResolutionLength n) = codes "if_tsresol has " ++ (bytes_text n ++ codes ", expected 1")
error_text (errors.Resolution n) = codes "if_tsresol " ++ (decimal n ++ codes " is above 9")
error_text (errors.OffsetLength n) = codes "if_tsoffset has " ++ (bytes_text n ++ codes ", expected 8")
error_text (errors.Interface n) = codes "interface " ++ (decimal n ++ codes " is not described")
