-- The texts of formats that are not read.
use Rattle.std.specs.Prelude.{ℕ, List, ◌++◌, codes}
use Rattle.link_capture.specs.declared.other_format.OtherFormat.{OtherFormat}
use Rattle.link_capture.specs.declared.other_format.OtherFormat.TheVariants.{Gzip, Xz, Zstd, Bzip2, Lz4, ModifiedPcap, Snoop, Messages}

-- compressed data, and the program that decompresses them
abbrev pub compressed_text : List ℕ → List ℕ → List ℕ
compressed_text name program = name ++ (codes " data: decompress it first, as in " ++ (program ++ codes " FILE | nlshow"))

-- a capture, which `editcap` converts
abbrev pub converted_text : List ℕ → List ℕ
converted_text name = name ++ codes " file: convert it first, as in editcap -F pcapng FILE - | nlshow"

-- messages, one after another, which are read if the program is told so
abbrev pub messages_text : List ℕ
messages_text = codes "raw netlink messages: read them with --raw, as in nlshow --raw FILE"

-- what a file is, and what to do
abbrev pub format_text : OtherFormat → List ℕ
format_text Gzip = compressed_text (codes "gzip") (codes "zcat")
format_text Xz = compressed_text (codes "xz") (codes "xzcat")
format_text Zstd = compressed_text (codes "zstd") (codes "zstdcat")
format_text Bzip2 = compressed_text (codes "bzip2") (codes "bzcat")
format_text Lz4 = compressed_text (codes "lz4") (codes "lz4cat")
format_text ModifiedPcap = converted_text (codes "modified pcap")
format_text Snoop = converted_text (codes "snoop")
format_text Messages = messages_text
