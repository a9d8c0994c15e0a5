-- The forms of inputs.
use Rattle.std.specs.Prelude.{ℕ, Bool, true, false, ◌&&◌, ◌||◌, List, [], ◌∷◌, ◌++◌, length, Option, Some, None, option_map, Result, Ok, Err, nat_lt, nat_eq, codes, if◌then◌else◌}
use Rattle.std.specs.List.{find, list_any, starts_with}
use Rattle.std.specs.Option.{option_transpose}
use Rattle.link_capture.specs.declared.form.Form.{Form}
use Rattle.link_capture.specs.declared.form.Form.TheVariants.{Pcap, Blocks}
use Rattle.link_capture.specs.declared.order.Order.TheVariants.{Little, Big}
use Rattle.link_capture.specs.declared.other_format.OtherFormat.{OtherFormat}
use Rattle.link_capture.specs.declared.other_format.OtherFormat.TheVariants.{Gzip, Xz, Zstd, Bzip2, Lz4, ModifiedPcap, Snoop, Messages}
use Rattle.link_capture.specs.Messages.{is_stream, begins_stream}

-- the type of a section header, with which a pcapng file begins. It reads the same in either order
abbrev pub section : ℕ
section = 0x0a0d_0d0a

-- the magic numbers, which are the first bytes of files, and what they tell: the form of a capture, or another format
abbrev pub magics : List (List ℕ × Result Form OtherFormat)
magics =
    (0xd4 ∷ 0xc3 ∷ 0xb2 ∷ 0xa1 ∷ [], Ok (Pcap Little 6)) ∷
    (0xa1 ∷ 0xb2 ∷ 0xc3 ∷ 0xd4 ∷ [], Ok (Pcap Big 6)) ∷
    (0x4d ∷ 0x3c ∷ 0xb2 ∷ 0xa1 ∷ [], Ok (Pcap Little 9)) ∷
    (0xa1 ∷ 0xb2 ∷ 0x3c ∷ 0x4d ∷ [], Ok (Pcap Big 9)) ∷
    (0x0a ∷ 0x0d ∷ 0x0d ∷ 0x0a ∷ [], Ok (Blocks Little)) ∷
    (0x1f ∷ 0x8b ∷ [], Err Gzip) ∷
    (0xfd ∷ 0x37 ∷ 0x7a ∷ 0x58 ∷ 0x5a ∷ 0x00 ∷ [], Err Xz) ∷
    (0x28 ∷ 0xb5 ∷ 0x2f ∷ 0xfd ∷ [], Err Zstd) ∷
    (codes "BZh1", Err Bzip2) ∷
    (codes "BZh2", Err Bzip2) ∷
    (codes "BZh3", Err Bzip2) ∷
    (codes "BZh4", Err Bzip2) ∷
    (codes "BZh5", Err Bzip2) ∷
    (codes "BZh6", Err Bzip2) ∷
    (codes "BZh7", Err Bzip2) ∷
    (codes "BZh8", Err Bzip2) ∷
    (codes "BZh9", Err Bzip2) ∷
    (0x04 ∷ 0x22 ∷ 0x4d ∷ 0x18 ∷ [], Err Lz4) ∷
    (0x34 ∷ 0xcd ∷ 0xb2 ∷ 0xa1 ∷ [], Err ModifiedPcap) ∷
    (0xa1 ∷ 0xb2 ∷ 0xcd ∷ 0x34 ∷ [], Err ModifiedPcap) ∷
    (codes "snoop" ++ 0 ∷ 0 ∷ 0 ∷ [], Err Snoop) ∷ []

-- what s tells by the first of these magic numbers with which it starts; no form, if it starts with none
abbrev pub form_by_magic : List (List ℕ × Result Form OtherFormat) → List ℕ → Result (Option Form) OtherFormat
form_by_magic magics s = option_transpose (option_map (λ m. m.1) (find (λ m. starts_with nat_eq s m.0) magics))

-- what a file is that starts with no magic number: a stream of messages, or lines, which have no form
abbrev pub form_of_others : List ℕ → Result (Option Form) OtherFormat
form_of_others s = if is_stream s then Err Messages else Ok None

-- what a file is, by what a magic number tells
abbrev pub form_by : Result (Option Form) OtherFormat → List ℕ → Result (Option Form) OtherFormat
form_by (Ok None) s = form_of_others s
form_by known s = known

-- what a file is: a capture in this form, or in another format; no form, if it is lines
abbrev pub form_of : List ℕ → Result (Option Form) OtherFormat
form_of s = form_by (form_by_magic magics s) s

-- s is a proper prefix of a magic number
abbrev pub begins_magic : List ℕ → Bool
begins_magic s = list_any (λ m. nat_lt (length s) (length m.0) && starts_with nat_eq m.0 s) magics

-- nothing is known
abbrev pub is_open : Result (Option Form) OtherFormat → Bool
is_open (Ok None) = true
is_open known = false

-- s is too short to tell what a file is
abbrev pub needs_more : List ℕ → Bool
needs_more s = begins_magic s || (is_open (form_by_magic magics s) && begins_stream s)
