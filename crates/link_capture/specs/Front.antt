-- What the start of a unit says.
use Rattle.std.specs.Prelude.{ℕ, ◌+◌, ◌-◌, ◌%◌, ◌==◌, List, length, Option, Some, None, nat_lt, if◌then◌else◌}
use Rattle.link_capture.specs.declared.error.InputError.TheVariants as errors
use Rattle.link_capture.specs.declared.error.Head.{Head}
use Rattle.link_capture.specs.declared.error.Head.TheVariants as heads
use Rattle.link_capture.specs.declared.error.Size.{Size}
use Rattle.link_capture.specs.declared.error.Size.TheVariants as sizes
use Rattle.link_capture.specs.declared.form.Form.{Form}
use Rattle.link_capture.specs.declared.form.Form.TheVariants as forms
use Rattle.link_capture.specs.declared.front.Front.{Front}
use Rattle.link_capture.specs.declared.front.Front.TheVariants.{Short, Sized, Wrong}
use Rattle.link_capture.specs.declared.order.Order.{Order}
use Rattle.link_capture.specs.declared.order.Order.TheVariants.{Little, Big}
use Rattle.link_capture.specs.Form.{section}
use Rattle.link_capture.specs.Order.{number_at}

-- the greatest length of a unit
abbrev pub most : ℕ
most = 1_048_576

-- what a unit begins with, and how many bytes that has
abbrev pub head_of : Form → Head
head_of (forms.Pcap order digits) = heads.Pcap
head_of (forms.Records order digits) = heads.Record
head_of (forms.Blocks order) = heads.Block
head_of forms.Messages = heads.Message

abbrev pub head_size : Head → ℕ
head_size heads.Pcap = 24
head_size heads.Record = 16
head_size heads.Block = 12
head_size heads.Message = 16

-- what the length of a unit is called; that of the header of a pcap file is not in the file
abbrev pub size_of : Form → Size
size_of (forms.Pcap order digits) = sizes.Record
size_of (forms.Records order digits) = sizes.Record
size_of (forms.Blocks order) = sizes.Block
size_of forms.Messages = sizes.Message

-- a unit of n bytes, with so many of padding after it, if its length is not above the greatest
abbrev pub up_to_most : Size → ℕ → ℕ → Front
up_to_most size n gap = if nat_lt most n then Wrong (errors.Large size n) else Sized n gap

-- ---- blocks

-- the order that a byte-order magic shows, if it is one
abbrev pub order_by : ℕ → Option Order
order_by magic =
    if magic == 0x4d3c_2b1a then Some Little
    else (if magic == 0x1a2b_3c4d then Some Big
    else None)

-- the order of a block: that of its magic, if it begins a section, otherwise that of the section before
abbrev pub order_of : Order → List ℕ → Option Order
order_of order s = if number_at order 4 0 s == section then order_by (number_at Big 4 8 s) else Some order

abbrev pub sized_block : ℕ → Front
sized_block n =
    if nat_lt n 12 then Wrong (errors.Small sizes.Block n 12)
    else (if n % 4 == 0 then up_to_most sizes.Block n 0
    else Wrong (errors.Odd n))

abbrev pub block_front : Option Order → List ℕ → Front
block_front None s = Wrong errors.NoMagic
block_front (Some order) s = sized_block (number_at order 4 4 s)

-- ---- messages

-- the bytes to the next multiple of four
abbrev pub gap : ℕ → ℕ
gap n = (4 - n % 4) % 4

abbrev pub message_front : ℕ → Front
message_front n =
    if nat_lt n 16 then Wrong (errors.Small sizes.Message n 16)
    else up_to_most sizes.Message n (gap n)

-- ---- units

-- a unit whose head is complete
abbrev pub whole_front : Form → List ℕ → Front
whole_front (forms.Pcap order digits) s = Sized 24 0
whole_front (forms.Records order digits) s = up_to_most sizes.Record (16 + number_at order 4 8 s) 0
whole_front (forms.Blocks order) s = block_front (order_of order s) s
whole_front forms.Messages s = message_front (number_at Little 4 0 s)

-- the unit at the start of s
abbrev pub front_of : Form → List ℕ → Front
front_of form s = if nat_lt (length s) (head_size (head_of form)) then Short else whole_front form s
