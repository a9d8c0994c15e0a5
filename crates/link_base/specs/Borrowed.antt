-- What views borrow: the content of an attribute that decodes.
use Rattle.std.specs.Prelude.{◌≡◌, ◌<◌, ℕ, List, [], ◌∷◌, take, drop, Option, Some, None, Ok}
use Rattle.link_base.specs.declared.views.content.Content.{Content as Borrowed}
use Rattle.link_base.specs.declared.views.content.Content.TheVariants as borrowed
use Rattle.link_base.specs.declared.wire.buffer.NlaBuffer.{NlaBuffer}
use Rattle.link_base.specs.declared.rows.form.Form.{Form}
use Rattle.link_base.specs.declared.rows.form.Form.TheVariants as forms
use Rattle.link_base.specs.Class.{Value, Limits, Number, Integer, Boolean, Raw, Name, Unlisted, EtherType, LowByte, Nothing, flag_value, meant}
use Rattle.link_base.specs.declared.rows.form.Order.{Order}
use Rattle.link_base.specs.declared.rows.form.Order.TheVariants as orders
use Rattle.link_base.specs.declared.rows.form.Role.{Role}
use Rattle.link_base.specs.declared.rows.form.Role.TheVariants as roles
use Rattle.link_base.specs.Number.{bytes_be, bound}
use Rattle.link_base.specs.Forms.{bytes_in}
use Rattle.link_base.specs.Payloads.{class_by}
use Rattle.link_base.specs.IpAddress.{four_octets, sixteen_octets}
use Rattle.link_base.specs.Layout.{octets_of}
use Rattle.link_base.specs.Name.{before_nul}
use Rattle.link_base.specs.Protocol.{protocol_number}
use Rattle.link_base.specs.Lift.{lift_table}
use Rattle.link_base.specs.Frame.{kind_of}
use Rattle.link_base.specs.Buffer.{kind_field_of, payload_of}
use Rattle.link_base.specs.Table.{Shape, One, Nested, Addresses, Table, AttrValue, class_at, form_at, Gives, Decodes}

-- a value, as it is borrowed: whether a number has a name is left out
abbrev pub as_named : Value → Value
as_named (Unlisted n listed d) = Name n d
as_named v = v

-- the value of a number x of n bytes, in this order and with this role, without what names it
abbrev pub number_value : Order → Role → ℕ → ℕ → Value
number_value orders.Little roles.Enum n x = Name n x
number_value orders.Little role n x = Number n x
number_value orders.Big role n x = Raw (bytes_be n x)

-- a borrowed content is this value
abbrev pub Says : Borrowed → Value → Type 0
Says borrowed.Nothing v = v ≡ Nothing
Says (borrowed.Bool b) v = v ≡ Boolean b
Says (borrowed.FlagOrBool flag) v = v ≡ flag_value flag
Says (borrowed.Number x w order role) v = (as_named v ≡ number_value order role (bytes_in w) x) × (x < bound (bytes_in w))
Says (borrowed.Signed z) v = v ≡ Integer z
Says (borrowed.LowFlags b) v = v ≡ LowByte b
Says (borrowed.MaskedFlags flags mask) v = v ≡ Raw (octets_of 4 (flags ∷ mask ∷ []))
Says (borrowed.Pair a b) v = v ≡ Raw (octets_of 4 (a ∷ b ∷ []))
Says (borrowed.Protocol p) v = v ≡ EtherType (protocol_number p)
Says (borrowed.Mac a) v = v ≡ Raw a
Says (borrowed.Ipv4 a) v = v ≡ Raw (four_octets a)
Says (borrowed.Ipv6 a) v = v ≡ Raw (sixteen_octets a)
Says (borrowed.Bytes look p) v = v ≡ Raw p.now
Says (borrowed.Struct layout p) v = v ≡ Raw p.now
Says (borrowed.Numbers a p) v = v ≡ Raw p.now
Says content v = ⊥

-- a borrowed content is the name, up to its first NUL, and the numbers of these limits
abbrev pub SaysLimits : Borrowed → List ℕ → Type 0
SaysLimits (borrowed.Limits name numbers) p = (name.now ≡ before_nul (take 16 p)) × (numbers.now ≡ take 32 (drop 16 p))
SaysLimits content p = ⊥

-- a borrowed content is the list of addresses of n bytes in this payload
abbrev pub SaysAddresses : Borrowed → ℕ → List ℕ → Type 0
SaysAddresses (borrowed.Addresses list size) n p = (size ≡ n) × (list.now ≡ p)
SaysAddresses content n p = ⊥

-- a borrowed content is the nested list in this payload
abbrev pub SaysList : Borrowed → List ℕ → Type 0
SaysList (borrowed.List list flagged) p = list.now ≡ p
SaysList content p = ⊥

-- a borrowed content is this payload of an attribute without a row
abbrev pub SaysOther : Borrowed → List ℕ → Type 0
SaysOther (borrowed.Other bytes) p = bytes.now ≡ p
SaysOther content p = ⊥

-- what is borrowed from a payload that decodes, by the shape of its attribute type
abbrev pub Borrows : Option Shape → List ℕ → Borrowed → Type 0
Borrows None p content = SaysOther content p
Borrows (Some (One Limits)) p content = SaysLimits content p
Borrows (Some (One c)) p content = Says content (meant c p)
Borrows (Some (Nested flagged rows)) p content = SaysList content p
Borrows (Some (Addresses n)) p content = SaysAddresses content n p

-- what is borrowed from a payload that decodes, by the form of its attribute type
abbrev pub BorrowsBy : Form → List ℕ → Borrowed → Type 0
BorrowsBy (forms.List flagged) p content = SaysList content p
BorrowsBy (forms.Addresses n) p content = SaysAddresses content n p
BorrowsBy form p content = (names : List (ℕ × List ℕ)) → Borrows (Some (One (class_by form names))) p content

-- the form of a borrowed content; none for that of an attribute without a row
abbrev pub form_of : Borrowed → Option Form
form_of borrowed.Nothing = Some forms.Nothing
form_of (borrowed.Bool b) = Some forms.Bool
form_of (borrowed.FlagOrBool flag) = Some forms.FlagOrBool
form_of (borrowed.Number x w order role) = Some (forms.Number w order role)
form_of (borrowed.Signed z) = Some forms.Signed
form_of (borrowed.LowFlags b) = Some forms.LowFlags
form_of (borrowed.MaskedFlags flags mask) = Some forms.MaskedFlags
form_of (borrowed.Pair a b) = Some forms.Pair
form_of (borrowed.Protocol p) = Some forms.Protocol
form_of (borrowed.Mac a) = Some forms.Mac
form_of (borrowed.Ipv4 a) = Some forms.Ipv4
form_of (borrowed.Ipv6 a) = Some forms.Ipv6
form_of (borrowed.Bytes look p) = Some (forms.Bytes look)
form_of (borrowed.Struct layout p) = Some (forms.Struct layout)
form_of (borrowed.Numbers a p) = Some (forms.Numbers a)
form_of (borrowed.Limits name numbers) = Some forms.Limits
form_of (borrowed.Addresses list size) = Some (forms.Addresses size)
form_of (borrowed.List list flagged) = Some (forms.List flagged)
form_of (borrowed.Other p) = None

-- the attribute decodes to a value: it is not so that it has none. Which value that is, a ghost field does not hold
abbrev pub HasValue : Table → ℕ → List ℕ → Type 0
HasValue table f p = ¬ (¬ ((v : AttrValue) × Gives table f p (Ok v)))

-- the attribute b decodes, in a list of this table, and this is its content
pub record HasContent (table : Table) (b : NlaBuffer) (content : Borrowed) : Type 0 where
  pub decodes : HasValue table (kind_field_of b) (payload_of b)
  pub borrows : Borrows (class_at table (kind_of (kind_field_of b))) (payload_of b) content
  pub form : form_of content ≡ form_at table (kind_of (kind_field_of b))

-- the list decodes to values: it is not so that it has none
abbrev pub HasValues : Table → List ℕ → Type 0
HasValues table s = ¬ (¬ (Decodes table s))

-- the table of the attributes in a payload of this shape; no row if it is no nested list
abbrev pub elements_by : Option Shape → Table
elements_by (Some (Nested flagged rows)) = lift_table rows
elements_by shape = []

-- the table of the attributes in the nested lists of attribute type k
abbrev pub elements_at : Table → ℕ → Table
elements_at table k = elements_by (class_at table k)

-- the table of a set, or of the attributes in its nested lists of attribute type k
abbrev pub table_within : Table → Option ℕ → Table
table_within table None = table
table_within table (Some k) = elements_at table k
