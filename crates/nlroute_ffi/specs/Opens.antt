-- Which attribute set reads the list in a value of a list.
use Rattle.std.specs.Prelude.{◌≡◌, ◌⊎◌, ℕ, zero, suc, ◌+◌, ◌==◌, ◌&&◌, ◌||◌, Bool, List, [], ◌∷◌, Option, Some, None, option_map, Result, Ok, Err, nat_le, length}
use Rattle.std.specs.Int.RustNames.{bit_or}
use Rattle.std.specs.List.{AllZip, filter, last_or}
use Rattle.link_base.specs.declared.views.content.Content.{Content}
use Rattle.link_base.specs.declared.views.content.Content.TheVariants as contents
use Rattle.link_base.specs.declared.wire.buffer.NlaBuffer.{NlaBuffer}
use Rattle.link_base.specs.declared.wire.fault.Cause.{Cause}
use Rattle.link_base.specs.declared.wire.fault.DecodeFault.{DecodeFault}
use Rattle.link_base.specs.Frame.{kind_of}
use Rattle.link_base.specs.Buffer.{kind_field_of, payload_of}
use Rattle.link_base.specs.Borrowed.{elements_at, HasContent}
use Rattle.link_base.specs.Table.{Gives}
use Rattle.netlink_packet_route.specs.declared.family.Family.{Family}
use Rattle.netlink_packet_route.specs.declared.opening.Context.{Context}
use Rattle.netlink_packet_route.specs.Family.{family_number, table_of}
use Rattle.netlink_packet_route.specs.Opening.{holding_at, IsOpened}
use Rattle.link_messages.specs.Walk.{Item, Walk}
use Rattle.link_messages.specs.Held.{Answers, IsContextIn, answers_if, context_of}
use Rattle.link_entries.specs.declared.entry.Entry.{Entry}
use Rattle.link_entries.specs.Forms.{form_unknown, form_held, form_peer}
use Rattle.nlroute_ffi.specs.declared.refusal.Refusal.{Refusal}
use Rattle.nlroute_ffi.specs.declared.refusal.Refusal.TheVariants.{Absent}
use Rattle.nlroute_ffi.specs.Names.{own_kind}

-- whether values of this depth and form may be lists of another set; a peer may not, if it is an element
abbrev pub may_hold : ℕ → ℕ → Bool
may_hold depth form = (form == form_held) || ((form == form_unknown) || ((form == form_peer) && (depth == 0)))

-- the `nla_type` of a value, with its flags
abbrev pub type_of : Entry → ℕ
type_of e = bit_or (own_kind e) e.flags

-- ---- the nested list that has an element

-- whether it is an attribute of this type whose payload has the byte at this offset, or ends there
abbrev pub is_around : ℕ → ℕ → Item → Bool
is_around kind offset x =
    (kind_of (kind_field_of x.1) == kind) && (nat_le (x.0 + 4) offset && nat_le offset (x.0 + 4 + length (payload_of x.1)))

abbrev pub around : ℕ → ℕ → List Item → Option Item
around kind offset items = last_or None (filter (is_around kind offset) items)

-- the attribute, without its offset
abbrev pub found_in : Option Item → Option NlaBuffer
found_in o = option_map (λ x. x.1) o

-- ---- the set

-- that reads the element e of an attribute with this content, if it is a nested list
abbrev pub OpensIn : Context → Family → Entry → Content → Option Family → Type 0
OpensIn context family e (contents.List list flagged) set =
    (inner : Context) × IsContextIn context list.now inner × IsOpened (holding_at inner family (Some e.kind) (type_of e)) set
OpensIn context family e content set = set ≡ None

-- that reads the element e of the attribute b, if that decodes
abbrev pub OpensOf : Context → Family → Entry → NlaBuffer → Option Family → Type 0
OpensOf context family e b set =
    ((content : Content) × HasContent (table_of family) b content × OpensIn context family e content set)
    ⊎ ((fault : DecodeFault) × Gives (table_of family) (kind_field_of b) (payload_of b) (Err fault) × (set ≡ None))

-- that reads the element e of an attribute, if there is one
abbrev pub OpensElement : Context → Family → Entry → Option Item → Option Family → Type 0
OpensElement context family e None set = set ≡ None
OpensElement context family e (Some x) set = OpensOf context family e x.1 set

-- that reads a value of this depth
abbrev pub OpensAt : ℕ → Context → Family → Entry → List ℕ → Option Family → Type 0
OpensAt zero context family e list set = IsOpened (holding_at context family None (type_of e)) set
OpensAt (suc zero) context family e list set =
    (items : List Item) × (fault : Option (ℕ × Cause)) × Walk list items fault × OpensElement context family e (around e.kind e.offset items) set
OpensAt (suc (suc n)) context family e list set = set ≡ None

-- that reads a value of a list
abbrev pub Opens : Context → Family → Entry → List ℕ → Option Family → Type 0
Opens context family e list set = answers_if (may_hold e.depth e.form) (OpensAt e.depth context family e list) set

-- the number of the set; or none reads the value
abbrev pub OpensAnswers : ℕ → Entry → List ℕ → Family → Result ℕ Refusal → Type 0
OpensAnswers address_family e list family (Ok n) = (set : Family) × (n ≡ family_number set) × Opens (context_of address_family) family e list (Some set)
OpensAnswers address_family e list family (Err Absent) = Opens (context_of address_family) family e list None
OpensAnswers address_family e list family (Err refusal) = ⊥

-- ---- entries, and the attributes that they are of

-- the set that reads the first of these entries is the one that reads the attribute x of the list
abbrev pub HeadOpens : Context → Family → List ℕ → Item → List Entry → Type 0
HeadOpens context family list x [] = ⊥
HeadOpens context family list x (e ∷ es) =
    (content : Content) × HasContent (table_of family) x.1 content
    × ((set : Option Family) → Opens context family e list set → Answers 1 None (IsOpened (holding_at context family None (kind_field_of x.1))) content set)

-- the set that reads an element with this `nla_type` of the nested list `nest` of type k
abbrev pub OpensInside : Context → Family → ℕ → List ℕ → ℕ → Option Family → Type 0
OpensInside context family k nest f set = (inner : Context) × IsContextIn context nest inner × IsOpened (holding_at inner family (Some k) f) set

-- the set that reads the entry e of the element y of this nested list is the one that reads the element
abbrev pub ElementOpens : Context → Family → List ℕ → ℕ → List ℕ → Item → Entry → Type 0
ElementOpens context family list k nest y e =
    (content : Content) × HasContent (elements_at (table_of family) k) y.1 content
    × ((set : Option Family) → Opens context family e list set → Answers 1 (Some k) (OpensInside context family k nest (kind_field_of y.1)) content set)

-- likewise for all entries of elements of an attribute of the list with this content, if it is a nested list
abbrev pub ElementsOpen : Context → Family → List ℕ → ℕ → Content → List Entry → Type 0
ElementsOpen context family list k (contents.List nest flagged) es = (items : List Item) × Walk nest.now items None × AllZip (ElementOpens context family list k nest.now) items es
ElementsOpen context family list k content es = Unit {0}

abbrev pub TailOpens : Context → Family → List ℕ → Item → List Entry → Type 0
TailOpens context family list x [] = ⊥
TailOpens context family list x (e ∷ es) = (content : Content) × HasContent (table_of family) x.1 content × ElementsOpen context family list (kind_of (kind_field_of x.1)) content es
