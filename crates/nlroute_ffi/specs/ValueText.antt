-- The texts of values: of the payloads that they encode to.
use Rattle.std.specs.Prelude.{◌≡◌, ℕ, ◌==◌, Bool, true, false, List, [], Option, Some, None, option_map, Result, Ok, Err, if◌then◌else◌}
use Rattle.link_base.specs.declared.rows.form.Form.{Form}
use Rattle.link_base.specs.declared.rows.form.Form.TheVariants as forms
use Rattle.link_base.specs.declared.rows.label.Quantity.TheVariants as quantities
use Rattle.link_base.specs.declared.views.content.Content.{Content}
use Rattle.link_base.specs.declared.views.content.Content.TheVariants as contents
use Rattle.link_base.specs.Class.{extent, length_cause}
use Rattle.link_base.specs.Payloads.{class_by}
use Rattle.link_base.specs.Table.{One, Label, label_with, label_at}
use Rattle.link_base.specs.Borrowed.{Borrows, form_of, elements_at}
use Rattle.netlink_packet_route.specs.declared.family.Family.{Family}
use Rattle.netlink_packet_route.specs.Family.{table_of}
use Rattle.link_show.specs.Value.{content_text}
use Rattle.link_entries.specs.declared.entry.Entry.{Entry}
use Rattle.link_entries.specs.declared.fields.Fields.{Fields}
use Rattle.link_entries.specs.declared.fields.Fields.TheVariants as fields
use Rattle.link_entries.specs.declared.misfit.Misfit.{Misfit}
use Rattle.link_entries.specs.declared.misfit.Misfit.TheVariants.{BadElement}
use Rattle.link_entries.specs.Fields.{number_form, fields_in}
use Rattle.link_entries.specs.Payload.{payload_of}
use Rattle.link_entries.specs.Agreement.{referred}
use Rattle.nlroute_ffi.specs.declared.refusal.Refusal.{Refusal}
use Rattle.nlroute_ffi.specs.Buffers.{StoresText}
use Rattle.nlroute_ffi.specs.Names.{own_kind}
use Rattle.nlroute_ffi.specs.Writing.{refusal_for}

-- ---- what is known of the type of an entry

-- with another form
abbrev pub with_form : Form → Label → Label
with_form form label = record label { form = form }

-- the form of an address of n bytes
abbrev pub address_form : ℕ → Form
address_form n = if n == 4 then forms.Ipv4 else forms.Ipv6

-- of an element of a list of this form: a number and an address have the label of their list, with their own form; of an
-- element of a nested list it is `own`
abbrev pub element_by : Form → Label → Option Label → Result (Option Label) Misfit
element_by (forms.Numbers a) list own = Ok (Some (with_form (number_form a) list))
element_by (forms.Addresses n) list own = Ok (Some (with_form (address_form n) list))
element_by (forms.List flagged) list own = Ok own
element_by form list own = Err BadElement

abbrev pub element_label : Option Label → Option Label → Result (Option Label) Misfit
element_label None own = Err BadElement
element_label (Some list) own = element_by list.form list own

-- of an attribute, or of its element
abbrev pub own_label : Family → Entry → Result (Option Label) Misfit
own_label family e =
    if e.depth == 0 then Ok (label_at (table_of family) e.kind)
    else (if e.depth == 1 then element_label (label_at (table_of family) e.kind) (label_at (elements_at (table_of family) e.kind) e.inner)
    else Err BadElement)

-- which fields make its payload
abbrev pub fields_for : Option Label → Fields
fields_for label = fields_in (option_map (λ (l : Label). l.form) label)

-- ---- payloads

-- the payload that an entry with this label encodes to, without elements, as `nlroute_write` writes it
abbrev pub payload_by : Result (Option Label) Misfit → Entry → List ℕ → Result (List ℕ) Misfit
payload_by (Ok label) e octets = payload_of (fields_for label) (record e { kind = own_kind e }) octets
payload_by (Err misfit) e octets = Err misfit

abbrev pub entry_payload : Family → Entry → List ℕ → Result (List ℕ) Misfit
entry_payload family e octets = payload_by (own_label family e) e octets

-- whether entries with these fields refer to bytes
abbrev pub is_passed : Fields → Bool
is_passed (fields.Passed form size) = true
is_passed fields.Peer = true
is_passed fields.Limits = true
is_passed fields.Unknown = true
is_passed own = false

-- the bytes whose text an entry has, if it encodes to p: those that it refers to, as they are passed in; otherwise p. They
-- differ only in the name of a CAN controller, which is printed as it is, and written as it decodes
abbrev pub shown_bytes : Fields → Entry → List ℕ → List ℕ → List ℕ
shown_bytes own e octets p = if is_passed own then referred e octets else p

-- an entry with these fields encodes to a payload, and s is what is shown of it
abbrev pub Shows : Fields → Entry → List ℕ → List ℕ → Type 0
Shows own e octets s = (p : List ℕ) × (payload_of own e octets ≡ Ok p) × (s ≡ shown_bytes own e octets p)

-- ---- contents

-- whether a value of this form is a list: its elements are values of their own
abbrev pub has_elements : Form → Bool
has_elements (forms.Numbers a) = true
has_elements (forms.Addresses n) = true
has_elements (forms.List flagged) = true
has_elements form = false

-- a payload of n bytes has a length that the form of the label accepts
abbrev pub HasSize : Option Label → ℕ → Type 0
HasSize None n = Unit {0}
HasSize (Some label) n = has_elements label.form ≡ false → length_cause (extent (class_by label.form [])) n ≡ None

-- the content of a payload of this label: of a list it is nothing, and without a row the payload
abbrev pub IsContentBy : Bool → Label → List ℕ → Content → Type 0
IsContentBy true label p content = content ≡ contents.Nothing
IsContentBy false label p content = Borrows (Some (One (class_by label.form label.names))) p content × (form_of content ≡ Some label.form)

abbrev pub IsContent : Option Label → List ℕ → Content → Type 0
IsContent None p content = Borrows None p content
IsContent (Some label) p content = IsContentBy (has_elements label.form) label p content

-- ---- texts

-- what is known of a type without a row: the text depends on the content only
abbrev pub plain_label : Label
plain_label = label_with [] quantities.Number [] forms.Nothing [] []

abbrev pub label_or_plain : Option Label → Label
label_or_plain None = plain_label
label_or_plain (Some label) = label

-- the text of an entry with this label: of a content of the payload that it encodes to
abbrev pub IsText : Result (Option Label) Misfit → Entry → List ℕ → List ℕ → Type 0
IsText (Ok label) e octets words =
    (s : List ℕ) × Shows (fields_for label) (record e { kind = own_kind e }) octets s × ((content : Content) × IsContent label s content × (words ≡ content_text (label_or_plain label) content))
IsText (Err misfit) e octets words = ⊥

abbrev pub IsEntryText : Family → Entry → List ℕ → List ℕ → Type 0
IsEntryText family e octets words = IsText (own_label family e) e octets words

-- the entry encodes to a payload, and the buffer has its text; or it encodes to none, and the error is that of writing it
abbrev pub LabelAnswers : Result (Option Label) Misfit → Entry → List ℕ → List ℕ → List ℕ → Result ℕ Refusal → Type 0
LabelAnswers its_label e octets old new (Ok n) = (words : List ℕ) × IsText its_label e octets words × StoresText words old new n
LabelAnswers its_label e octets old new (Err refusal) = (misfit : Misfit) × (payload_by its_label e octets ≡ Err misfit) × (refusal ≡ refusal_for misfit)

abbrev pub TextAnswers : Entry → List ℕ → List ℕ → List ℕ → Family → Result ℕ Refusal → Type 0
TextAnswers e octets old new family result = LabelAnswers (own_label family e) e octets old new result
