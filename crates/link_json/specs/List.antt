-- The JSON of lists of attributes: an element for each, in order.
use Rattle.std.proofs.Common.{◌≡◌, ℕ, ◌==◌, Bool, true, false, List, [], ◌∷◌, ◌++◌, length, Option, Some, None, codes, if◌then◌else◌, refl, sym, ap, ◌∙◌, append_assoc}
use Rattle.std.proofs.lemmas.List.{append-nil}
use Rattle.std.specs.List.{flat_map}
use Rattle.json.specs.Token.{Token}
use Rattle.json.specs.Token as token
use Rattle.json.specs.Json.{Json, string}
use Rattle.json.specs.Tree.{json_tokens}
use Rattle.link_base.specs.declared.wire.buffer.NlaBuffer.{NlaBuffer}
use Rattle.link_base.specs.declared.wire.fault.Cause.{Cause}
use Rattle.link_base.specs.declared.views.content.Content.{Content}
use Rattle.link_base.specs.declared.views.content.Content.TheVariants as contents
use Rattle.link_base.specs.Number.{number}
use Rattle.link_base.specs.Buffer.{kind_field_of, payload_of}
use Rattle.link_base.specs.Table.{Label}
use Rattle.netlink_packet_route.specs.declared.family.Family.{Family}
use Rattle.netlink_packet_route.specs.Family.{table_of}
use Rattle.link_messages.specs.declared.header.LinkHeader.{LinkHeader}
use Rattle.link_messages.specs.Held.{levels, context_of}
use Rattle.link_messages.specs.Shown.{Nest, Display, Shows, rows_in, label_for}
use Rattle.link_messages.specs.Walk.{Item, Walk}
use Rattle.link_show.specs.Fault.{fault_text}
use Rattle.link_show.specs.Held.{is_state, state_names}
use Rattle.link_show.specs.List.{ip_text}
use Rattle.link_json.specs.Doc.{object_of, array_of, fields_tokens, each_tokens, element_json, error_json}
use Rattle.link_json.specs.Names.{short_name}
use Rattle.link_json.specs.Value.{content_json, enum_json, labelled_json, unnamed_json, header_fields, whole_link}

-- ---- errors

-- an error in the place of an attribute
abbrev pub fault_json : ℕ → List ℕ → Json
fault_json at text = object_of ((codes "error", error_json (Some at) text) ∷ [])

-- ---- lists of addresses

-- an address, if it has this size
abbrev pub if_sized : ℕ → List ℕ → List Json
if_sized size p = if length p == size then string (ip_text p) ∷ [] else []

-- the addresses of this size in a list
abbrev pub ShowsAddresses : ℕ → List ℕ → List Json → Type 0
ShowsAddresses size list js = (items : List Item) × ((fault : Option (ℕ × Cause)) × Walk list items fault × (js ≡ flat_map (λ x. if_sized size (payload_of x.1)) items))

-- ---- attributes that hold no list

-- the value of an attribute with this content
abbrev pub ShowsFlat : Label → Content → Json → Type 0
ShowsFlat label (contents.Addresses list size) value = (js : List Json) × ShowsAddresses size list.now js × (value ≡ array_of js)
ShowsFlat label content value = value ≡ content_json label content

-- the attribute b with this content
abbrev pub ShowsPlain : Option Label → NlaBuffer → Content → Json → Type 0
ShowsPlain None b content j = j ≡ unnamed_json (kind_field_of b) (payload_of b)
ShowsPlain (Some label) b content j = (value : Json) × ShowsFlat label content value × (j ≡ labelled_json label content value)

-- the STP state of a bridge port
abbrev pub state_json : List ℕ → Json
state_json p = element_json (string (codes "protinfo")) (enum_json state_names (number p)) []

-- the attribute b; it may be the STP state of a bridge port
abbrev pub shows_leaf : Bool → Option Label → NlaBuffer → Content → Json → Type 0
shows_leaf true label b content j = j ≡ state_json (payload_of b)
shows_leaf false label b content j = ShowsPlain label b content j

-- ---- attributes that hold lists

-- the name of an attribute that holds a list; one without a row is an IFLA_PROTINFO
abbrev pub nest_name : Option Label → List ℕ
nest_name None = codes "protinfo"
nest_name (Some label) = short_name label.prefix label.name

-- the value of one: the array of what is in the list; in a peer, a link with that
abbrev pub held_json : Option LinkHeader → List Json → Json
held_json None js = array_of js
held_json (Some header) js = whole_link header js

abbrev pub nest_json : Nest → List Json → Json
nest_json h js = element_json (string (nest_name h.label)) (held_json h.header js) []

-- ---- lists

-- an element for each attribute, and for each error in the place of its attribute
abbrev pub elements : Display Json
elements = record {
  omits = λ context family kind. false;
  error = λ level family at fault. fault_json at (fault_text (table_of family) fault) ∷ [];
  leaf = λ context level family k b content js. (j : Json) × shows_leaf (is_state context family k b) (label_for (rows_in family k) b) b content j × (js ≡ j ∷ []);
  around = λ level h inner whole js well. (js ≡ nest_json h inner ∷ []) × (well ≡ whole);
}

-- the elements for a list in a message of this address family; 0 if it is in none
abbrev pub ShowsList : ℕ → Family → ℕ → List ℕ → List Json → Bool → Type 0
ShowsList address_family family base list = Shows elements levels (context_of address_family) 0 family (base, list)

-- the array of a list
abbrev pub ShowsArray : (List Json → Bool → Type 0) → Json → Bool → Type 0
ShowsArray shows value well = (js : List Json) × shows js well × (value ≡ array_of js)

-- ---- what functions write

-- elements were written
abbrev pub Adds : List Token → List Token → List Json → Type 0
Adds old new js = new ≡ old ++ each_tokens js

pub adds_none : (old : List Token) → Adds old old []
adds_none old = sym (append-nil old)

each_both : (a b : List Json) → each_tokens (a ++ b) ≡ each_tokens a ++ each_tokens b
each_both [] b = refl
each_both (j ∷ a) b = ap (λ t. json_tokens j ++ t) (each_both a b) ∙ sym (append_assoc (json_tokens j) (each_tokens a) (each_tokens b))

pub adds_more : (old mid new : List Token) (a b : List Json) → Adds old mid a → Adds mid new b → Adds old new (a ++ b)
adds_more old mid new a b first written =
    written ∙ ap (λ t. t ++ each_tokens b) first ∙ append_assoc old (each_tokens a) (each_tokens b) ∙ ap (λ t. old ++ t) (sym (each_both a b))

abbrev pub WritesAddresses : ℕ → List ℕ → List Token → List Token → Type 0
WritesAddresses size list old new = (js : List Json) × ShowsAddresses size list js × Adds old new js

-- a value was written, and whether it has no error
abbrev pub WritesValue : (Json → Bool → Type 0) → List Token → List Token → Bool → Type 0
WritesValue shows old new well = (j : Json) × shows j well × (new ≡ old ++ json_tokens j)

-- a value was written
abbrev pub WritesOne : (Json → Type 0) → List Token → List Token → Type 0
WritesOne shows old new = (j : Json) × shows j × (new ≡ old ++ json_tokens j)

-- what is before the elements of a list that an attribute holds, and what is after them
abbrev pub held_front : Option LinkHeader → List Token
held_front None = token.begin_array ∷ []
held_front (Some header) = token.begin_object ∷ (fields_tokens (header_fields header) ++ token.key (codes "attrs") ∷ token.begin_array ∷ [])

abbrev pub nest_front : Nest → List Token
nest_front h = token.begin_object ∷ token.key (codes "name") ∷ token.string (nest_name h.label) ∷ token.key (codes "value") ∷ held_front h.header

abbrev pub nest_back : Option LinkHeader → List Token
nest_back None = token.end_array ∷ token.end_object ∷ []
nest_back (Some header) = token.end_array ∷ token.end_object ∷ token.end_object ∷ []
