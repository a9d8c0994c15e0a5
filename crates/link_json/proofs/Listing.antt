-- The elements of lists, from what was written of their parts.
use Rattle.std.proofs.Common.{◌≡◌, ℕ, ◌-◌, Bool, List, [], ◌∷◌, ◌++◌, length, Option, Some, None, refl, sym, ap, subst, ◌∙◌, append_assoc, codes}
use Rattle.std.specs.List.{flat_map}
use Rattle.std.proofs.lemmas.List.{append-nil}
use Rattle.std.proofs.lemmas.Grind.{flat_map-append}
use Rattle.json.specs.Token.{Token, begin_object, end_object, begin_array, end_array, key, string}
use Rattle.json.specs.Json.{Json}
use Rattle.json.specs.Tree.{json_tokens}
use Rattle.link_base.specs.declared.wire.buffer.NlaBuffer.{NlaBuffer}
use Rattle.link_base.specs.declared.wire.fault.Cause.{Cause}
use Rattle.link_base.specs.Frame.{frame_fault}
use Rattle.link_base.specs.Buffer.{SplitsFirst, payload_of}
use Rattle.link_messages.specs.declared.header.LinkHeader.{LinkHeader}
use Rattle.link_messages.specs.Shown.{Nest, Added}
use Rattle.link_messages.specs.Walk.{Item}
use Rattle.link_messages.proofs.Listing.{LeadTo, lead_on}
use Rattle.link_show.proofs.Addressing.{walk_to}
use Rattle.link_json.specs.Doc.{Field, array_of, fields_tokens, each_tokens}
use Rattle.link_json.specs.Value.{header_fields}
use Rattle.link_json.specs.List.{if_sized, nest_name, held_json, nest_json, held_front, nest_front, nest_back, ShowsArray, Adds, adds_none, adds_more, WritesAddresses, WritesValue}
use Rattle.link_json.proofs.Objects.{array_written}
use Rattle.link_json.proofs.Tokens.{members_joined, items_joined, fields_both}

pub adds_one : (old new : List Token) (j : Json) → new ≡ old ++ json_tokens j → Adds old new (j ∷ [])
adds_one old new j written = written ∙ ap (λ t. old ++ t) (sym (append-nil (json_tokens j)))

-- the array of elements that were written
pub array_shown : (shows : List Json → Bool → Type 0) (old a b new : List Token) (well : Bool) → a ≡ old ++ begin_array ∷ [] → Added Adds shows a b well → new ≡ b ++ end_array ∷ []
    → WritesValue (ShowsArray shows) old new well
array_shown shows old a b new well first (js, shown, written) last = (array_of js, (js, shown, refl), array_written old a b new js first written last)

-- ---- attributes that hold lists

peer_shape : (f js : List Token) (k a z o : Token) → (f ++ k ∷ a ∷ []) ++ (js ++ z ∷ o ∷ o ∷ []) ≡ ((f ++ k ∷ ((a ∷ (js ++ z ∷ [])) ++ [])) ++ o ∷ []) ++ o ∷ []
peer_shape f js k a z o = simp (append_assoc, append-nil)

nest_shape : (old head front js back : List Token) → ((old ++ (head ++ front)) ++ js) ++ back ≡ old ++ (head ++ (front ++ (js ++ back)))
nest_shape old head front js back = simp append_assoc

-- the value of one, without the end of the element
held_joined : (header : Option LinkHeader) (js : List Json) → held_front header ++ (each_tokens js ++ nest_back header) ≡ json_tokens (held_json header js) ++ end_object ∷ []
held_joined None js =
    ap (λ t. begin_array ∷ t) (sym (append_assoc (each_tokens js) (end_array ∷ []) (end_object ∷ [])) ∙ ap (λ t. t ++ end_object ∷ []) (sym (items_joined js)))
held_joined (Some h) js =
    let attrs : List Field = (codes "attrs", array_of js) ∷ [] in
    let f = fields_tokens (header_fields h) in
    let array : json_tokens (array_of js) ≡ begin_array ∷ (each_tokens js ++ end_array ∷ []) = ap (λ t. begin_array ∷ t) (items_joined js) in
    let members = members_joined (header_fields h ++ attrs) ∙ ap (λ t. t ++ end_object ∷ []) (fields_both (header_fields h) attrs) in
    let joined = ap (λ t. ((f ++ key (codes "attrs") ∷ (t ++ [])) ++ end_object ∷ []) ++ end_object ∷ []) (sym array) in
    ap (λ t. begin_object ∷ t) (peer_shape f (each_tokens js) (key (codes "attrs")) begin_array end_array end_object ∙ joined ∙ ap (λ t. t ++ end_object ∷ []) (sym members))

-- what was written for one: its front, the elements of its list, and its back
pub nest_written : (h : Nest) (old a b new : List Token) (js : List Json) → a ≡ old ++ nest_front h → Adds a b js → new ≡ b ++ nest_back h.header → new ≡ old ++ json_tokens (nest_json h js)
nest_written h old a b new js first written last =
    let head = begin_object ∷ key (codes "name") ∷ string (nest_name h.label) ∷ key (codes "value") ∷ [] in
    let front = held_front h.header in
    let back = nest_back h.header in
    last ∙ ap (λ t. t ++ back) (written ∙ ap (λ t. t ++ each_tokens js) first) ∙ nest_shape old head front (each_tokens js) back ∙ ap (λ t. old ++ (head ++ t)) (held_joined h.header js)

-- ---- lists of addresses

abbrev addresses_json : ℕ → List Item → List Json
addresses_json size items = flat_map (λ x. if_sized size (payload_of x.1)) items

-- the addresses before `rest` were written
pub record AddressesTo (size : ℕ) (list rest : List ℕ) (old new : List Token) : Type 0 where
  pub items : List Item
  pub walks : LeadTo list rest items
  pub written : Adds old new (addresses_json size items)

pub addresses_none : (size : ℕ) (list : List ℕ) (old : List Token) → AddressesTo size list list old old
addresses_none size list old = record { items = []; walks = refl; written = adds_none old }

pub addresses_more : (size : ℕ) (list rest next : List ℕ) (old mid new : List Token) (b : NlaBuffer) → AddressesTo size list rest old mid → SplitsFirst rest b next
    → Adds mid new (if_sized size (payload_of b)) → AddressesTo size list next old new
addresses_more size list rest next old mid new b h split written =
    let one = if_sized size (payload_of b) in
    let item : Item = (length list - length rest, b) in
    let all : addresses_json size (h.items ++ item ∷ []) ≡ addresses_json size h.items ++ one =
    flat_map-append (λ x. if_sized size (payload_of x.1)) h.items (item ∷ []) ∙ ap (λ js. addresses_json size h.items ++ js) (append-nil one) in
    record { items = h.items ++ item ∷ []; walks = lead_on list rest next b split h.items h.walks; written = subst (Adds old new) (sym all) (adds_more old mid new (addresses_json size h.items) one h.written written) }

-- all that a list has: up to its end, or to a header that is malformed
pub addresses_all : (size : ℕ) (list rest : List ℕ) (old new : List Token) (c : Cause) → AddressesTo size list rest old new → frame_fault rest ≡ Some c → WritesAddresses size list old new
addresses_all size list rest old new c h bad = let end = walk_to list rest h.items c h.walks bad in (addresses_json size h.items, (h.items, (end.0, end.1, refl)), h.written)
