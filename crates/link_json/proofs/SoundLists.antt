-- The elements for lists are sound.
use Rattle.std.proofs.Common.{◌≡◌, ℕ, suc, ◌+◌, ◌*◌, ◌==◌, ◌≤◌, Bool, true, false, List, [], ◌∷◌, map, length, Option, Some, None, refl, sym, subst, arith}
use Rattle.std.specs.List.{flat_map}
use Rattle.json.specs.Json.{Json, string}
use Rattle.link_base.specs.declared.wire.buffer.NlaBuffer.{NlaBuffer}
use Rattle.link_base.specs.declared.views.content.Content.{Content}
use Rattle.link_base.specs.declared.views.content.Content.TheVariants as contents
use Rattle.link_base.specs.declared.rows.form.Look.TheVariants as looks
use Rattle.std.proofs.lemmas.Bool.{and_parts, cond_both}
use Rattle.link_base.specs.Class.{is_on}
use Rattle.link_base.specs.Buffer.{kind_field_of, payload_of}
use Rattle.link_base.specs.Layout.{octets_of}
use Rattle.link_base.specs.Protocol.{vlan_protocols, protocol_number}
use Rattle.link_base.specs.Named.{text_of}
use Rattle.link_base.specs.Table.{Label}
use Rattle.netlink_packet_route.specs.declared.family.Family.{Family}
use Rattle.netlink_packet_route.specs.declared.family.Family.TheVariants.{Link}
use Rattle.netlink_packet_route.specs.Opening.{without_nul}
use Rattle.link_messages.specs.declared.header.LinkHeader.{LinkHeader}
use Rattle.link_messages.specs.Finding.{Stretch}
use Rattle.link_messages.specs.Held.{may_hold, header_before, context_of}
use Rattle.link_messages.specs.Shown.{Nest, nest_at, rows_in, label_for}
use Rattle.link_messages.specs.Walk.{Item}
use Rattle.link_messages.proofs.Holds.{shows_hold}
use Rattle.link_show.specs.Held.{is_state}
use Rattle.link_show.specs.List.{ip_text}
use Rattle.link_show.specs.MessageNames.{device_flags}
use Rattle.link_show.specs.Structs.{pair_fields, masked_fields}
use Rattle.link_show.specs.Value.{counted_in}
use Rattle.link_show.proofs.HeldPrinting.{rows_text}
use Rattle.link_show.proofs.ValuePrinting.{IsLabelText}
use Rattle.link_json.specs.Doc.{items_of, array_of}
use Rattle.link_json.specs.Value.{whole_link, number_or_address, content_json, unit_in}
use Rattle.link_json.specs.Link.{ShowsLink}
use Rattle.link_json.specs.List.{ShowsFlat, ShowsPlain, shows_leaf, held_json, nest_json, elements, ShowsList, if_sized}
use Rattle.link_json.proofs.Keys.{are_distinct}
use Rattle.link_json.proofs.PlaceKeys.{IsKeyed, keyed}
use Rattle.link_json.proofs.Sound.{IsSound, EachSound, above, no_fields, field_sound, no_values, value_sound, object_sound, values_both, one_sound, array_sound, deeper_sound, string_sound, boolean_sound, number_sound, signed_sound, opaque_sound, text_sound, named_sound, flags_sound, array_of_numbers, object_of_fields, struct_sound, limits_sound, element_sound, raw_sound, error_sound, role_sound}

-- ---- values

module _ {d : ℕ} where
  number_or_address_sound : (n : Option ℕ) (p : List ℕ) → IsSound (above 3 d) (number_or_address n p)
  number_or_address_sound None p = string_sound _
  number_or_address_sound (Some n) p = number_sound n

  content_sound : (label : Label) (content : Content) → IsLabelText (Some label) → IsKeyed (Some label) content → IsSound (above 3 d) (content_json label content)
  content_sound label contents.Nothing l f = boolean_sound true
  content_sound label (contents.Bool b) l f = boolean_sound b
  content_sound label (contents.FlagOrBool flag) l f = boolean_sound (is_on flag)
  content_sound label (contents.Number n width order role) l f = role_sound label.names role n
  content_sound label (contents.Signed z) l f = signed_sound z
  content_sound label (contents.LowFlags bits) l f = flags_sound label.names bits
  content_sound label (contents.MaskedFlags flags mask) l f = object_of_fields masked_fields label.names (octets_of 4 (flags ∷ mask ∷ [])) refl
  content_sound label (contents.Pair from to) l f = object_of_fields pair_fields [] (octets_of 4 (from ∷ to ∷ [])) refl
  content_sound label (contents.Protocol p) l f = named_sound (protocol_number p) (Some (text_of vlan_protocols.labels (protocol_number p)))
  content_sound label (contents.Struct layout p) l f = struct_sound layout label.fields label.names p.now (and_parts _ (are_distinct (map (λ x. x.name) label.fields)) l.1.1).1
  content_sound label (contents.Numbers a p) l f = array_of_numbers label.names a _ f.0 f.1
  content_sound label (contents.Limits name numbers) l f = limits_sound name.now numbers.now
  content_sound label (contents.Bytes looks.Address p) l f = number_or_address_sound (counted_in label.quantity p.now) p.now
  content_sound label (contents.Bytes looks.Text p) l f = text_sound (without_nul p.now)
  content_sound label (contents.Bytes looks.Held p) l f = opaque_sound p.now
  content_sound label (contents.Bytes looks.Peer p) l f = opaque_sound p.now
  content_sound label (contents.Addresses list size) l f = opaque_sound list.now
  content_sound label (contents.List list flagged) l f = opaque_sound list.now
  content_sound label (contents.Other p) l f = opaque_sound p.now
  content_sound label content l f = string_sound _

  addresses_sound : (size : ℕ) (items : List Item) → EachSound d (items_of (flat_map (λ x. if_sized size (payload_of x.1)) items))
  addresses_sound size [] = no_values
  addresses_sound size (x ∷ items) =
      let one = cond_both (length (payload_of x.1) == size) (string (ip_text (payload_of x.1)) ∷ []) [] (λ js. EachSound d (items_of js)) (λ e. value_sound (string_sound _) no_values) (λ e. no_values) in
      values_both (if_sized size (payload_of x.1)) _ one (addresses_sound size items)

-- ---- attributes that hold no list

module _ {d : ℕ} where
  flat_sound : (label : Label) (content : Content) (value : Json) → IsLabelText (Some label) → IsKeyed (Some label) content → ShowsFlat label content value → IsSound (above 3 d) value
  flat_sound label (contents.Addresses list size) value l f (js, (items, (fault, walk, is)), e) = rw (e, is) (array_sound (addresses_sound size items))
  flat_sound label content value l f e = rw e (content_sound label content l f)

  plain_sound : (label : Option Label) (b : NlaBuffer) (content : Content) (j : Json) → IsLabelText label → IsKeyed label content → ShowsPlain label b content j → IsSound (above 4 d) j
  plain_sound None b content j l f e = rw e (element_sound _ _ None (string_sound _) (raw_sound (kind_field_of b) (payload_of b)))
  plain_sound (Some label) b content j l f (value, shown, e) = rw e (element_sound _ value (unit_in label.quantity content) (string_sound _) (flat_sound label content value l f shown))

  leaf_sound : (state : Bool) (label : Option Label) (b : NlaBuffer) (content : Content) (j : Json) → IsLabelText label → IsKeyed label content → shows_leaf state label b content j → IsSound (above 4 d) j
  leaf_sound true label b content j l f e = rw e (element_sound _ _ None (string_sound _) (named_sound _ _))
  leaf_sound false label b content j l f shown = plain_sound label b content j l f shown

  -- ---- attributes that hold lists

  whole_sound : (h : LinkHeader) (js : List Json) → IsSound (above 2 d) (array_of js) → IsSound (above 3 d) (whole_link h js)
  whole_sound h js attrs =
      object_sound refl
      (field_sound (named_sound h.family _) (field_sound (named_sound h.kind _) (field_sound (signed_sound h.index) (field_sound (flags_sound device_flags h.flags) (field_sound (flags_sound device_flags h.change) (field_sound attrs no_fields))))))

  held_sound : (header : Option LinkHeader) (js : List Json) → IsSound (suc d) (array_of js) → IsSound (above 3 d) (held_json header js)
  held_sound None js each = deeper_sound (omega arith) each
  held_sound (Some h) js each = whole_sound h js (deeper_sound (omega arith) each)

  -- one that may be a peer, and one that is none
  nest_sound : (h : Nest) (js : List Json) → EachSound d (items_of js) → IsSound (above 4 d) (nest_json h js)
  nest_sound h js each = element_sound _ _ None (string_sound _) (held_sound h.header js (array_sound each))

  no_peer_sound : (h : Nest) (js : List Json) → h.header ≡ None → EachSound d (items_of js) → IsSound (above 2 d) (nest_json h js)
  no_peer_sound h js none each = element_sound _ _ None (string_sound _) (subst (λ o. IsSound (suc d) (held_json o js)) (sym none) (array_sound each))

inner_header : (k : ℕ) (content : Content) (p : List ℕ) → may_hold (Some k) content ≡ true → header_before content p ≡ None
inner_header k (contents.Bytes looks.Peer q) p may = absurd cc
inner_header k content p may = refl

-- ---- lists

-- how deep attributes of a list nest, and elements of its nested lists, if n levels of lists are opened
abbrev deep : ℕ → Option ℕ → ℕ → ℕ
deep d None n = 4 * n + 6 + d
deep d (Some k) n = 4 * n + 4 + d

least_deep : (d : ℕ) (k : Option ℕ) (n : ℕ) → above 4 d ≤ deep d k n
least_deep d None n = omega arith
least_deep d (Some k) n = omega arith

opened_sound : (d n at : ℕ) (family : Family) (k : Option ℕ) (set : Family) (b : NlaBuffer) (content : Content) (inner js : List Json) → may_hold k content ≡ true → EachSound (deep d None n) (items_of inner)
    → js ≡ nest_json (nest_at family k (Some set) at b content) inner ∷ [] → EachSound (deep d k (suc n)) (items_of js)
opened_sound d n at family None set b content inner js may held e = one_sound (omega arith) e (nest_sound (nest_at family None (Some set) at b content) inner held)
opened_sound d n at family (Some k) set b content inner js may held e =
    one_sound (omega arith) e (no_peer_sound (nest_at family (Some k) (Some set) at b content) inner (inner_header k content (payload_of b) may) held)

module _ {d : ℕ} where
  -- the elements for a list, which opens six levels
  pub family_sound : (address_family : ℕ) (family : Family) (base : ℕ) (list : List ℕ) (js : List Json) (whole : Bool) → ShowsList address_family family base list js whole → EachSound (above 30 d) (items_of js)
  family_sound address_family family base list js whole s =
      let most : deep d None 6 ≡ above 30 d = omega arith in
      subst (λ n. EachSound n (items_of js)) most
      (shows_hold elements (λ k n js. EachSound (deep d k n) (items_of js)) (λ k n. no_values) (λ k n. values_both)
      (λ n level family at fault. one_sound (omega arith) refl (object_sound {d = suc d} refl (field_sound (error_sound (Some at) _) no_fields)))
      (λ n context level family k b content js has (j, shown, e).
      one_sound (least_deep d k n) e (leaf_sound (is_state context family k b) (label_for (rows_in family k) b) b content j (rows_text family k b) (keyed family k b content has) shown))
      (λ n level at family k set b content inner whole js well may held around. opened_sound d n at family k set b content inner js may held around.0)
      (λ n level at family k b list flagged inner whole js well held around. one_sound (omega arith) around.0 (no_peer_sound (nest_at family None None at b (contents.List list flagged)) inner refl held))
      6 (context_of address_family) 0 family (base, list) js whole s)

  pub link_sound : (h : LinkHeader) (list : Stretch) (j : Json) (well : Bool) → ShowsLink h list j well → IsSound (above 32 d) j
  link_sound h list j well (js, shown, e) = rw e (whole_sound {d = above 29 d} h js (array_sound (family_sound h.family Link list.0 list.1 js well shown)))
