-- Documents are lines, say whether they have an error, and nest at most 33 deep, or one deeper than the members of their place.
use Rattle.std.proofs.Common.{◌≡◌, ℕ, ◌-◌, ◌+◌, ◌≤◌, Bool, true, false, not, ◌&&◌, List, [], ◌∷◌, ◌++◌, length, Option, Some, None, is_some, refl, sym, ap, subst, ◌∙◌, append_assoc, arith, codes}
use Rattle.std.specs.List.{AllByRecursion}
use Rattle.json.specs.Json.{Json, boolean, string}
use Rattle.json.specs.Strict.{MembersHaveUniqueKeys}
use Rattle.json.specs.Tree.{depth, items_depth, members_depth, MembersHaveNumbers}
use Rattle.json.proofs.Printed.Trees.{document-print}
use Rattle.link_base.proofs.Written.{all_each, all_append}
use Rattle.netlink_packet_route.specs.declared.family.Family.{Family}
use Rattle.netlink_packet_route.specs.declared.family.Family.TheVariants as families
use Rattle.netlink_packet_route.specs.Family.{family_name}
use Rattle.link_messages.specs.declared.acknowledgement.Acknowledgement.{Acknowledgement}
use Rattle.link_messages.specs.declared.buffer_parts.Message.{Message}
use Rattle.link_messages.specs.declared.message.MessageError.{MessageError}
use Rattle.link_messages.proofs.Listing.{all_any, each_hold}
use Rattle.link_show.specs.Message.{errno_name, offset_of, reason_text}
use Rattle.link_show.specs.MessageNames.{flags_of}
use Rattle.link_json.specs.Doc.{Field, members_of, items_of, object_of, array_of, at_json}
use Rattle.link_json.specs.Line.{IsLine, IsPlace}
use Rattle.link_json.specs.Value.{text_json}
use Rattle.link_json.specs.Message.{message_error, message_fields, SaysReply, says_something, shows_said, ShowsBody, Link, Reply, General, NoLink, NoReply, Other, whole_document, ShowsMessage, ShowsEnd, Ended, Empty, Done, Zeros, Broken, ShowsMessages}
use Rattle.link_json.specs.Ok.{SaysOk, SayOk}
use Rattle.link_json.specs.Other.{place_document, fault_document, check_document, ShowsListDocument, ShowsCheck, IsCanonical, IsNot}
use Rattle.link_json.proofs.Keys.{are_keyed, distinct_members}
use Rattle.link_json.proofs.Oks.{one_says, and_say}
use Rattle.link_json.proofs.Sound.{IsSound, AreSound, above, no_fields, field_sound, fields_facts, fields_both, object_sound, array_sound, string_sound, boolean_sound, number_sound, signed_sound, name_sound, text_sound, named_sound, flags_sound, at_sound, error_sound}
use Rattle.link_json.proofs.SoundLists.{family_sound, link_sound}
use Rattle.link_json.proofs.Unbroken.{text_unbroken}

-- members, and the last
abbrev ended : List Field → Bool → List Field
ended fields well = fields ++ (codes "ok", boolean well) ∷ []

-- a document from a place: it has these members besides those of the place, whose keys are literals
pub record IsDocument (place : List Field) (j : Json) (well : Bool) : Type 0 where
  fields : List Field
  is : j ≡ whole_document place fields well
  keyed : are_keyed (ended fields well) ≡ true
  sound : (d : ℕ) → AreSound (above 32 d) (members_of (ended fields well))

-- it says whether it has an error
pub says_ok : {place : List Field} {j : Json} {well : Bool} → IsDocument place j well → SaysOk j well
says_ok {place} {well = well} h = subst (λ j. SaysOk j well) (sym h.is) (place ++ h.fields, ap object_of (sym (append_assoc place h.fields ((codes "ok", boolean well) ∷ []))))

-- documents from a place, and whether none has an error
abbrev pub AreDocuments : List Field → List Json → Bool → Type 0
AreDocuments place js whole = SayOk js whole × AllByRecursion (λ j. (well : Bool) × IsDocument place j well) js

-- ---- members

module _ {d : ℕ} where
  message_error_sound : (error : MessageError) → AreSound (above 2 d) (members_of (message_error error ∷ []))
  message_error_sound error = field_sound (error_sound (Some (offset_of error)) (reason_text error)) no_fields

  message_sound : (m : Message) → AreSound (above 2 d) (members_of (message_fields m))
  message_sound m =
      field_sound (number_sound (16 + length m.payload.now))
      (field_sound (named_sound m.kind _) (field_sound (flags_sound (flags_of m.kind) m.flags) (field_sound (number_sound m.sequence) (field_sound (number_sound m.port) no_fields))))

  reply_sound : (a : Acknowledgement) (j : Json) (well : Bool) → SaysReply a j well → IsSound (above 32 d) j
  reply_sound a j well (js, shown, e) =
      rw e (object_sound refl
      (field_sound (object_sound refl (field_sound (signed_sound a.error) (field_sound (name_sound (errno_name a.error)) no_fields)))
      (field_sound (array_sound (family_sound 0 families.Reply a.list.at a.list.bytes.now js well shown)) no_fields)))

-- ---- documents

module _ (place : List Field) where
  whole : {j : Json} {well : Bool} (fields : List Field) → j ≡ whole_document place fields well → are_keyed (ended fields well) ≡ true → ((d : ℕ) → AreSound (above 32 d) (members_of fields)) → IsDocument place j well
  whole {well = well} fields is e h = record { fields = fields; is = is; keyed = e; sound = λ d. fields_both fields _ (h d) (field_sound (boolean_sound well) no_fields) }

  pub place_is : IsDocument place (place_document place) true
  place_is = whole [] refl refl (λ d. no_fields)

  pub fault_is : (at : Option ℕ) (text : List ℕ) → IsDocument place (fault_document place at text) false
  fault_is at text =
      let fault : List Field = (codes "error", object_of ((codes "at", at_json at) ∷ (codes "text", text_json text) ∷ [])) ∷ [] in
      whole fault refl refl (λ d. field_sound (object_sound refl (field_sound (at_sound at) (field_sound (text_sound text) no_fields))) no_fields)

  pub list_is : (family : Family) (bytes : List ℕ) (j : Json) (well : Bool) → ShowsListDocument place family bytes j well → IsDocument place j well
  list_is family bytes j well (js, shown, e) =
      let list : List Field = (codes "list", object_of ((codes "family", string (family_name family)) ∷ (codes "attrs", array_of js) ∷ [])) ∷ [] in
      whole list e refl (λ d. field_sound (object_sound refl (field_sound (string_sound _) (field_sound (array_sound (family_sound 0 family 0 bytes js well shown)) no_fields))) no_fields)

  check_by : (family : Family) (at : Option ℕ) (j : Json) (well : Bool) → j ≡ check_document place family at → well ≡ not (is_some at) → IsDocument place j well
  check_by family at j well e w =
      let canonical = not (is_some at) in
      let check : List Field = (codes "check", object_of ((codes "family", string (family_name family)) ∷ (codes "canonical", boolean canonical) ∷ (codes "at", at_json at) ∷ [])) ∷ [] in
      rw w (whole check e refl (λ d. field_sound (object_sound refl (field_sound (string_sound _) (field_sound (boolean_sound canonical) (field_sound (at_sound at) no_fields)))) no_fields))

  pub check_is : (family : Family) (bytes : List ℕ) (j : Json) (well : Bool) → ShowsCheck place family bytes j well → IsDocument place j well
  check_is family bytes j well (IsCanonical t e w) = check_by family None j well e w
  check_is family bytes j well (IsNot at t e w) = check_by family (Some at) j well e w

  -- ---- messages

  -- the document of a message that says this
  says : (m : Message) {j : Json} {body other : List Field} {well : Bool} → j ≡ whole_document place (message_fields m ++ body) well → body ≡ other → are_keyed (ended (message_fields m ++ other) well) ≡ true
      → ((d : ℕ) → AreSound (above 32 d) (members_of other)) → IsDocument place j well
  says m {other = other} {well = well} is e f h =
      whole (message_fields m ++ other) (is ∙ ap (λ body. whole_document place (message_fields m ++ body) well) e) f (λ d. fields_both (message_fields m) other (message_sound m) (h d))

  all_said : (m : Message) (j : Json) (body : List Field) (well said : Bool) (a : Acknowledgement) → j ≡ whole_document place (message_fields m ++ body) well → shows_said said a body well → IsDocument place j well
  all_said m j body well true a is (reply, shown, e) = says m is e refl (λ d. field_sound (reply_sound a reply well shown) no_fields)
  all_said m j body well false a is (e, w) = says m is e refl (λ d. no_fields)

  body_is : (m : Message) (j : Json) (body : List Field) (well : Bool) → j ≡ whole_document place (message_fields m ++ body) well → ShowsBody m body well → IsDocument place j well
  body_is m j body well is (Link header g has link shown e) = says m is e refl (λ d. field_sound (link_sound header _ link well shown) no_fields)
  body_is m j body well is (Reply a t shown) = all_said m j body well (says_something a) a is shown
  body_is m j body well is (General g e w) = says m is e refl (λ d. no_fields)
  body_is m j body well is (NoLink error t g h e w) = says m is e refl (λ d. message_error_sound error)
  body_is m j body well is (NoReply error t h e w) = says m is e refl (λ d. message_error_sound error)
  body_is m j body well is (Other t l e w) = says m is e refl (λ d. no_fields)

  one_is : {j : Json} {js : List Json} {well : Bool} → js ≡ j ∷ [] → IsDocument place j well → AreDocuments place js well
  one_is {j} {js} {well} e h = rw e (one_says j well (says_ok h), ((well, h), tt))

  message_is : (m : Message) (js : List Json) (well : Bool) → ShowsMessage place m js well → AreDocuments place js well
  message_is m js well (j, (body, shown, is), e) = one_is e (body_is m j body well is shown)

  end_is : (s : List ℕ) (at : ℕ) (js : List Json) (well : Bool) → ShowsEnd place s at js well → AreDocuments place js well
  end_is s at js well (Ended t l e w) = rw e (w, tt)
  end_is s at js well (Empty t l e w) = one_is e (rw w place_is)
  end_is s at js well (Done m is t shown) = message_is m js well shown
  end_is s at js well (Zeros t error l z e w) = rw e (w, tt)
  end_is s at js well (Broken t error l z e w) = one_is e (rw w (whole (message_error error ∷ []) refl refl (λ d. message_error_sound error)))

  both_are : (a b : List Json) (v w : Bool) → AreDocuments place a v → AreDocuments place b w → AreDocuments place (a ++ b) (v && w)
  both_are a b v w h k = (and_say a b v w h.0 k.0, all_append _ a b h.1 k.1)

  pub messages_are : (s : List ℕ) (js : List Json) (whole : Bool) → ShowsMessages place s js whole → AreDocuments place js whole
  messages_are s js whole h =
      let front = each_hold (λ m. Unit {0}) (ShowsMessage place) (AreDocuments place) (refl, tt) both_are (λ m js well t shown. message_is m js well shown) h.messages h.front h.front_well (all_any h.messages) h.each in
      rw (h.joined, h.all) (both_are h.front h.last h.front_well h.last_well front (end_is s h.end h.last h.last_well h.at_end))

-- ---- with the members of the place

-- members behind others that nest at most d deep
behind : (place fields : List Field) (d : ℕ) → members_depth (members_of place) ≤ d → AreSound d (members_of fields)
    → (members_depth (members_of (place ++ fields)) ≤ d) × (MembersHaveNumbers (members_of place) → MembersHaveUniqueKeys (members_of place) → MembersHaveNumbers (members_of (place ++ fields)) × MembersHaveUniqueKeys (members_of (place ++ fields)))
behind [] fields d more h = let facts = fields_facts h in (facts.2, λ n u. (facts.0, facts.1))
behind (x ∷ place) fields d more h =
    let rest = behind place fields d (omega (arith, more)) h in
    (omega (arith, more, rest.0), λ n u. let both = rest.1 n.1 u.1 in ((n.0, both.0), (u.0, both.1)))

-- a document is a line
pub line : {place : List Field} {j : Json} {well : Bool} → IsPlace place → IsDocument place j well → IsLine j
line {place} {j} {well} is h =
    let all = behind place (ended h.fields well) 127 is.shallow (h.sound 95) in
    let good = all.1 is.numbers is.unique in
    let whole = whole_document place h.fields well in
    subst IsLine (sym h.is)
    (record { reads_back = document-print whole good.0 (omega (arith, all.0)); unbroken = text_unbroken whole good.0; unique = (distinct_members place (ended h.fields well) is.distinct h.keyed, good.1) })

pub each_line : {place : List Field} → IsPlace place → (js : List Json) → AllByRecursion (λ j. (well : Bool) × IsDocument place j well) js → AllByRecursion IsLine js
each_line {place} is = all_each (λ j. (well : Bool) × IsDocument place j well) IsLine (λ j d. line is d.1)

module _ (place : List Field) (d : ℕ) (more : 32 ≤ d) (placed : members_depth (members_of place) ≤ d) where
  pub shallow : {j : Json} {well : Bool} → IsDocument place j well → depth j ≤ d + 1
  shallow {j} {well} h =
      let all = behind place (ended h.fields well) (above 32 (d - 32)) (omega (arith, more, placed)) (h.sound (d - 32)) in
      subst (λ x. depth x ≤ d + 1) (sym h.is) (omega (arith, more, all.0))

  pub shallow_each : (js : List Json) → AllByRecursion (λ j. (well : Bool) × IsDocument place j well) js → items_depth (items_of js) ≤ d + 1
  shallow_each [] h = omega arith
  shallow_each (j ∷ js) h = omega (arith, shallow h.0.1, shallow_each js h.1)
