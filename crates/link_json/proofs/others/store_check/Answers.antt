use Rattle.std.proofs.Common.{◌≡◌, ◌++◌, ◌∷◌, [], not, OnOk, subst, codes}
use Rattle.std.specs.Option.{is_some}
use Rattle.json.specs.Token as token
use Rattle.json.specs.Json.{string, boolean}
use Rattle.json.specs.Tree.{json_tokens}
use Rattle.netlink_packet_route.specs.Family.{family_name}
use Rattle.link_json.specs.Doc.{at_json, fields_tokens}
use Rattle.link_json.proofs.Loops.{on_ok}
use Rattle.link_json.proofs.Objects.{field_then, field_only}
use Rattle.link_json.proofs.OtherParts.{member_document, canonical_of}
use Rattle.link_json.proofs.others.store_check.Goals as goal

pub returns : goal.returns
returns g c =
    let place = g.P.Place.fields c.args.place.now in
    let first = c.args.first in
    let well = not (is_some first) in
    let same : c.is_none-canonical.result ≡ well = canonical_of first c.is_none-canonical.result c.is_none-canonical.ensures in
    let name = string (family_name c.args.family) in
    let at = at_json first in
    let named = subst (λ n. c.string.new.self ≡ c.key-2.new.self ++ json_tokens (string n)) c.name.ensures c.in_ok-string.ensures in
    let judged = subst (λ b. c.boolean.new.self ≡ c.key-3.new.self ++ json_tokens (boolean b)) same c.in_ok-boolean.ensures in
    let found = subst (λ a. c.write_offset.new.doc ≡ c.key-4.new.self ++ json_tokens (at_json a)) c.widened.ensures c.in_ok-write_offset.ensures in
    let o = c.begin_object-2.new.self in
    let f = c.write_offset.new.doc in
    let fields = field_then o c.key-2.new.self c.string.new.self f (codes "family") name ((codes "canonical", boolean well) ∷ (codes "at", at) ∷ []) c.in_ok-key-2.ensures named
    (field_then c.string.new.self c.key-3.new.self c.boolean.new.self f (codes "canonical") (boolean well) ((codes "at", at) ∷ []) c.in_ok-key-3.ensures judged
    (field_only c.boolean.new.self c.key-4.new.self f (codes "at") at c.in_ok-key-4.ensures found)) in
    on_ok c.end_document.result
    (λ ended. member_document c.args.doc.now c.begin_object.new.self c.write_fields.new.doc c.key.new.self o f c.end_object.new.self c.end_document.new.doc place
    ((codes "family", name) ∷ (codes "canonical", boolean well) ∷ (codes "at", at) ∷ []) (codes "check") well c.in_ok-begin_object.ensures c.in_ok-write_fields.ensures c.in_ok-key.ensures c.in_ok-begin_object-2.ensures
    fields c.in_ok-end_object.ensures ended)
    (subst (λ b. OnOk c.end_document.result (c.end_document.new.doc ≡ c.end_object.new.self ++ (fields_tokens ((codes "ok", boolean b) ∷ []) ++ token.end_object ∷ []))) same c.end_document.ensures)
