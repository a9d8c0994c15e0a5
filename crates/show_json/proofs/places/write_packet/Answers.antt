use Rattle.std.proofs.Common.{◌≡◌, ◌++◌, ◌∷◌, [], List, length, subst, codes}
use Rattle.json.specs.Tree.{json_tokens}
use Rattle.link_capture.specs.Meaning.{captured_of}
use Rattle.link_json.specs.Doc.{Field, fields_tokens, number_json}
use Rattle.link_json.proofs.Objects.{field_then, field_only, fields_then, object_then}
use Rattle.show_captures.specs.Packet.{protocol_in}
use Rattle.show_json.specs.Clock.{clock_json}
use Rattle.show_json.specs.Place.{protocol_json}
use Rattle.show_json.proofs.places.write_packet.Goals as goal

pub returns : goal.returns
returns c =
    let p = captured_of c.args.packet.now in
    let clock = clock_json c.args.clock.now in
    let protocol = protocol_json (protocol_in p) in
    let last = c.write_protocol.new.doc in
    let original = subst (λ n. c.write_number_field-3.new.doc ≡ c.write_number_field-2.new.doc ++ fields_tokens ((codes "original_len", number_json n) ∷ [])) c.into.ensures c.in_ok-write_number_field-3.ensures in
    let kind = subst (λ n. c.write_number_field-4.new.doc ≡ c.write_number_field-3.new.doc ++ fields_tokens ((codes "link_type", number_json n) ∷ [])) c.into-2.ensures c.in_ok-write_number_field-4.ensures in
    let said = subst (λ o. last ≡ c.key-2.new.self ++ json_tokens (protocol_json o)) c.protocol_in.ensures c.in_ok-write_protocol.ensures in
    let f6 : List Field = (codes "protocol", protocol) ∷ [] in
    let f5 : List Field = (codes "link_type", number_json p.link_type) ∷ f6 in
    let f4 : List Field = (codes "original_len", number_json p.original) ∷ f5 in
    let f3 : List Field = (codes "len", number_json (length p.bytes)) ∷ f4 in
    let f2 : List Field = (codes "time", clock) ∷ f3 in
    let f1 : List Field = (codes "number", number_json c.args.number) ∷ f2 in
    let t6 = field_only c.write_number_field-4.new.doc c.key-2.new.self last (codes "protocol") protocol c.in_ok-key-2.ensures said in
    let t5 = fields_then c.write_number_field-3.new.doc c.write_number_field-4.new.doc last ((codes "link_type", number_json p.link_type) ∷ []) f6 kind t6 in
    let t4 = fields_then c.write_number_field-2.new.doc c.write_number_field-3.new.doc last ((codes "original_len", number_json p.original) ∷ []) f5 original t5 in
    let t3 = fields_then c.write_clock.new.doc c.write_number_field-2.new.doc last ((codes "len", number_json (length p.bytes)) ∷ []) f4 c.in_ok-write_number_field-2.ensures t4 in
    let t2 = field_then c.write_number_field.new.doc c.key.new.self c.write_clock.new.doc last (codes "time") clock f3 c.in_ok-key.ensures c.in_ok-write_clock.ensures t3 in
    let t1 = fields_then c.begin_object.new.self c.write_number_field.new.doc last ((codes "number", number_json c.args.number) ∷ []) f2 c.in_ok-write_number_field.ensures t2 in
    object_then c.end_object.result c.args.doc.now c.begin_object.new.self last c.end_object.new.self f1 c.in_ok-begin_object.ensures t1 c.end_object.ensures
