use Rattle.std.proofs.Common.{◌≡◌, ◌++◌, List, ◌∷◌, [], subst, arith, to_z, of_z, w32, codes}
use Rattle.std.proofs.lemmas.Int.{to_z-of_z, ints}
use Rattle.json.specs.Tree.{json_tokens}
use Rattle.link_show.specs.MessageNames.{address_families, device_types, device_flags}
use Rattle.link_json.specs.Doc.{Field, signed_json}
use Rattle.link_json.specs.Value.{enum_json, flags_json}
use Rattle.link_json.proofs.Loops.{on_ok}
use Rattle.link_json.proofs.Objects.{field_then, field_only}
use Rattle.link_json.proofs.links.write_link_header.Goals as goal

pub returns : goal.returns
returns c =
    let h = c.args.header.now in
    let new = c.write_flags-2.new.doc in
    let family = subst (λ n. c.write_enum.new.doc ≡ c.key.new.self ++ json_tokens (enum_json address_families n)) c.into.ensures c.in_ok-write_enum.ensures in
    let kind = subst (λ n. c.write_enum-2.new.doc ≡ c.key-2.new.self ++ json_tokens (enum_json device_types n)) c.into-2.ensures c.in_ok-write_enum-2.ensures in
    let small : to_z w32 (of_z w32 h.index) ≡ h.index = to_z-of_z w32 h.index (omega (arith, ints)) in
    let index = subst (λ z. c.signed.new.self ≡ c.key-3.new.self ++ json_tokens (signed_json z)) small c.in_ok-signed.ensures in
    let flags = subst (λ n. c.write_flags.new.doc ≡ c.key-4.new.self ++ json_tokens (flags_json device_flags n)) c.into-3.ensures c.in_ok-write_flags.ensures in
    let t5 : List Field = (codes "change", flags_json device_flags h.change) ∷ [] in
    let t4 : List Field = (codes "flags", flags_json device_flags h.flags) ∷ t5 in
    let t3 : List Field = (codes "index", signed_json h.index) ∷ t4 in
    let t2 : List Field = (codes "type", enum_json device_types h.kind) ∷ t3 in
    on_ok c.write_flags-2.result (λ written.
    let change = subst (λ n. new ≡ c.key-5.new.self ++ json_tokens (flags_json device_flags n)) c.into-4.ensures written in
    field_then c.args.doc.now c.key.new.self c.write_enum.new.doc new (codes "family") (enum_json address_families h.family) t2 c.in_ok-key.ensures family
    (field_then c.write_enum.new.doc c.key-2.new.self c.write_enum-2.new.doc new (codes "type") (enum_json device_types h.kind) t3 c.in_ok-key-2.ensures kind
    (field_then c.write_enum-2.new.doc c.key-3.new.self c.signed.new.self new (codes "index") (signed_json h.index) t4 c.in_ok-key-3.ensures index
    (field_then c.signed.new.self c.key-4.new.self c.write_flags.new.doc new (codes "flags") (flags_json device_flags h.flags) t5 c.in_ok-key-4.ensures flags
    (field_only c.write_flags.new.doc c.key-5.new.self new (codes "change") (flags_json device_flags h.change) c.in_ok-key-5.ensures change)))))
    c.write_flags-2.ensures
