use Rattle.std.proofs.Common.{◌+◌, ◌++◌, ◌∷◌, [], ◌∙◌, map, drop, ap, sym, slice_index_or}
use Rattle.std.proofs.lemmas.Bool.{cond-true}
use Rattle.std.proofs.lemmas.List.{at_drop_more, at_drop_all}
use Rattle.link_base.specs.Labels.{names_in, field_row, field_rows}
use Rattle.link_show.proofs.StructFields.{all_within, field_there}
use Rattle.link_json.specs.Doc.{fields_tokens}
use Rattle.link_json.specs.Value.{field_json}
use Rattle.link_json.proofs.Tokens.{fields_both}
use Rattle.link_json.proofs.Loops.{moved, all_moved}
use Rattle.link_json.proofs.Objects.{no_field}
use Rattle.link_json.proofs.structs.write_fields.Goals as goal

pub write_field-requires : goal.write_field-requires
write_field-requires c =
    field_there c.args.fields.now c.loop-field.field-index _ c.args.start c.args.bytes.now c.loop-field-test.true (all_within (field_rows c.args.fields.now) c.args.start c.args.bytes.now (sym c.has_fields.ensures ∙ c.if-not-has_fields.false))

pub loop-field-preserved : goal.loop-field-preserved
loop-field-preserved c =
    let shown = field_json c.args.start (names_in c.args.names.now) c.args.bytes.now in
    let xs = c.args.fields.now in
    let i = c.loop-field.field-index in
    moved c.args.doc.now c.loop-field.doc c.write_field.new.doc (fields_tokens (map shown (field_rows xs))) (fields_tokens (map shown (field_rows (drop i xs))))
    (fields_tokens (map shown (field_rows (drop (i + 1) xs)))) _ c.loop-field.invariant
    (at_drop_more (λ ys. fields_tokens (map shown (field_rows ys))) xs i _ c.loop-field-test.true ∙ fields_both (shown (field_row (slice_index_or xs i _)) ∷ []) (map shown (field_rows (drop (i + 1) xs))))
    c.in_ok-write_field.ensures

pub returns : goal.returns
returns c =
    let shown = field_json c.args.start (names_in c.args.names.now) c.args.bytes.now in
    let xs = c.args.fields.now in
    let all = all_moved c.args.doc.now c.loop-field.doc c.loop-field.doc (fields_tokens (map shown (field_rows xs))) (fields_tokens (map shown (field_rows (drop c.loop-field.field-index xs)))) (fields_tokens []) c.loop-field.invariant
    (at_drop_all (λ ys. fields_tokens (map shown (field_rows ys))) xs c.loop-field.field-index c.loop-field-test.false) (no_field c.loop-field.doc) in
    all ∙ ap (λ fields. c.args.doc.now ++ fields_tokens fields) (sym (cond-true _ _ _ (sym c.has_fields.ensures ∙ c.if-not-has_fields.false)))
