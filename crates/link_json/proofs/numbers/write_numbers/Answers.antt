use Rattle.std.proofs.Common.{◌≡◌, ◌++◌, OnOk, sym, subst, ◌∙◌}
use Rattle.json.specs.Tree.{json_tokens}
use Rattle.link_base.specs.Forms.{size_in}
use Rattle.link_base.specs.Layout.{numbers_of}
use Rattle.link_json.proofs.Loops.{without_names, with_names}
use Rattle.link_json.proofs.numbers.write_numbers.Goals as goal

pub returns-then-is_empty : goal.returns-then-is_empty
returns-then-is_empty c =
    subst (λ j. OnOk c.write_items.result (c.write_items.new.doc ≡ c.args.doc.now ++ json_tokens j))
    (sym (without_names c.args.of c.args.names.now (numbers_of (size_in c.args.of) c.args.bytes.now) (sym c.is_empty.ensures ∙ c.if-is_empty.true))) c.write_items.ensures

pub returns-else-is_empty : goal.returns-else-is_empty
returns-else-is_empty c =
    subst (λ j. OnOk c.write_places.result (c.write_places.new.doc ≡ c.args.doc.now ++ json_tokens j))
    (sym (with_names c.args.of c.args.names.now (numbers_of (size_in c.args.of) c.args.bytes.now) (sym c.is_empty.ensures ∙ c.if-is_empty.false))) c.write_places.ensures
