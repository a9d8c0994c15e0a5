use Rattle.std.proofs.Common.{◌/◌, ◌+◌, ◌*◌, ◌++◌, ◌∷◌, [], ◌∙◌, ap, append_assoc, length, arith}
use Rattle.json.specs.Token.{key}
use Rattle.json.specs.Tree.{json_tokens}
use Rattle.link_base.specs.Forms.{size_in}
use Rattle.link_base.specs.Labels.{names_in, name_in}
use Rattle.link_base.specs.Layout.{number_at}
use Rattle.link_json.specs.Value.{item_json, place_key}
use Rattle.link_json.proofs.Loops.{places_left, place_tokens, place_more, moved}
use Rattle.link_json.proofs.numbers.write_places.Goals as goal

pub loop-i-preserved : goal.loop-i-preserved
loop-i-preserved c =
    let names = names_in c.args.names.now in
    let a = c.args.of in
    let p = c.args.bytes.now in
    let n = length p / size_in a in
    let i = c.loop-i.i in
    let first = key (place_key i (name_in names i)) ∷ [] in
    let number = json_tokens (item_json a (number_at (size_in a) (i * size_in a) p)) in
    let same = c.names_from-left.ensures i (omega arith) ∙ c.loop-i.invariant.1 i (omega arith) in
    let named = c.in_ok-write_place.ensures ∙ ap (λ name. c.loop-i.doc ++ key (place_key i name) ∷ []) same in
    let written = c.in_ok-write_item.ensures ∙ ap (λ t. t ++ number) named ∙ append_assoc c.loop-i.doc first number in (
      moved c.args.doc.now c.loop-i.doc c.write_item.new.doc _ (places_left names a n i p) (places_left names a n (i + 1) p) (place_tokens names a i p) c.loop-i.invariant.0
          (place_more names a n i p (rw c.size.ensures.value at c.loop-i-test.true)) written,
      λ k le. c.names_from-left.ensures k (omega (arith, le)) ∙ c.loop-i.invariant.1 k (omega (arith, le)),
    )
