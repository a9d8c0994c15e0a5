use Rattle.std.proofs.Common.{◌≡◌, ◌+◌, ◌++◌, ◌∷◌, [], ◌∙◌, ap, sym, subst, append_assoc}
use Rattle.json.specs.Token.{begin_array, end_array}
use Rattle.json.specs.Tree.{json_tokens}
use Rattle.link_base.specs.Labels.{names_in}
use Rattle.link_json.specs.Doc.{array_of}
use Rattle.link_json.specs.Value.{names_json}
use Rattle.link_json.proofs.Loops.{names_left, name_more, name_other, names_done, moved, all_moved_then}
use Rattle.link_json.proofs.numbers.write_set_names.Goals as goal
use Rattle.link_json.proofs.numbers.write_set_names.Goals.{then-bits-name-ne0+in_ok-string, else-bits-name-ne0}

pub loop-name-init : goal.loop-name-init
loop-name-init c =
    let left = names_left c.args.names.now c.args.bits 0 in
    ap (λ t. t ++ left) c.in_ok-begin_array.ensures ∙ append_assoc c.args.doc.now (begin_array ∷ []) left

pub loop-name-preserved : goal.loop-name-preserved
loop-name-preserved c =
    let xs = c.args.names.now in
    let bits = c.args.bits in
    let i = c.loop-name.name-index in
    let old = c.args.doc.now in
    let whole = json_tokens (array_of (names_json (names_in xs) bits)) in
    elim c.if-bits-name-ne0.branch [
      | then-bits-name-ne0+in_ok-string w ↦
          subst (λ s. s ++ names_left xs bits (i + 1) ≡ old ++ whole) (sym w.doc-is)
          (moved old c.loop-name.doc w.string.new.self whole (names_left xs bits i) (names_left xs bits (i + 1)) _ c.loop-name.invariant
          (name_more xs i bits _ c.loop-name-test.true w.if-bits-name-ne0.true) w.in_ok-string.ensures)
      | else-bits-name-ne0 w ↦
          subst (λ s. s ++ names_left xs bits (i + 1) ≡ old ++ whole) (sym w.doc-is)
          (ap (λ t. c.loop-name.doc ++ t) (sym (name_other xs i bits _ c.loop-name-test.true w.if-bits-name-ne0.false)) ∙ c.loop-name.invariant)
    ]

pub returns : goal.returns
returns c =
    all_moved_then c.end_array.result c.args.doc.now c.loop-name.doc c.end_array.new.self (json_tokens (array_of (names_json (names_in c.args.names.now) c.args.bits))) _ (end_array ∷ []) c.loop-name.invariant
    (names_done c.args.names.now c.loop-name.name-index c.args.bits c.loop-name-test.false) c.end_array.ensures
