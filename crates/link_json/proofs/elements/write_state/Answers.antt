use Rattle.std.proofs.Common.{◌≡◌, ◌+◌, ◌++◌, ◌∷◌, [], ap₂, ◌∙◌, arith, codes}
use Rattle.json.specs.Json.{string}
use Rattle.json.specs.Tree.{json_tokens}
use Rattle.link_show.specs.Held.{state_names}
use Rattle.link_json.specs.Value.{enum_json}
use Rattle.link_json.proofs.Loops.{on_ok}
use Rattle.link_json.proofs.Objects.{field_then, field_only, object_written}
use Rattle.link_json.proofs.elements.write_state.Goals as goal

pub returns : goal.returns
unfolding state_names
returns c =
    let a = c.begin_object.new.self in
    let s = c.string.new.self in
    let k = c.key-2.new.self in
    let w = c.write_enum.new.doc in
    let name = string (codes "protinfo") in
    let value = enum_json state_names (c.args.state + 0) in
    let number : c.into.result ≡ c.args.state + 0 = omega (arith, c.into.ensures) in
    let written = c.in_ok-write_enum.ensures ∙ ap₂ (λ names n. k ++ json_tokens (enum_json names n)) c.names.ensures number in
    on_ok c.end_object.result
    (λ e. object_written c.args.doc.now a w c.end_object.new.self ((codes "name", name) ∷ (codes "value", value) ∷ []) c.in_ok-begin_object.ensures
    (field_then a c.key.new.self s w (codes "name") name ((codes "value", value) ∷ []) c.in_ok-key.ensures c.in_ok-string.ensures
    (field_only s k w (codes "value") value c.in_ok-key-2.ensures written)) e)
    c.end_object.ensures
