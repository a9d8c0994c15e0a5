use Rattle.std.proofs.Common.{◌≡◌, ◌++◌}
use Rattle.json.specs.Tree.{json_tokens}
use Rattle.link_base.specs.Labels.{names_in}
use Rattle.link_json.specs.Doc.{array_of}
use Rattle.link_json.specs.Value.{names_json}
use Rattle.link_json.proofs.Loops.{names_left}
use Rattle.link_json.proofs.numbers.write_set_names.Given as goal

abbrev pub invariant-loop-name : goal.invariant-loop-name
invariant-loop-name l = l.doc ++ names_left l.names l.bits l.name-index ≡ l.fn.doc ++ json_tokens (array_of (names_json (names_in l.names) l.bits))
