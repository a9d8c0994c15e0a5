use Rattle.std.proofs.Common.{◌≡◌, ◌++◌, ◌/◌, map, length}
use Rattle.json.specs.Tree.{json_tokens}
use Rattle.link_base.specs.Forms.{size_in}
use Rattle.link_base.specs.Layout.{numbers_of}
use Rattle.link_json.specs.Doc.{array_of}
use Rattle.link_json.specs.Value.{item_json}
use Rattle.link_json.proofs.Loops.{numbers_left}
use Rattle.link_json.proofs.numbers.write_items.Given as goal

abbrev pub invariant-loop-i : goal.invariant-loop-i
invariant-loop-i l =
    l.doc ++ numbers_left l.of (length l.bytes / size_in l.of) l.i l.bytes
    ≡ l.fn.doc ++ json_tokens (array_of (map (item_json l.of) (numbers_of (size_in l.of) l.bytes)))
