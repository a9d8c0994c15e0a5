use Rattle.std.proofs.Common.{◌≡◌, ◌≤◌, ℕ, ◌++◌, ◌/◌, length}
use Rattle.json.specs.Tree.{json_tokens}
use Rattle.link_base.specs.Forms.{size_in}
use Rattle.link_base.specs.Labels.{names_in, name_in}
use Rattle.link_base.specs.Layout.{numbers_of}
use Rattle.link_json.specs.Doc.{object_of}
use Rattle.link_json.specs.Value.{places_json}
use Rattle.link_json.proofs.Loops.{places_left}
use Rattle.link_json.proofs.numbers.write_places.Given as goal

abbrev pub invariant-loop-i : goal.invariant-loop-i
invariant-loop-i l =
    (l.doc ++ places_left (names_in l.names) l.of (length l.bytes / size_in l.of) l.i l.bytes
    ≡ l.fn.doc ++ json_tokens (object_of (places_json (names_in l.names) l.of 0 (numbers_of (size_in l.of) l.bytes))))
    × ((k : ℕ) → l.i ≤ k → name_in (names_in l.left) k ≡ name_in (names_in l.names) k)
