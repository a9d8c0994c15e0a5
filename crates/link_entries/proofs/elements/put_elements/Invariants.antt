use Rattle.std.proofs.Common.{◌≡◌, length}
use Rattle.link_base.specs.Viewed.{set_of, bytes_in}
use Rattle.link_entries.proofs.ElementEntries.{ElementsTo}
use Rattle.link_entries.proofs.elements.put_elements.Given as goal

abbrev pub invariant-elements : goal.invariant-elements
invariant-elements g l =
    (l.length ≡ length (bytes_in l.fn.elements)) × (set_of l.rest ≡ set_of l.fn.elements)
    × ElementsTo (g.T.AttributeSet.rows (set_of l.fn.elements)) l.kind l.at (bytes_in l.fn.elements) (bytes_in l.rest) l.fn.places l.places l.first l.next

abbrev pub decreases-elements : goal.decreases-elements
decreases-elements g l = length (bytes_in l.rest)
