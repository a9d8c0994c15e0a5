use Rattle.std.proofs.Common.{◌≡◌, ◌+◌, ◌*◌, ◌≤◌, length}
use Rattle.link_base.specs.Viewed.{all_set_of, left_of, whole_of, set_of, bytes_in}
use Rattle.netlink_packet_route.specs.Views.{family_in}
use Rattle.link_messages.specs.Finding.{stretch_of}
use Rattle.link_messages.specs.Shown.{shows_in}
use Rattle.link_messages.proofs.Visited.{ItemsTo, InnersTo}
use Rattle.link_messages.proofs.visiting.+walk.Given as goal

abbrev pub decreases-visit_list : goal.decreases-visit_list
decreases-visit_list g l = 4 * l.depth + 3

abbrev pub decreases-visit_value : goal.decreases-visit_value
decreases-visit_value g l = 4 * l.depth + 2

abbrev pub decreases-visit_inners : goal.decreases-visit_inners
decreases-visit_inners g l = 4 * l.depth + 1

abbrev pub decreases-visit_single : goal.decreases-visit_single
decreases-visit_single g l = 4 * l.depth

abbrev pub invariant-visit_list-attributes : goal.invariant-visit_list-attributes
invariant-visit_list-attributes g l =
    let v = g.V.ListVisitor in
    (family_in (all_set_of l.items) ≡ l.fn.family) × (whole_of l.items ≡ l.list.bytes.now)
    × ItemsTo v.adds (v.display l.visitor) l.depth l.context l.level l.fn.family (stretch_of l.list) (left_of l.items) l.fn.writer l.writer l.whole

abbrev pub decreases-visit_list-attributes : goal.decreases-visit_list-attributes
decreases-visit_list-attributes g l = length (left_of l.items)

abbrev pub invariant-visit_inners-elements : goal.invariant-visit_inners-elements
invariant-visit_inners-elements g l =
    let v = g.V.ListVisitor in
    (set_of l.rest ≡ set_of l.fn.elements) × (length (bytes_in l.rest) ≤ length (bytes_in l.fn.elements))
    × InnersTo v.adds (v.display l.visitor) l.depth (shows_in (v.display l.visitor) l.depth) l.inner l.level l.at (set_of l.fn.elements).family (set_of l.fn.elements).list (bytes_in l.fn.elements) (bytes_in l.rest) l.fn.writer l.writer l.whole

abbrev pub decreases-visit_inners-elements : goal.decreases-visit_inners-elements
decreases-visit_inners-elements g l = length (bytes_in l.rest)
