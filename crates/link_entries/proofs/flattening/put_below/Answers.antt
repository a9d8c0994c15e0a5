use Rattle.std.proofs.Common.{◌≡◌, true, [], refl, sym, ap, subst, ◌∙◌, arith}
use Rattle.link_base.specs.Frame.{kind_of}
use Rattle.link_base.specs.Buffer.{kind_field_of, payload_of}
use Rattle.link_base.specs.Viewed.{set_in, buffer_in}
use Rattle.link_base.specs.Table.{class_at}
use Rattle.link_base.specs.Borrowed.{HasValues, Borrows}
use Rattle.link_base.proofs.Elements.{elements_decode}
use Rattle.link_entries.specs.Flat.{Elements, Puts, number_entries}
use Rattle.link_entries.proofs.ElementEntries.{few_numbers}
use Rattle.link_entries.proofs.Shapes.{addresses_decode, no_elements, array_payload}
use Rattle.link_entries.proofs.flattening.put_below.Goals as goal

pub of_checked-requires : goal.of_checked-requires
of_checked-requires g c =
    let table = g.S.AttributeSet.rows (set_in c.args.value.now) in
    let b = buffer_in c.args.value.now in
    let bytes = c.in-List.list in
    let shape = class_at table (kind_of (kind_field_of b)) in
    let borrows = subst (Borrows shape (payload_of b)) c.in-List.is c.requires.content.borrows in
    subst (λ t. HasValues t bytes.now) (sym c.requires.elements) (elements_decode table (kind_field_of b) (payload_of b) bytes c.in-List.flagged c.requires.content.decodes borrows)

pub of_checked-requires-in-Addresses : goal.of_checked-requires-in-Addresses
of_checked-requires-in-Addresses g c =
    let table = g.S.AttributeSet.rows (set_in c.args.value.now) in
    let b = buffer_in c.args.value.now in
    let shape = class_at table (kind_of (kind_field_of b)) in
    let borrows = subst (Borrows shape (payload_of b)) c.in-Addresses.is c.requires.content.borrows in
    addresses_decode table (kind_field_of b) (payload_of b) c.in-Addresses.list c.in-Addresses.size c.requires.content.decodes borrows

pub returns-in-Numbers : goal.returns-in-Numbers
returns-in-Numbers g c =
    let table = g.S.AttributeSet.rows (set_in c.args.value.now) in
    let b = buffer_in c.args.value.now in
    let k = kind_of (kind_field_of b) in
    let a = c.in-Numbers.of in
    let bytes = c.in-Numbers.bytes in
    let es = number_entries k c.args.at a bytes.now in
    let elements = subst (λ content. Elements table k c.args.at content es) (sym c.in-Numbers.is) refl in
    let puts = subst (λ n. Puts c.args.places.now c.put_numbers.new.places c.args.first (number_entries n c.args.at a bytes.now) c.put_numbers.result) c.kind-kind.ensures c.put_numbers.ensures in
    let within = array_payload (class_at table k) (payload_of b) a bytes (subst (Borrows (class_at table k) (payload_of b)) c.in-Numbers.is c.requires.content.borrows) in
    (es, elements, puts, omega (arith, within, few_numbers k c.args.at a bytes.now))

pub returns-in_default : goal.returns-in_default
returns-in_default g c =
    let elements =
    no_elements (g.S.AttributeSet.rows (set_in c.args.value.now)) (kind_of (kind_field_of (buffer_in c.args.value.now))) c.args.at c.args.content c.in_default.not-Numbers c.in_default.not-Addresses c.in_default.not-List in
    ([], elements, (refl, omega arith), omega arith)
