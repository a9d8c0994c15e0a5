use Rattle.std.proofs.Common.{◌≡◌, ◌+◌, ◌-◌, ◌<◌, ◌^◌, true, false, [], Some, None, length, refl, sym, ap, ap₂, subst, ◌∙◌, arith}
use Rattle.std.proofs.lemmas.Result.{IfOk-weaker}
use Rattle.link_base.specs.Buffer.{kind_field_of, payload_of}
use Rattle.link_base.specs.Borrowed.{Borrows, HasValues, HasContent, elements_at}
use Rattle.link_base.specs.declared.views.content.Content.TheVariants as contents
use Rattle.link_base.specs.Table.{class_at}
use Rattle.link_base.specs.Viewed.{left_of, buffer_in, set_in, set_of, bytes_in, kind_in, payload_in}
use Rattle.link_base.proofs.Elements.{elements_decode}
use Rattle.netlink_packet_route.specs.Family.{table_of}
use Rattle.netlink_packet_route.specs.Views.{family_in, elements_table}
use Rattle.link_messages.specs.Finding.{Stretch, stretch_of}
use Rattle.link_messages.specs.Shown.{nest_of, IsKnown, nest_at, ShowsInner, shows_in}
use Rattle.link_messages.proofs.Listing.{LeadTo, shown_none}
use Rattle.link_messages.proofs.Visited.{ItemsTo, Going, opened_shown, nested_shown, single_shown, inner_more, decoded_more, fault_more, items_all, next_within, payload_within, within_room, held_reached, list_payload}
use Rattle.link_messages.specs.Within.{IsWithin}
use Rattle.link_messages.proofs.Walking.{split_short}
use Rattle.link_messages.proofs.visiting.+walk.Goals as goal

pub visit_list-attributes-init : goal.visit_list-attributes-init
visit_list-attributes-init g t c =
    let v = g.V.ListVisitor in
    let made = c.new-items.ensures in
    let w = c.args.writer.now in
    let list = stretch_of c.args.list in (
      ap family_in made.set,
      made.list.0,
      subst (λ rest. ItemsTo v.adds (v.display c.args.visitor.now) c.args.depth c.args.context.now c.args.level c.args.family list rest w w true) (sym made.list.1) (Going (shown_none _ (LeadTo list.1 list.1) w refl (g.met.V.ListVisitor.none w))),
    )

pub visit_list-attributes-preserved : goal.visit_list-attributes-preserved
visit_list-attributes-preserved g t c =
    let v = g.V.ListVisitor in
    let before = c.attributes.invariant in
    let items = c.attributes.items in
    let next = c.next.new.self in
    let e = c.in-Some-Err.error in
    let list = stretch_of c.args.list in
    let steps = rw c.in-Some-Err.field-0-is at c.in-Some-Err.ensures.steps in
    let place : c.args.list.at + c.offset.result ≡ c.args.list.at + (length list.1 - length (left_of items)) = omega (arith, c.offset.ensures, ap length before.1) in (
      ap family_in steps.4 ∙ before.0,
      steps.3 ∙ before.1,
      fault_more v.adds (v.display c.args.visitor.now) c.args.depth c.args.context.now c.args.level c.args.family list g.met.V.ListVisitor.both (left_of items) (left_of next) c.args.writer.now c.attributes.writer
          c.error.new.writer c.attributes.whole _ e.fault before.2 steps.0 place (rw before.0 at steps.2) c.in_ok-error-in-Some-Err.ensures,
    )

pub visit_list-attributes-preserved-in-Some-Ok : goal.visit_list-attributes-preserved-in-Some-Ok
visit_list-attributes-preserved-in-Some-Ok g t c =
    let v = g.V.ListVisitor in
    let before = c.attributes.invariant in
    let items = c.attributes.items in
    let next = c.next.new.self in
    let x = c.in-Some-Ok.value in
    let list = stretch_of c.args.list in
    let steps = rw c.in-Some-Ok.field-0-is at c.in-Some-Ok.ensures.steps in
    let place : c.args.list.at + c.offset.result ≡ c.args.list.at + (length list.1 - length (left_of items)) = omega (arith, c.offset.ensures, ap length before.1) in
    let family : family_in (set_in x) ≡ c.args.family = ap family_in steps.1 ∙ before.0 in (
      ap family_in steps.3 ∙ before.0,
      steps.2 ∙ before.1,
      decoded_more v.adds (v.display c.args.visitor.now) c.args.depth c.args.context.now c.args.level c.args.family list g.met.V.ListVisitor.both (left_of items) (left_of next) c.args.writer.now c.attributes.writer
          c.visit_value.new.writer c.attributes.whole c.in_ok-well-in-Some-Ok.well (buffer_in x) _ before.2 steps.0 place (rw family at c.in_ok-well-in-Some-Ok.ensures),
    )

pub visit_list-returns-in-None : goal.visit_list-returns-in-None
visit_list-returns-in-None g t c =
    let v = g.V.ListVisitor in
    items_all v.adds (v.display c.args.visitor.now) c.args.depth c.args.context.now c.args.level c.args.family (stretch_of c.args.list) g.met.V.ListVisitor.both (left_of c.attributes.items) c.args.writer.now
    c.attributes.writer c.attributes.whole (g.met.V.ListVisitor.none c.attributes.writer) c.attributes.invariant.2 c.in-None.ensures.steps.0

pub visit_list-visit_value-requires : goal.visit_list-visit_value-requires
visit_list-visit_value-requires g t c κs within =
    let v = g.V.ListVisitor in
    let before = c.attributes.invariant in
    let items = c.attributes.items in
    let list = stretch_of c.args.list in
    let payload : Stretch = (c.args.list.at + c.offset.result + 4, payload_of (buffer_in c.in-Some-Ok.value)) in
    let steps = rw c.in-Some-Ok.field-0-is at c.in-Some-Ok.ensures.steps in
    let place : c.args.list.at + c.offset.result ≡ c.args.list.at + (length list.1 - length (left_of items)) = omega (arith, c.offset.ensures, ap length before.1) in
    let inside = next_within v.adds (v.display c.args.visitor.now) c.args.depth c.args.context.now c.args.level c.args.family list (left_of items) (left_of c.next.new.self) c.args.writer.now c.attributes.writer
    c.attributes.whole (buffer_in c.in-Some-Ok.value) _ before.2 steps.0 place in
    let room : payload.0 + length payload.1 < 2 ^ 64 = within_room list payload inside c.args.list.within in
    (omega arith, (within.0, (within.1.0, (within.1.1, (c.requires.levels, (room, g.met.V.ListVisitor.part c.args.visitor.now list payload c.requires.reached inside))))))

pub visit_value-returns-then-omits : goal.visit_value-returns-then-omits
visit_value-returns-then-omits g t c =
    let d = g.V.ListVisitor.display c.args.visitor.now in
    let x = c.args.value.now in
    let family = family_in (set_in x) in
    let out : d.omits c.args.context.now family (kind_in x) ≡ true = sym (c.omits.ensures ∙ ap₂ (d.omits c.args.context.now) (ap family_in c.set-family.ensures) c.kind-kind.ensures) ∙ c.if-omits.true in
    ([], rw out (refl, refl), g.met.V.ListVisitor.none c.args.writer.now)

pub visit_inners-elements-init : goal.visit_inners-elements-init
visit_inners-elements-init g t c =
    let d = g.V.ListVisitor.display c.args.visitor.now in
    let v = c.args.elements in
    let w = c.args.writer.now in (
      refl,
      omega arith,
      shown_none (ShowsInner d c.args.depth (shows_in d c.args.depth) c.of_elements-inner.result c.args.level c.args.at (set_of v).family (set_of v).list) (LeadTo (bytes_in v) (bytes_in v)) w refl (g.met.V.ListVisitor.none w),
    )

pub visit_inners-elements-preserved : goal.visit_inners-elements-preserved
visit_inners-elements-preserved g t c =
    let v = g.V.ListVisitor in
    let d = v.display c.args.visitor.now in
    let before = c.elements.invariant in
    let all = c.args.elements in
    let x = c.in-Some.element in
    let steps = c.in-Some.ensures.steps in
    let list = bytes_in all in
    let rest = bytes_in c.elements.rest in
    let after = bytes_in c.next.new.self in
    let set : set_in x ≡ set_of all = steps.1 ∙ before.0 in
    let known = c.known-known in
    let has : HasContent (elements_table (set_in x)) (buffer_in x) known.result.content = record { decodes = x.decodes; borrows = known.ensures.content; form = known.ensures.form } in
    let place : c.args.at + (length c.bytes-size.result.now - length c.bytes.result.now) ≡ c.args.at + (length list - length rest) = omega (arith, ap length c.bytes.ensures, ap length c.bytes-size.ensures) in
    let written = rw c.set-set.ensures at c.in_ok-well.ensures in (
      steps.2 ∙ before.0,
      omega (arith, before.1, (split_short rest (buffer_in x) after steps.0).1),
      inner_more v.adds d c.args.depth (shows_in d c.args.depth) c.of_elements-inner.result c.args.level c.args.at (set_of all).family (set_of all).list list g.met.V.ListVisitor.both rest after c.args.writer.now
          c.elements.writer c.visit_single.new.writer c.elements.whole c.in_ok-well.well (buffer_in x) c.buffer.result _ known.result.content before.2 steps.0
          (subst (λ s. HasContent (elements_table s) (buffer_in x) known.result.content) set has) place c.buffer.ensures written,
    )

pub visit_inners-visit_single-requires : goal.visit_inners-visit_single-requires
visit_inners-visit_single-requires g t c κs within =
    let v = g.V.ListVisitor in
    let before = c.elements.invariant in
    let x = c.in-Some.element in
    let steps = c.in-Some.ensures.steps in
    let list : Stretch = (c.args.at, bytes_in c.args.elements) in
    let rest = bytes_in c.elements.rest in
    let known = c.known-known in
    let at = c.args.at + (length c.bytes-size.result.now - length c.bytes.result.now) in
    let is : IsKnown (elements_table (set_in x)) (buffer_in x) known.result = record { content = record { decodes = x.decodes; borrows = known.ensures.content; form = known.ensures.form }; label = known.ensures.label } in
    let same : set_in x ≡ c.set-set.result = steps.1 ∙ before.0 ∙ sym c.set-set.ensures in
    let place : at ≡ c.args.at + (length list.1 - length rest) = omega (arith, ap length c.bytes.ensures, ap length c.bytes-size.ensures) in
    let inside = subst (λ b. IsWithin list (at + 4, payload_of b)) (sym c.buffer.ensures) (payload_within list before.2.items rest (bytes_in c.next.new.self) (buffer_in x) at before.2.leads steps.0 place) in
    let found = subst (λ b. IsKnown (elements_table c.set-set.result) b known.result) (sym c.buffer.ensures) (subst (λ s. IsKnown (elements_table s) (buffer_in x) known.result) same is) in
    let room : at + 4 + length (payload_of c.buffer.result) < 2 ^ 64 = within_room list _ inside c.requires.room in
    (omega arith, (within.0, (within.1.0, (within.1.1, (c.requires.levels, (found, (room, g.met.V.ListVisitor.part c.args.visitor.now list _ c.requires.reached inside)))))))

pub visit_value-visit_single-requires : goal.visit_value-visit_single-requires
visit_value-visit_single-requires g t c κs within =
    let v = g.V.ListVisitor in
    let x = c.args.value.now in
    let known = c.known-known in
    let is : IsKnown (table_of (family_in (set_in x))) (buffer_in x) known.result = record { content = record { decodes = x.decodes; borrows = known.ensures.content; form = known.ensures.form }; label = known.ensures.label } in
    let found = subst (λ b. IsKnown (table_of (family_in c.set-family.result)) b known.result) (sym c.buffer-buffer.ensures) (subst (λ s. IsKnown (table_of (family_in s)) (buffer_in x) known.result) (sym c.set-family.ensures) is) in
    let room : c.args.at + 4 + length (payload_of c.buffer-buffer.result) < 2 ^ 64 = omega (arith, ap (λ b. length (payload_of b)) c.buffer-buffer.ensures, c.requires.room) in
    let reached = subst (λ b. v.reaches c.args.visitor.now (c.args.at + 4, payload_of b)) (sym c.buffer-buffer.ensures) c.requires.reached in
    (omega arith, (within.0, (within.1.0, (within.1.1, (omega (arith, c.requires.levels), (found, (room, reached)))))))

pub visit_value-of_checked-elements-requires : goal.visit_value-of_checked-elements-requires
visit_value-of_checked-elements-requires g t c =
    let x = c.args.value.now in
    let table = table_of (family_in (set_in x)) in
    let borrows = subst (Borrows (class_at table (kind_in x)) (payload_in x)) c.in-List.is c.known-known.ensures.content in
    subst (λ t. HasValues t c.in-List.list.now) (sym (ap₂ (λ s k. elements_at (table_of (family_in s)) k) c.set-family.ensures c.kind-kind.ensures))
    (elements_decode table (kind_field_of (buffer_in x)) (payload_in x) c.in-List.list _ x.decodes borrows)

pub visit_value-visit_inners-requires : goal.visit_value-visit_inners-requires
visit_value-visit_inners-requires g t c κs within =
    let v = g.V.ListVisitor in
    let x = c.args.value.now in
    let table = table_of (family_in (set_in x)) in
    let borrows = subst (Borrows (class_at table (kind_in x)) (payload_of (buffer_in x))) c.in-List.is c.known-known.ensures.content in
    let elements = bytes_in c.of_checked-elements.result in
    let same : elements ≡ payload_of (buffer_in x) = c.of_checked-elements.ensures.bytes ∙ list_payload (class_at table (kind_in x)) (payload_of (buffer_in x)) c.in-List.list _ borrows in
    let room : c.args.at + 4 + length elements < 2 ^ 64 = omega (arith, ap length same, c.requires.room) in
    (omega arith, (within.0, (within.1.0, (within.1.1, (omega (arith, c.requires.levels), (room, subst (λ p. v.reaches c.args.visitor.now (c.args.at + 4, p)) (sym same) c.requires.reached))))))

pub visit_value-returns-in_ok-whole-in-List : goal.visit_value-returns-in_ok-whole-in-List
visit_value-returns-in_ok-whole-in-List g t c =
    let d = g.V.ListVisitor.display c.args.visitor.now in
    let x = c.args.value.now in
    let b = buffer_in x in
    let family = family_in (set_in x) in
    let known = c.known-known in
    let content = known.result.content in
    let set = c.of_checked-elements.ensures.set in
    let (inner, shown, added) = c.in_ok-whole-in-List.ensures in
    let kept : d.omits c.args.context.now family (kind_in x) ≡ false = sym (c.omits.ensures ∙ ap₂ (d.omits c.args.context.now) (ap family_in c.set-family.ensures) c.kind-kind.ensures) ∙ c.if-omits.false in
    let has : HasContent (table_of family) b content = record { decodes = x.decodes; borrows = known.ensures.content; form = known.ensures.form } in
    let h = nest_of c.held_list-held.result in
    let is : h ≡ nest_at family None None c.args.at b (contents.List c.in-List.list c.in-List.flagged) =
    rw (c.set-family.ensures, c.buffer-buffer.ensures, known.ensures.label, c.in-List.is) at c.held_list-held.ensures in
    IfOk-weaker c.end.result _ _
    (λ well closes.
    let (out, around, written) = closes c.args.writer.now c.begin.new.writer inner c.in_ok-begin-in-List.ensures added in
    let nested = nested_shown d c.args.depth (shows_in d c.args.depth) c.args.context.now c.args.level c.args.at family b c.in-List.list _ h _ _ _ inner c.in_ok-whole-in-List.whole out well
    (subst (HasContent (table_of family) b) c.in-List.is has) is (ap (λ s. s.family) set ∙ ap family_in c.set-family.ensures) (ap (λ s. s.list) set ∙ c.kind-kind.ensures) c.of_checked-elements.ensures.bytes shown around in
    (out, rw kept nested, written)) c.end.ensures

pub visit_value-returns-in_default : goal.visit_value-returns-in_default
visit_value-returns-in_default g t c =
    let d = g.V.ListVisitor.display c.args.visitor.now in
    let x = c.args.value.now in
    let family = family_in (set_in x) in
    let known = c.known-known in
    let kept : d.omits c.args.context.now family (kind_in x) ≡ false = sym (c.omits.ensures ∙ ap₂ (d.omits c.args.context.now) (ap family_in c.set-family.ensures) c.kind-kind.ensures) ∙ c.if-omits.false in
    let has : HasContent (table_of family) (buffer_in x) known.result.content = record { decodes = x.decodes; borrows = known.ensures.content; form = known.ensures.form } in
    IfOk-weaker c.visit_single.result _ _
    (λ well (out, shown, written).
    let single = single_shown d c.args.depth (shows_in d c.args.depth) c.args.context.now c.args.level c.args.at family (buffer_in x) c.buffer-buffer.result _ known.result.content out well has c.buffer-buffer.ensures
    (ap family_in c.set-family.ensures) c.in_default.not-List shown in
    (out, rw kept single, written)) c.visit_single.ensures

pub visit_single-begin-requires-clause-reached : goal.visit_single-begin-requires-clause-reached
visit_single-begin-requires-clause-reached g t c =
    held_reached (g.V.ListVisitor.reaches c.args.visitor.now) (g.met.V.ListVisitor.part c.args.visitor.now) c.args.known.now.content (c.args.at + 4, payload_of c.args.buffer) _
    (ap (λ h. h.list) c.held_list-held.ensures) c.requires.reached

pub visit_single-visit_list-requires : goal.visit_single-visit_list-requires
visit_single-visit_list-requires g t c κs within =
    let some = rw c.in-Some.is at c.opened_at.ensures.depth in
    let reached =
    held_reached (g.V.ListVisitor.reaches c.args.visitor.now) (g.met.V.ListVisitor.part c.args.visitor.now) c.args.known.now.content (c.args.at + 4, payload_of c.args.buffer) _
    (ap (λ h. h.list) c.held_list-held.ensures) c.requires.reached in
    (omega (arith, some), (within.0, (within.1.0, (within.1.1, (omega (arith, some, c.requires.levels), reached)))))

pub visit_single-returns-in_ok-whole-in-Some : goal.visit_single-returns-in_ok-whole-in-Some
visit_single-returns-in_ok-whole-in-Some g t c =
    let d = g.V.ListVisitor.display c.args.visitor.now in
    let f = c.raw_kind-f.result in
    let opened = c.opened_at in
    let (inner, shown, added) = c.in_ok-whole-in-Some.ensures in
    let b = c.args.buffer in
    let content = c.args.known.now.content in
    let set = c.in-Some.set in
    let h = nest_of c.held_list-held.result in
    let answer = rw c.in-Some.is at opened.ensures.answer in
    let some = rw c.in-Some.is at opened.ensures.depth in
    let is : h ≡ nest_at c.args.family c.args.list (Some set) c.args.at b content = rw c.requires.known.label at c.held_list-held.ensures in
    IfOk-weaker c.end.result _ _
    (λ well closes.
    let (out, around, written) = closes c.args.writer.now c.begin.new.writer inner c.in_ok-begin-in-Some.ensures added in (
      out,
      opened_shown d c.args.depth c.args.context.now c.context_below-inner.result c.args.level c.args.at c.args.family c.args.list b content set f h inner c.in_ok-whole-in-Some.whole out well answer some c.raw_kind-f.ensures is
          c.context_below-inner.ensures shown around,
      written,
    )) c.end.ensures
