use Rattle.std.proofs.Common.{◌≡◌, ◌≢◌, ◌+◌, ◌/◌, [], length, map, refl, sym, ap, ◌∙◌, arith}
use Rattle.std.proofs.lemmas.Grind.{common_steps}
use Rattle.link_base.proofs.AddressLists.{kept_none, kept_all, kept_fault}
use Rattle.link_base.proofs.classes.address_list.read_addresses.Goals as goal

pub returns-then-is_empty-clause-answer : goal.returns-then-is_empty-clause-answer
returns-then-is_empty-clause-answer g c =
    let n = g.A.Address.SIZE in
    let s = c.args.payload.now in
    let none : s ≡ [] = grind (arith, common_steps) in
    kept_all n c.args.kind s s _ (kept_none n s _ (ap (map g.A.Address.octets) c.new.ensures.items)) none

pub returns-in-Some-clause-answer : goal.returns-in-Some-clause-answer
returns-in-Some-clause-answer g c =
    let n = g.A.Address.SIZE in
    let s = c.args.payload.now in
    let some : s ≢ [] = λ e. grind (arith, common_steps) in
    kept_fault n c.args.kind s s [] c.in-Some.cause (kept_none n s [] refl) some (sym c.cause_at_front.ensures ∙ c.in-Some.is)

pub push_addresses-requires-clause-room : goal.push_addresses-requires-clause-room
push_addresses-requires-clause-room g c = c.in-Ok.ensures.exact ∙ ap (λ m. length c.args.payload.now / (m + 4)) c.SIZE.ensures
