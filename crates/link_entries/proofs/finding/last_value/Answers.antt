use Rattle.std.proofs.Common.{◌≡◌, ◌-◌, ◌∙◌, ap, ap₂, length, refl}
use Rattle.link_base.specs.Viewed.{bytes_in, set_of}
use Rattle.link_entries.proofs.LastOf.{last_none, last_next, last_all, found_set, found_within}
use Rattle.link_entries.proofs.finding.last_value.Goals as goal

pub values-init : goal.values-init
values-init g c = (ap length c.bytes-length.ensures, refl, last_none c.args.kind (bytes_in c.args.list) (set_of c.args.list))

pub values-preserved : goal.values-preserved
values-preserved g c =
    let before = c.values.invariant in
    let v = c.args.list in
    let x = c.in-Some.value in
    let steps = c.in-Some.ensures.steps in
    let list = bytes_in v in
    let rest = bytes_in c.values.rest in
    let at = length c.bytes-length.result.now - length c.bytes.result.now in
    let place : at ≡ length list - length rest = ap₂ (λ m n. m - n) before.0 (ap length c.bytes.ensures) in (
      before.0,
      steps.2 ∙ before.1,
      last_next c.args.kind list (set_of v) rest (bytes_in c.next.new.self) c.values.found c.later-found.result at x before.2 steps.0 place (steps.1 ∙ before.1) c.later-found.ensures,
    )

pub returns-in-None : goal.returns-in-None
returns-in-None g c =
    let v = c.args.list in
    let h = c.values.invariant.2 in
    record {
      last = last_all c.args.kind (bytes_in v) (set_of v) (bytes_in c.values.rest) c.values.found h c.in-None.ensures.steps.0;
      set = found_set c.args.kind (bytes_in v) (set_of v) c.values.found h.is;
      within = found_within c.args.kind (bytes_in v) (set_of v) c.values.found h.is;
    }
