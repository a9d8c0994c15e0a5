use Rattle.std.proofs.Common.{Some, None, Err, ap, ◌∙◌, sym}
use Rattle.link_capture.specs.declared.error.InputError.TheVariants as errors
use Rattle.link_capture.proofs.Blocks.{packed_by}
use Rattle.link_capture.proofs.pcapng.read_packet.Goals as goal

pub returns-in-Some : goal.returns-in-Some
returns-in-Some c =
    c.packet_from.ensures c.args.interfaces.now
    ∙ packed_by c.args.order c.args.interfaces.now c.args.unit.now c.u32_at-index.result (Some c.in-Some.interface) c.in_ok-check_least.ensures.enough c.u32_at-index.ensures (sym c.in-Some.is ∙ c.nth.ensures)

pub returns-in-None : goal.returns-in-None
returns-in-None c =
    ap (λ n. Err (errors.Interface n)) c.u32_at-index.ensures
    ∙ packed_by c.args.order c.args.interfaces.now c.args.unit.now c.u32_at-index.result None c.in_ok-check_least.ensures.enough c.u32_at-index.ensures (sym c.in-None.is ∙ c.nth.ensures)
