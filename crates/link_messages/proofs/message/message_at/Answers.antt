use Rattle.std.proofs.Common.{refl, arith}
use Rattle.link_messages.proofs.Messages.{begins_with_packet, length-payload}
use Rattle.link_messages.proofs.message.message_at.Goals as goal

pub returns : goal.returns
returns c =
    let s = c.args.bytes.now in
    let n = c.u32_at-length.result in
    record {
      begins = begins_with_packet s n c.u16_at.result c.u16_at-2.result c.u32_at.result c.u32_at-2.result (omega arith) (omega arith) (omega arith) (omega arith) (omega arith) (omega arith) (omega arith)
          c.u32_at-length.ensures.octets c.u16_at.ensures.octets c.u16_at-2.ensures.octets c.u32_at.ensures.octets c.u32_at-2.ensures.octets;
      offset = refl;
      next = omega (arith, c.min.ensures, c.padded.ensures, length-payload s n (omega arith) (omega arith));
    }
