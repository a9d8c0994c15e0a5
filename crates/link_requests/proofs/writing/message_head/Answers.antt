use Rattle.std.proofs.Common.{◌++◌, ap₂, bit_or}
use Rattle.link_requests.proofs.HeadBytes.{two_bytes, four_bytes}
use Rattle.link_requests.proofs.writing.message_head.Goals as goal

pub returns : goal.returns
returns c =
    let head = c.args.head.now in
    ap₂ (λ s t. s ++ t) (four_bytes c.args.length c.to_le_bytes.result c.to_le_bytes.ensures)
    (ap₂ (λ s t. s ++ t) (two_bytes head.kind c.to_le_bytes-2.result c.to_le_bytes-2.ensures)
    (ap₂ (λ s t. s ++ t) (two_bytes (bit_or head.flags 1) c.to_le_bytes-3.result c.to_le_bytes-3.ensures)
    (ap₂ (λ s t. s ++ t) (four_bytes head.sequence c.to_le_bytes-4.result c.to_le_bytes-4.ensures)
    (four_bytes head.port c.to_le_bytes-5.result c.to_le_bytes-5.ensures))))
