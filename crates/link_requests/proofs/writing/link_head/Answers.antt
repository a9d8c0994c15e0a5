use Rattle.std.proofs.Common.{◌∷◌, ◌++◌, ap, ap₂}
use Rattle.link_requests.proofs.HeadBytes.{two_bytes, four_bytes, four_parts}
use Rattle.link_requests.proofs.writing.link_head.Goals as goal

pub returns : goal.returns
returns c =
    let head = c.args.head.now in
    ap (λ s. head.address_family ∷ 0 ∷ s)
    (ap₂ (λ s t. s ++ t) (two_bytes head.link_type c.to_le_bytes.result c.to_le_bytes.ensures)
    (ap₂ (λ s t. s ++ t) (four_parts c.index_bytes.result _ c.index_bytes.ensures)
    (ap₂ (λ s t. s ++ t) (four_bytes head.link_flags c.to_le_bytes-2.result c.to_le_bytes-2.ensures)
    (four_bytes head.change c.to_le_bytes-3.result c.to_le_bytes-3.ensures))))
