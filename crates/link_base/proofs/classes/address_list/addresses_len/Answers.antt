use Rattle.std.proofs.Common.{◌≡◌, ◌+◌, ◌*◌, ◌∙◌, ap, length, map, arith}
use Rattle.link_base.specs.Frame.{bytes_of_frames, pad}
use Rattle.link_base.specs.Table.{addresses_from}
use Rattle.link_base.proofs.AddressLists.{length-addresses}
use Rattle.link_base.proofs.classes.address_list.addresses_len.Goals as goal

pub returns : goal.returns
returns g c =
    let law = g.A.Address in
    let xs = c.args.addresses.now in
    let each : pad (4 + law.SIZE) ≡ c.total_size.result = omega (arith, c.SIZE.ensures, c.total_size.ensures) in
    let len : length (bytes_of_frames (addresses_from 0 (map law.octets xs))) ≡ length xs * c.total_size.result =
    length-addresses law.octets law.SIZE law.sized 0 xs ∙ ap (λ m. length xs * m) each in
    rw len (omega (arith, c.saturating_mul.ensures))
