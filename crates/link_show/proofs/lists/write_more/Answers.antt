use Rattle.link_show.proofs.Lines.{more_written}
use Rattle.link_show.proofs.lists.write_more.Goals as goal

pub returns-in_ok-put-in-Addresses : goal.returns-in_ok-put-in-Addresses
returns-in_ok-put-in-Addresses g c =
    rw c.in-Addresses.is (more_written c.write_addresses.result c.in-Addresses.list c.in-Addresses.size _ _ _ c.in_ok-put-in-Addresses.ensures c.write_addresses.ensures)
