use Rattle.std.proofs.Common.{◌≡◌, length, take, map}
use Rattle.std.specs.List.{AllByRecursion}
use Rattle.link_base.specs.Frame.{bytes_of_frames}
use Rattle.link_base.specs.Table.{addresses_from}
use Rattle.link_base.specs.Held.{IsOctets}
use Rattle.link_base.specs.Answers.{OverwritesFront}
use Rattle.link_base.proofs.classes.address_list.emit_addresses.Given as goal

abbrev pub invariant-loop-i : goal.invariant-loop-i
invariant-loop-i g l =
    let octets = map g.A.Address.octets (take l.i l.addresses) in
    record {
      written : OverwritesFront l.fn.buffer l.buffer (bytes_of_frames (addresses_from 0 octets));
      at : l.at ≡ length (bytes_of_frames (addresses_from 0 octets));
      in_range : AllByRecursion (IsOctets g.A.Address.SIZE) octets;
    }
