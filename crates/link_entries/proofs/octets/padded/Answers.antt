use Rattle.link_entries.proofs.Octets16.{padded_front}
use Rattle.link_entries.proofs.octets.padded.Goals as goal

pub returns : goal.returns
returns c = padded_front c.args.octets.now c.copy_from_slice.new.self c.min-count.result c.min-count.ensures c.copy_from_slice.ensures.after
