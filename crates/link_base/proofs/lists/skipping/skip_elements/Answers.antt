use Rattle.link_base.specs.Buffer.{payload_of}
use Rattle.std.proofs.Common.{length}
use Rattle.link_base.proofs.SkipLemmas.{elements_decode_all}
use Rattle.link_base.proofs.lists.skipping.skip_elements.Goals as goal

pub skip_run-requires-clause-all_decode : goal.skip_run-requires-clause-all_decode
skip_run-requires-clause-all_decode c f any = elements_decode_all f (length (payload_of c.in-Some.first))
