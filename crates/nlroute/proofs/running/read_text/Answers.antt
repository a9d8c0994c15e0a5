use Rattle.std.proofs.Common.{arith, ◌++◌, take}
use Rattle.std.proofs.KnownBytes.{Consumes-trans}
use Rattle.std.proofs.lemmas.List.{length-append, length-take}
use Rattle.nlroute.proofs.running.read_text.Goals as goal

pub returns-in-Err-extend_from_slice-clause-bounded : goal.returns-in-Err-extend_from_slice-clause-bounded
returns-in-Err-extend_from_slice-clause-bounded g c =
    let before = c.loop-chunk.text.items in
    let more = take c.in-Ok.count c.read.new.buf in (
      before ++ more,
      record {
        bytes = Consumes-trans _ _ _ before more c.loop-chunk.invariant.read c.in-Ok.ensures.bytes.0;
        most = omega (arith, length-append before more, length-take c.in-Ok.count c.read.new.buf, length-take c.min-room.result c.loop-chunk.chunk, c.loop-chunk.text.ok.0, c.in-Ok.ensures.bound, c.read.auto.buf);
      },
    )
