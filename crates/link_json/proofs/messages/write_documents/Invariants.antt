use Rattle.std.proofs.Common.{◌-◌, length}
use Rattle.link_show.proofs.MessageLines.{MessagesTo}
use Rattle.link_json.specs.Message.{ShowsMessage}
use Rattle.link_json.proofs.DocumentParts.{Prints}
use Rattle.link_json.proofs.messages.write_documents.Given as goal

abbrev pub invariant-loop-message : goal.invariant-loop-message
invariant-loop-message g l = MessagesTo Prints (ShowsMessage (g.P.Place.fields l.place)) l.buffer l.at (g.W.Write.contents l.fn.writer) (g.W.Write.contents l.writer) l.whole

abbrev pub decreases-loop-message : goal.decreases-loop-message
decreases-loop-message g l = length l.buffer - l.at
