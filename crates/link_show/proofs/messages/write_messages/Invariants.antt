use Rattle.std.proofs.Common.{◌-◌, length}
use Rattle.link_show.specs.Sink.{Gains}
use Rattle.link_show.specs.Message.{ShowsMessage}
use Rattle.link_show.proofs.MessageLines.{MessagesTo}
use Rattle.link_show.proofs.messages.write_messages.Given as goal

abbrev pub invariant-loop-message : goal.invariant-loop-message
invariant-loop-message g l = MessagesTo Gains (ShowsMessage l.options) l.buffer l.at (g.W.Sink.output l.fn.writer) (g.W.Sink.output l.writer) l.whole

abbrev pub decreases-loop-message : goal.decreases-loop-message
decreases-loop-message g l = length l.buffer - l.at
