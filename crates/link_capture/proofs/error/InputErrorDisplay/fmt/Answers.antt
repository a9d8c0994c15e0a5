use Rattle.link_capture.proofs.error.InputErrorDisplay.fmt.Goals as goal

pub returns-in-Overrun-clause-writes : goal.returns-in-Overrun-clause-writes
returns-in-Overrun-clause-writes g c = rw c.in-Overrun.is c.write-in-Overrun.ensures.writes

pub returns-in-Odd-clause-writes : goal.returns-in-Odd-clause-writes
returns-in-Odd-clause-writes g c = rw c.in-Odd.is c.write-in-Odd.ensures.writes

pub returns-in-Unread-clause-writes : goal.returns-in-Unread-clause-writes
returns-in-Unread-clause-writes g c = rw c.in-Unread.is c.write-in-Unread.ensures.writes

pub returns-in-Resolution-clause-writes : goal.returns-in-Resolution-clause-writes
returns-in-Resolution-clause-writes g c = rw c.in-Resolution.is c.write-in-Resolution.ensures.writes
