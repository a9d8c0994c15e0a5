use Rattle.nlroute_ffi.proofs.OneMessage.{one_message}
use Rattle.nlroute_ffi.proofs.laws.one_message.Goals as goal

pub returns : goal.returns
returns c = one_message
