use Rattle.std.proofs.lemmas.Result.{IfOk-weaker}
use Rattle.show_json.specs.Clock.{clock_json}
use Rattle.show_json.proofs.units.JsonShowUnits.show_packet.Goals as goal

pub returns-clause-shown : goal.returns-clause-shown
returns-clause-shown g c =
    IfOk-weaker c.write_carried.result _ _ (λ well h. (h.0, (clock_json c.clock_of.result, c.clock_of.ensures, h.1), h.2)) c.write_carried.ensures.shown
