use Rattle.std.proofs.Common.{rules, tests}
use Rattle.std.proofs.lemmas.Iterator.{YieldsList-from_map}
use Rattle.std.proofs.lemmas.Iterator.Adapters.{items_from_extend, YieldsList-from_vec}
use Rattle.uses.specs.Writing.{set_id}
use Rattle.uses.proofs.changing.with_id.Goals as goal

pub returns : goal.returns
returns c =
    let added = items_from_extend c.extend.result c.extend.ensures.ran
    (YieldsList-from_map _ (set_id c.args.id) (YieldsList-from_vec c.args.values.items (search rules) (search rules)) c.map.ensures.closure (λ x r q k. search (rules, tests))) in
    search rules
