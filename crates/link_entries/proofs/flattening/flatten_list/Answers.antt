use Rattle.std.proofs.Common.{◌∙◌, arith}
use Rattle.link_entries.proofs.Groups.{placed_whole}
use Rattle.link_entries.proofs.flattening.flatten_list.Goals as goal

pub put_list-requires : goal.put_list-requires
put_list-requires g c none = let list = c.in-Ok.ensures.answer in none (record { values = list.0; wire = list.1 })

pub returns-in-Ok-clause-entries : goal.returns-in-Ok-clause-entries
returns-in-Ok-clause-entries g c =
    let (es, flat, puts, fewer) = c.put_list.ensures in (es, flat, omega (arith, puts.1), puts.0 ∙ placed_whole c.args.places.now es)
