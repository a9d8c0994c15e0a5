use Rattle.std.proofs.Common.{◌≡◌, ◌∙◌, arith, to_z, of_z, w32}
use Rattle.std.proofs.lemmas.Int.{to_z-of_z, ints}
use Rattle.link_messages.proofs.acknowledgement.reply_of.Goals as goal

pub returns : goal.returns
returns c =
    let signed : to_z w32 (of_z w32 c.result_in.result) ≡ c.result_in.result = to_z-of_z w32 c.result_in.result (omega (arith, ints)) in
    record {
      kind = c.requires;
      error = signed ∙ c.result_in.ensures;
      list = c.attributes_of.ensures;
    }
