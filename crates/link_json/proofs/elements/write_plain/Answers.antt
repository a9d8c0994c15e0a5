use Rattle.std.proofs.Common.{refl, sym, subst}
use Rattle.link_base.specs.Buffer.{kind_field_of, payload_of}
use Rattle.link_base.specs.Labels.{label_in}
use Rattle.link_json.specs.List.{ShowsPlain}
use Rattle.link_json.specs.Value.{unnamed_json}
use Rattle.link_json.proofs.Loops.{on_ok}
use Rattle.link_json.proofs.elements.write_plain.Goals as goal

pub returns-in-None : goal.returns-in-None
returns-in-None c =
    let b = c.args.buffer in
    let j = unnamed_json (kind_field_of b) (payload_of b) in
    on_ok c.write_unnamed.result (λ e. (j, subst (λ l. ShowsPlain (label_in l) b c.args.known.now.content j) (sym c.in-None.is) refl, e)) c.write_unnamed.ensures
