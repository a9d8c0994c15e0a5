use Rattle.std.proofs.Common.{◌≡◌, ◌++◌, ◌∷◌, [], ◌∙◌, OnOk, ap, subst, sym}
use Rattle.std.specs.Net.Text.{ipv4_text}
use Rattle.json.specs.Token.{string}
use Rattle.json.specs.Tree.{json_tokens}
use Rattle.link_base.specs.Labels.{label_of}
use Rattle.link_json.specs.Value.{content_json}
use Rattle.link_json.proofs.DocumentParts.{ip_of_four}
use Rattle.link_json.proofs.values.write_content.Goals as goal

pub returns-in-Ipv4 : goal.returns-in-Ipv4
returns-in-Ipv4 c =
    let written = subst (λ t. OnOk c.ip.result (c.ip.new.self ≡ c.args.doc.now ++ string t ∷ [])) (ip_of_four c.octets.result c.octets.type_inv.1.0.1 ∙ ap ipv4_text c.octets.ensures) c.ip.ensures in
    subst (λ x. OnOk c.ip.result (c.ip.new.self ≡ c.args.doc.now ++ json_tokens (content_json (label_of c.args.label.now) x))) (sym c.in-Ipv4.is) written
