use Rattle.std.proofs.Common.{◌≡◌, ◌++◌, ◌∷◌, [], ◌∙◌, OnOk, ap, subst, refl}
use Rattle.json.specs.Token.{string}
use Rattle.link_base.specs.IpAddress.{sixteen_octets}
use Rattle.link_show.specs.List.{ip_text}
use Rattle.link_json.proofs.DocumentParts.{ip_of_sixteen}
use Rattle.link_json.proofs.values.write_ipv6.Goals as goal

pub returns : goal.returns
returns c =
    subst (λ t. OnOk c.ip.result (c.ip.new.self ≡ c.args.doc.now ++ string t ∷ [])) (ap ip_text c.put.ensures.written ∙ ip_of_sixteen (sixteen_octets c.args.address) refl) c.ip.ensures
