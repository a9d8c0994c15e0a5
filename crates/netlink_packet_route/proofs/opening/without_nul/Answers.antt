use Rattle.std.proofs.Common.{[], ◌∷◌, ap, ◌∙◌}
use Rattle.std.proofs.lemmas.Slice.Eq.{strip_suffix_is}
use Rattle.std.proofs.lemmas.Bool.Decides.{Decides-eqb}
use Rattle.netlink_packet_route.proofs.Names.{stripped}
use Rattle.netlink_packet_route.proofs.opening.without_nul.Goals as goal

pub returns : goal.returns
returns c =
    let r = c.strip_suffix.result in
    ap (λ b. b.now) c.unwrap_or.ensures ∙ stripped c.args.bytes r (strip_suffix_is Decides-eqb c.args.bytes.now (0 ∷ []) r c.strip_suffix.ensures.cases)
