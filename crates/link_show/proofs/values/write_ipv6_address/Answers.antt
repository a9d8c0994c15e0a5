use Rattle.std.proofs.Common.{OnOk, subst}
use Rattle.link_show.specs.Sink.{Gains}
use Rattle.link_show.specs.Octets.{ip6_text}
use Rattle.link_show.proofs.values.write_ipv6_address.Goals as goal

pub returns : goal.returns
returns g c =
    subst (λ o. OnOk c.write_ipv6.result (Gains (g.W.Sink.output c.args.writer.now) (g.W.Sink.output c.write_ipv6.new.writer) (ip6_text o))) c.put.ensures.written c.write_ipv6.ensures
