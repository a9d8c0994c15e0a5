use Rattle.link_base.proofs.Naming as naming
use Rattle.link_base.proofs.names.named_laws.text_back.Goals as goal

pub returns : goal.returns
returns g c =
    let t = g.T.NamedNumber in
    let laws = g.met.T.NamedNumber in
    record {
      name = λ v d r some e read. naming.reads_as t.names laws.well_named _ v r (naming.name_back t.names v (t.seen v) d (laws.no_more v) some e) read;
      further = λ v text r some h read. naming.reads_as t.names laws.well_named text v r (naming.further_read t.names text v some h) read;
      number = λ v bits r rule bare fits below read.
          naming.reads_as t.names laws.well_named _ _ r (naming.number_accepted t.names v (t.seen v) bits (laws.no_more v) rule bare fits below) read;
    }
