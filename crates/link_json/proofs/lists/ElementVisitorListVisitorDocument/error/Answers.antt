use Rattle.netlink_packet_route.specs.Family.{table_of}
use Rattle.link_show.specs.Fault.{fault_text}
use Rattle.link_json.specs.List.{fault_json}
use Rattle.link_json.proofs.Listing.{adds_one}
use Rattle.link_json.proofs.Loops.{on_ok}
use Rattle.link_json.proofs.lists.ElementVisitorListVisitorDocument.error.Goals as goal

pub returns : goal.returns
returns c = on_ok c.write_fault.result (adds_one c.args.writer.now c.write_fault.new.doc (fault_json c.args.at (fault_text (table_of c.args.family) c.args.fault))) c.write_fault.ensures
