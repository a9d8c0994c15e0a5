use Rattle.show_lines.proofs.plain.write_asked.Goals as goal

pub returns-in-Messages : goal.returns-in-Messages
returns-in-Messages g c = rw c.in-Messages.is c.print_messages.ensures

pub returns-in-Attributes : goal.returns-in-Attributes
returns-in-Attributes g c = rw c.in-Attributes.is c.write_family_list.ensures

pub returns-in-Verdict : goal.returns-in-Verdict
returns-in-Verdict g c = rw c.in-Verdict.is c.write_verdict.ensures
