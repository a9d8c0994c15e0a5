use Rattle.show_lines.proofs.bare.write_bare.Goals as goal

pub returns-in-Plain-clause-shown : goal.returns-in-Plain-clause-shown
returns-in-Plain-clause-shown g c = rw c.in-Plain.is c.write_plain.ensures.shown

pub returns-in-Debug-clause-shown : goal.returns-in-Debug-clause-shown
returns-in-Debug-clause-shown g c = rw c.in-Debug.is c.write_debug.ensures.shown
