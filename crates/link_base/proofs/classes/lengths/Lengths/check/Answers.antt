use Rattle.std.proofs.Common.{◌≡◌, length, None, Some}
use Rattle.link_base.specs.Class.{length_cause}
use Rattle.link_base.specs.Forms.{extent_of}
use Rattle.link_base.proofs.Checks.{accepted_by, rejected_by}
use Rattle.link_base.proofs.classes.lengths.Lengths.check.Goals as goal

pub returns-in-None : goal.returns-in-None
returns-in-None c =
    let ok : length_cause (extent_of c.args.self) (length c.args.payload.now) ≡ None = cc in
    accepted_by (extent_of c.args.self) c.args.kind c.args.payload.now ok

pub returns-in-Some : goal.returns-in-Some
returns-in-Some c =
    let bad : length_cause (extent_of c.args.self) (length c.args.payload.now) ≡ Some c.in-Some.cause = cc in
    rejected_by (extent_of c.args.self) c.args.kind c.args.payload.now c.in-Some.cause bad
