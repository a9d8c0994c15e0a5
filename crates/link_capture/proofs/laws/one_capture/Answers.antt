use Rattle.std.proofs.Common.{sym, ap, ◌∙◌}
use Rattle.link_capture.proofs.ReadingOnce.{one_reading}
use Rattle.link_capture.proofs.laws.one_capture.Goals as goal

pub returns-clause-exists : goal.returns-clause-exists
returns-clause-exists c = λ form s. let one = one_reading form s in (one.value.0, (one.value.1, one.is))

pub returns-clause-unique : goal.returns-clause-unique
returns-clause-unique c = λ form s xs ys e f x y.
    let one = one_reading form s in
    let same = one.only (xs, e) x ∙ sym (one.only (ys, f) y) in
    (ap (λ r. r.0) same, ap (λ r. r.1) same)
