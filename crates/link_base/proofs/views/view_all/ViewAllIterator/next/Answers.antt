use Rattle.std.proofs.Common.{◌≢◌, [], sym, subst, inl, arith}
use Rattle.std.proofs.lemmas.Grind.{common_steps}
use Rattle.link_base.specs.Buffer.{SplitsFirst}
use Rattle.link_base.specs.Viewed.{left_of}
use Rattle.link_base.proofs.views.view_all.ViewAllIterator.next.Goals as goal

pub returns-in-Err-new-clause-steps : goal.returns-in-Err-new-clause-steps
returns-in-Err-new-clause-steps g c =
    let s = left_of c.args.self.now in
    let some : s ≢ [] = λ e. grind (arith, common_steps) in
    let first = subst (SplitsFirst s c.in-Ok.buffer) (sym c.at.ensures.rest) c.in-Ok.ensures in
    (some, c.offset-at.ensures, inl (c.in-Ok.buffer, first, c.in-Err-new.ensures), c.at.ensures.list, c.at.ensures.set)
