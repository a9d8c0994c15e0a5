use Rattle.std.proofs.Common.{◌≡◌, ◌-◌, length, take, drop, sym, subst, arith, take_all}
use Rattle.std.proofs.lemmas.List.{length-drop}
use Rattle.std.specs.Str.{IsValidUpTo}
use Rattle.link_base.proofs.NameFields.{IsCutReplacement, cut_end}
use Rattle.link_base.proofs.lists.canonical.is_cut_text.Goals as goal

pub returns-then-bytes-eq15 : goal.returns-then-bytes-eq15
returns-then-bytes-eq15 c =
    let s = c.args.bytes.now in
    let n = c.valid_up_to.result in
    let cases = c.in-Err.ensures.cases in
    let valid : IsValidUpTo s n = subst (IsValidUpTo s) (sym c.valid_up_to.ensures) cases.1 in
    let same = cut_end s n valid cases.0 in
    let rest : take (length s - n) (drop n s) ≡ drop n s = take_all (length s - n) (drop n s) (omega (arith, length-drop n s)) in
    let judged = c.is_cut_replacement.ensures in (
      λ t. same.1 (c.if-bytes-eq15.true, subst IsCutReplacement rest (judged.0 t)),
      λ h. judged.1 (subst IsCutReplacement (sym rest) (same.0 h).1),
    )
