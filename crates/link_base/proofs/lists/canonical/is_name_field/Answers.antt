use Rattle.std.proofs.Common.{◌≡◌, ◌<◌, ◌-◌, ℕ, List, length, take, drop, get_or, sym, subst, arith, rules, take_all}
use Rattle.std.proofs.lemmas.List.{length-drop}
use Rattle.link_base.proofs.NameFields.{zeros_behind, name_before, is_name, name_nul}
use Rattle.link_base.proofs.lists.canonical.is_name_field.Goals as goal

-- each byte is 0
abbrev AreZeros : List ℕ → Type 0
AreZeros s = (k : ℕ) → k < length s → get_or s k 0 ≡ 0

pub returns-in-None : goal.returns-in-None
returns-in-None c = (λ t. absurd cc, λ h. absurd (name_nul c.args.field.now c.in-None.ensures h))

pub returns-else-are_zeros : goal.returns-else-are_zeros
returns-else-are_zeros c =
    let field = c.args.field.now in
    let end = c.in-Some.end in
    let first = c.in-Some.ensures in
    let rest : take (length field - end) (drop end field) ≡ drop end field = take_all (length field - end) (drop end field) (omega (arith, length-drop end field)) in (
      λ t. absurd cc,
      λ h. let all = c.are_zeros.ensures.1 (subst AreZeros (sym rest) (zeros_behind field end c.requires first.0 first.1 first.2 h)) in absurd cc,
    )

pub returns-then-are_zeros : goal.returns-then-are_zeros
returns-then-are_zeros c =
    let field = c.args.field.now in
    let end = c.in-Some.end in
    let first = c.in-Some.ensures in
    let rest : take (length field - end) (drop end field) ≡ drop end field = take_all (length field - end) (drop end field) (omega (arith, length-drop end field)) in
    let each = subst AreZeros rest (c.are_zeros.ensures.0 (search rules)) in (
      λ t. is_name field end c.requires first.0 first.1 first.2 each (c.is_cut_text.ensures.0 t),
      λ h. c.is_cut_text.ensures.1 (name_before field end c.requires first.0 first.1 first.2 h),
    )
