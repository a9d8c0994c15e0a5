use Rattle.std.proofs.Common.{◌≡◌, ℕ, List, replicate, get_or, refl, sym, ◌∙◌, arith}
use Rattle.std.proofs.lemmas.List.{take_all, take-append-le}
use Rattle.std.proofs.lemmas.List.FromFn.{fill_by_all}
use Rattle.link_entries.specs.Entry.{padded}
use Rattle.link_entries.proofs.octets.sixteen.Goals as goal

pub returns : goal.returns
returns c =
    let s = c.args.s.now in
    let z : List ℕ = replicate 16 0 in
    let all : s ≡ padded s = sym (take-append-le 16 s z (omega arith) ∙ take_all 16 s (omega arith)) in
    sym (fill_by_all (λ k. get_or s k 0) s 16 0 c.requires (λ k h. refl)) ∙ all
