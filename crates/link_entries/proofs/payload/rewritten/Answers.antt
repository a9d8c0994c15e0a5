use Rattle.std.proofs.Common.{◌≡◌, ◌-◌, ◌++◌, ◌∙◌, length, take, drop, replicate, refl, ap, ap₂, arith}
use Rattle.std.proofs.lemmas.List.{length-append, length-take, length-drop}
use Rattle.link_base.specs.Name.{name_of, name_field}
use Rattle.link_base.proofs.ClassLemmas.{length-name_field}
use Rattle.link_entries.proofs.WrittenNames.{put_back}
use Rattle.link_entries.proofs.payload.rewritten.Goals as goal

pub returns-clause-value : goal.returns-clause-value
returns-clause-value c =
    let s = c.args.limits.now in
    let name = name_of (take 16 s) in
    let front : c.copy_from_slice.new.self ≡ name_field name = c.copy_from_slice.ensures.after ∙ c.written_name.ensures in
    let left : length s - 16 ≡ 32 = omega (arith, c.requires) in
    let back : c.copy_from_slice-2.new.self ≡ take 32 (drop 16 s) = c.copy_from_slice-2.ensures.after ∙ ap (λ n. take n (drop 16 s)) left in
    put_back c.copy_from_slice.new.self c.copy_from_slice-2.new.self (replicate 32 0) (ap length front ∙ length-name_field name) refl
    ∙ ap₂ (λ a b. a ++ b) front back

pub returns-clause-size : goal.returns-clause-size
returns-clause-size c =
    let s = c.args.limits.now in
    let name = name_of (take 16 s) in
    let numbers = take 32 (drop 16 s) in
    omega (arith, ap length (returns-clause-value c), length-append (name_field name) numbers, length-name_field name, length-take 32 (drop 16 s), length-drop 16 s, c.requires)
