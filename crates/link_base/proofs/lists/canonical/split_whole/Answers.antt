use Rattle.std.proofs.Common.{◌≡◌, ℕ, ◌+◌, ◌-◌, ◌%◌, ◌<◌, List, length, take, drop, get_or, sym, ap, ap₂, subst, ◌∙◌, arith, rules, take_all}
use Rattle.std.proofs.lemmas.List.{length-drop}
use Rattle.link_base.specs.Frame.{gap}
use Rattle.link_base.specs.Wire.{SplitsWhole}
use Rattle.link_base.specs.Buffer.{kind_field_of, payload_of}
use Rattle.link_base.proofs.CanonicalLists.{whole_front, whole_even, whole_room, whole_zeros}
use Rattle.link_base.proofs.lists.canonical.split_whole.Goals as goal
use Rattle.link_base.proofs.lists.canonical.split_whole.Goals.{then-gap-after-via-then-gap-after, then-gap-after-via-else-gap-after+then-not-is_padding}

-- each byte is 0
abbrev AreZeros : List ℕ → Type 0
AreZeros s = (k : ℕ) → k < length s → get_or s k 0 ≡ 0

pub returns-then-over-eq0 : goal.returns-then-over-eq0
returns-then-over-eq0 c =
    let s = c.args.bytes.now in
    let b = c.at_front-buffer.result in
    let p = payload_of b in
    let after : c.split_at.result.1.now ≡ drop (4 + length p) s = c.split_at.ensures.back ∙ ap (λ m. drop (4 + m) s) c.value_length.ensures in
    let none : gap p ≡ 0 = omega (arith, c.value_length-over.ensures, c.if-over-eq0.true) in
    subst (SplitsWhole s (kind_field_of b) p) (sym after) (whole_even s (kind_field_of b) p c.at_front-buffer.ensures none)

pub returns-then-gap-after : goal.returns-then-gap-after
returns-then-gap-after c = λ f q rest w.
    let s = c.args.bytes.now in
    let b = c.at_front-buffer.result in
    let p = payload_of b in
    let after : c.split_at.result.1.now ≡ drop (4 + length p) s = c.split_at.ensures.back ∙ ap (λ m. drop (4 + m) s) c.value_length.ensures in
    let over : 4 - c.value_length-over.result % 4 ≡ gap p = omega (arith, c.value_length-over.ensures, c.if-over-eq0.false) in
    let room = whole_room s (kind_field_of b) f p q rest c.at_front-buffer.ensures w in
    let zero = whole_zeros s (kind_field_of b) f p q rest c.at_front-buffer.ensures w in
    let same : take (gap p) (drop (4 + length p) s) ≡ take (4 - c.value_length-over.result % 4) c.split_at.result.1.now = ap₂ take (sym over) (sym after) in
    elim c.then-gap-after.branch [
      | then-gap-after-via-then-gap-after v ↦ omega (arith, over, room, ap length after, v.if-gap-after.true)
      | then-gap-after-via-else-gap-after+then-not-is_padding v ↦ (let holds = v.is_padding.ensures.1 (subst AreZeros same zero) in absurd cc)
    ]

pub returns : goal.returns
returns c =
    let s = c.args.bytes.now in
    let b = c.at_front-buffer.result in
    let p = payload_of b in
    let rest = c.split_at.result.1.now in
    let n = 4 - c.value_length-over.result % 4 in
    let after : rest ≡ drop (4 + length p) s = c.split_at.ensures.back ∙ ap (λ m. drop (4 + m) s) c.value_length.ensures in
    let over : n ≡ gap p = omega (arith, c.value_length-over.ensures, c.if-over-eq0.false) in
    let same : take n rest ≡ take (gap p) (drop (4 + length p) s) = ap₂ take over after in
    let zero = subst AreZeros same (c.is_padding.ensures.0 (search rules)) in
    let found = whole_front s (kind_field_of b) p c.at_front-buffer.ensures (omega (arith, over, ap length after, c.if-gap-after.false)) zero in
    let behind : drop (gap p) (drop (4 + length p) s) ≡ take (length rest - n) (drop n rest) =
    ap₂ drop (sym over) (sym after) ∙ sym (take_all (length rest - n) (drop n rest) (omega (arith, length-drop n rest))) in
    subst (SplitsWhole s (kind_field_of b) p) behind found
