-- What the start of a unit says does not depend on what follows it, and bounds the length of the unit.
use Rattle.std.proofs.Common.{◌≡◌, ◌<◌, ◌≤◌, ℕ, ◌+◌, Bool, true, false, List, ◌++◌, length, drop, Option, Some, None, refl, sym, ap, subst, ◌∙◌, arith, length-append, length-drop}
use Rattle.std.specs.Prelude.{◌==◌, nat_lt, if◌then◌else◌, ◌%◌}
use Rattle.std.proofs.lemmas.Bool.{cond-true, cond-false, le-ltb, ltb-false}
use Rattle.std.proofs.lemmas.List.{drop-append-le}
use Rattle.byteorder.specs.Numbers.{big_from-append, little_from-append}
use Rattle.link_capture.specs.declared.error.Size.{Size}
use Rattle.link_capture.specs.declared.form.Form.{Form}
use Rattle.link_capture.specs.declared.form.Form.TheVariants as forms
use Rattle.link_capture.specs.declared.front.Front.{Front}
use Rattle.link_capture.specs.declared.front.Front.TheVariants.{Short, Sized, Wrong}
use Rattle.link_capture.specs.declared.order.Order.{Order}
use Rattle.link_capture.specs.declared.order.Order.TheVariants.{Little, Big}
use Rattle.link_capture.specs.Order.{number_in, number_at}
use Rattle.link_capture.specs.Front.{most, head_of, head_size, up_to_most, order_of, sized_block, block_front, gap, message_front, whole_front, front_of}

-- ---- what follows

number_kept : (order : Order) (n : ℕ) (s more : List ℕ) → n ≤ length s → number_in order n (s ++ more) ≡ number_in order n s
number_kept Little n s more h = little_from-append n s more h
number_kept Big n s more h = big_from-append n s more h

at_kept : (order : Order) (n at : ℕ) (s more : List ℕ) → at + n ≤ length s → number_at order n at (s ++ more) ≡ number_at order n at s
at_kept order n at s more h =
    ap (number_in order n) (drop-append-le at s more (omega (arith, h))) ∙ number_kept order n (drop at s) more (omega (arith, h, length-drop at s))

order_kept : (order : Order) (s more : List ℕ) → 12 ≤ length s → order_of order (s ++ more) ≡ order_of order s
order_kept order s more h = rw (at_kept order 4 0 s more (omega (arith, h)), at_kept Big 4 8 s more (omega (arith, h))) refl

block_kept : (own : Option Order) (s more : List ℕ) → 12 ≤ length s → block_front own (s ++ more) ≡ block_front own s
block_kept None s more h = refl
block_kept (Some order) s more h = ap sized_block (at_kept order 4 4 s more (omega (arith, h)))

whole_kept : (form : Form) (s more : List ℕ) → head_size (head_of form) ≤ length s → whole_front form (s ++ more) ≡ whole_front form s
whole_kept (forms.Pcap order digits) s more h = refl
whole_kept (forms.Records order digits) s more h = rw (at_kept order 4 8 s more (omega (arith, h))) refl
whole_kept (forms.Blocks order) s more h = ap (λ o. block_front o (s ++ more)) (order_kept order s more h) ∙ block_kept (order_of order s) s more h
whole_kept forms.Messages s more h = ap message_front (at_kept Little 4 0 s more (omega (arith, h)))

pub is_whole : (form : Form) (s : List ℕ) → head_size (head_of form) ≤ length s → front_of form s ≡ whole_front form s
is_whole form s h = cond-false _ _ _ (le-ltb (length s) (head_size (head_of form)) h)

-- a front with a complete head
abbrev pub IsDecided : Front → Type 0
IsDecided Short = ⊥
IsDecided front = Unit {0}

decided_if : (b : Bool) (front : Front) → IsDecided (if b then Short else front) → b ≡ false
decided_if true front h = absurd h
decided_if false front h = refl

pub has_head : (form : Form) (s : List ℕ) → IsDecided (front_of form s) → head_size (head_of form) ≤ length s
has_head form s h = ltb-false (length s) (head_size (head_of form)) (decided_if (nat_lt (length s) (head_size (head_of form))) (whole_front form s) h)

-- it stays, whatever follows
pub front_kept : (form : Form) (s more : List ℕ) → IsDecided (front_of form s) → front_of form (s ++ more) ≡ front_of form s
front_kept form s more h =
    let long = has_head form s h in
    is_whole form (s ++ more) (omega (arith, long, length-append s more)) ∙ whole_kept form s more long ∙ sym (is_whole form s long)

-- ---- bounds

-- the length of a unit is at least that of its head, and at most the greatest
abbrev pub IsBounded : ℕ → Front → Type 0
IsBounded least Short = Unit {0}
IsBounded least (Sized n padding) = (least ≤ n) × (n ≤ most) × (padding < 4)
IsBounded least (Wrong error) = Unit {0}

bounded_most : (size : Size) (least n padding : ℕ) (b : Bool) → nat_lt most n ≡ b → least ≤ n → padding < 4 → IsBounded least (up_to_most size n padding)
bounded_most size least n padding true e h p = subst (IsBounded least) (sym (cond-true _ _ _ e)) tt
bounded_most size least n padding false e h p = subst (IsBounded least) (sym (cond-false _ _ _ e)) (h, ltb-false most n e, p)

bounded_four : (n : ℕ) (b c : Bool) → nat_lt n 12 ≡ b → (n % 4 == 0) ≡ c → IsBounded 12 (sized_block n)
bounded_four n true c e f = subst (IsBounded 12) (sym (cond-true _ _ _ e)) tt
bounded_four n false true e f = subst (IsBounded 12) (sym (cond-false _ _ _ e ∙ cond-true _ _ _ f)) (bounded_most _ 12 n 0 _ refl (ltb-false n 12 e) (omega arith))
bounded_four n false false e f = subst (IsBounded 12) (sym (cond-false _ _ _ e ∙ cond-false _ _ _ f)) tt

bounded_block : (own : Option Order) (s : List ℕ) → IsBounded 12 (block_front own s)
bounded_block None s = tt
bounded_block (Some order) s = bounded_four (number_at order 4 4 s) _ _ refl refl

bounded_message : (n : ℕ) (b : Bool) → nat_lt n 16 ≡ b → IsBounded 16 (message_front n)
bounded_message n true e = subst (IsBounded 16) (sym (cond-true _ _ _ e)) tt
bounded_message n false e = subst (IsBounded 16) (sym (cond-false _ _ _ e)) (bounded_most _ 16 n (gap n) _ refl (ltb-false n 16 e) (omega arith))

bounded_whole : (form : Form) (s : List ℕ) → IsBounded (head_size (head_of form)) (whole_front form s)
bounded_whole (forms.Pcap order digits) s = (omega arith, omega arith, omega arith)
bounded_whole (forms.Records order digits) s = bounded_most _ 16 (16 + number_at order 4 8 s) 0 _ refl (omega arith) (omega arith)
bounded_whole (forms.Blocks order) s = bounded_block (order_of order s) s
bounded_whole forms.Messages s = bounded_message (number_at Little 4 0 s) _ refl

bounded_if : (b : Bool) (least : ℕ) (front : Front) → IsBounded least front → IsBounded least (if b then Short else front)
bounded_if true least front h = tt
bounded_if false least front h = h

pub front_bounded : (form : Form) (s : List ℕ) → IsBounded (head_size (head_of form)) (front_of form s)
front_bounded form s = bounded_if (nat_lt (length s) (head_size (head_of form))) (head_size (head_of form)) (whole_front form s) (bounded_whole form s)

-- the bounds of a unit
pub sized_bounded : (form : Form) (s : List ℕ) (n padding : ℕ) → front_of form s ≡ Sized n padding → (head_size (head_of form) ≤ n) × (n ≤ most) × (padding < 4)
sized_bounded form s n padding e = subst (IsBounded (head_size (head_of form))) e (front_bounded form s)

-- a unit stays one, and an error one, whatever follows
pub sized_kept : (form : Form) (s more : List ℕ) (n padding : ℕ) → front_of form s ≡ Sized n padding → front_of form (s ++ more) ≡ Sized n padding
sized_kept form s more n padding e = front_kept form s more (subst IsDecided (sym e) tt) ∙ e
