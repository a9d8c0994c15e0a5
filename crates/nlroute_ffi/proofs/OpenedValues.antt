-- The sets that read the lists in entries of attributes.
use Rattle.std.proofs.Common.{◌≡◌, ℕ, ◌+◌, ◌-◌, ◌%◌, ◌<◌, ◌==◌, Bool, true, false, not, cond, List, [], ◌∷◌, length, Option, Some, None, nat_lt, bit_and, bit_or, refl, subst, ap, ◌∙◌, arith}
use Rattle.std.specs.List.{AllZip}
use Rattle.std.specs.Int.Bits.{or_add_and, or_zero_r, and_zero_r}
use Rattle.std.proofs.lemmas.Nat.{and_mod, and_le_l}
use Rattle.std.proofs.lemmas.Bool.{eqb-true}
use Rattle.std.proofs.Math.Nat.{mod-lt}
use Rattle.link_base.specs.declared.views.content.Content.{Content}
use Rattle.link_base.specs.declared.views.content.Content.TheVariants as contents
use Rattle.link_base.specs.declared.rows.form.Form.TheVariants as forms
use Rattle.link_base.specs.declared.rows.form.Layout.TheVariants as layouts
use Rattle.link_base.specs.declared.rows.form.Look.{Look}
use Rattle.link_base.specs.declared.rows.form.Look.TheVariants as looks
use Rattle.link_base.specs.declared.rows.form.Role.TheVariants as roles
use Rattle.link_base.specs.Frame.{kind_of}
use Rattle.link_base.specs.Buffer.{kind_field_of, payload_of}
use Rattle.link_base.specs.Borrowed.{form_of}
use Rattle.link_base.specs.Table.{form_at}
use Rattle.netlink_packet_route.specs.declared.family.Family.{Family}
use Rattle.netlink_packet_route.specs.declared.family.Family.TheVariants.{Link}
use Rattle.netlink_packet_route.specs.declared.opening.Context.{Context}
use Rattle.netlink_packet_route.specs.Family.{Within, table_of}
use Rattle.netlink_packet_route.specs.Opening.{message_holding, holding_at, IsOpened}
use Rattle.link_messages.specs.Walk.{Item}
use Rattle.link_messages.specs.Held.{Answers, answers_if}
use Rattle.link_entries.specs.declared.entry.Entry.{Entry}
use Rattle.link_entries.specs.Entry.{blank}
use Rattle.link_entries.specs.Content.{filled}
use Rattle.link_entries.specs.Flat.{IsGroup, Flat}
use Rattle.nlroute_ffi.specs.Opens.{may_hold, OpensAt, Opens, HeadOpens}

-- ---- types

pub kind_twice : (f : ℕ) → kind_of (kind_of f) ≡ kind_of f
kind_twice f = let low : f % 16384 < 16384 = mod-lt f (omega arith) in omega (arith, low)

-- the flags and the type of an attribute
pub joined : (f : ℕ) → bit_or (kind_of f) (f - kind_of f) ≡ f
joined f =
    let a = f % 16384 in
    let b = f - f % 16384 in
    let none : b % 16384 ≡ 0 = omega arith in
    let low : bit_and a b % 16384 ≡ bit_and (a % 16384) 0 = and_mod a b 14 ∙ ap (bit_and (a % 16384)) none in
    let small : bit_and (a % 16384) 0 ≡ 0 = and_zero_r (a % 16384) in
    let below : a < 16384 = mod-lt f (omega arith) in
    omega (arith, or_add_and a b, low, small, and_le_l a b, below)

-- ---- what holds a list

-- only of IFLA_PROTINFO (12) does the flag of a type matter
nested_same : (address_family k : ℕ) (a b : Bool) → (k == 12) ≡ false → message_holding address_family k a ≡ message_holding address_family k b
nested_same address_family k a b e = grind (arith, e)

protinfo_unknown : (k : ℕ) (look : Look) (t : Bool) → (k == 12) ≡ t → Some (forms.Bytes look) ≡ form_at (table_of Link) k → t ≡ false
protinfo_unknown k look false e h = refl
protinfo_unknown k look true e h =
    let at : Some (forms.Bytes look) ≡ form_at (table_of Link) 12 = subst (λ k. Some (forms.Bytes look) ≡ form_at (table_of Link) k) (eqb-true k 12 e) h in
    absurd cc

-- the flag of an attribute whose content is the list of another set does not matter
same_holding : (context : Context) (family : Family) (f : ℕ) (look : Look) → Some (forms.Bytes look) ≡ form_at (table_of family) (kind_of f)
    → holding_at context family None (bit_or (kind_of f) 0) ≡ holding_at context family None f
same_holding context Link f look h =
    let kinds : kind_of (bit_or (kind_of f) 0) ≡ kind_of f = ap kind_of (or_zero_r (kind_of f)) ∙ kind_twice f in
    let nested = not (bit_and (bit_or (kind_of f) 0) 0x8000 == 0) in
    ap (λ k. message_holding context.address_family k nested) kinds
    ∙ nested_same context.address_family (kind_of f) nested (not (bit_and f 0x8000 == 0)) (protinfo_unknown (kind_of f) look (kind_of f == 12) refl h)
same_holding context family f look h =
    let kinds : kind_of (bit_or (kind_of f) 0) ≡ kind_of f = ap kind_of (or_zero_r (kind_of f)) ∙ kind_twice f in
    ap (λ k. Some (Within family k)) kinds

-- ---- entries

no_list : (context : Context) (family : Family) (list : List ℕ) (set : Option Family) (c : Bool) (a b : Entry) → may_hold a.depth a.form ≡ false → may_hold b.depth b.form ≡ false → Opens context family (cond c a b) list set → set ≡ None
no_list context family list set true a b ha hb h = subst (λ t. answers_if t (OpensAt a.depth context family a list) set) ha h
no_list context family list set false a b ha hb h = subst (λ t. answers_if t (OpensAt b.depth context family b list) set) hb h

abbrev pub is_none : Option ℕ → Bool
is_none None = true
is_none (Some k) = false

-- a set reads an entry with this content only if the content may be its list
pub entry_answers : (context : Context) (family : Family) (f : ℕ) (content : Content) (n : ℕ) (e : Entry) (list : List ℕ) (set : Option Family) (k : Option ℕ) → (e.depth == 0) ≡ is_none k
    → Opens context family (filled f content n e) list set → Answers 1 k (OpensAt e.depth context family (filled f content n e) list) content set
entry_answers context family f (contents.Other p) n e list set k same h = h
entry_answers context family f (contents.Bytes looks.Held p) n e list set k same h = h
entry_answers context family f (contents.Bytes looks.Peer p) n e list set None same h = subst (λ t. answers_if t (OpensAt e.depth context family (filled f (contents.Bytes looks.Peer p) n e) list) set) same h
entry_answers context family f (contents.Bytes looks.Peer p) n e list set (Some j) same h = subst (λ t. answers_if t (OpensAt e.depth context family (filled f (contents.Bytes looks.Peer p) n e) list) set) same h
entry_answers context family f (contents.Bytes looks.Address p) n e list set k same h = h
entry_answers context family f (contents.Bytes looks.Text p) n e list set k same h = h
entry_answers context family f (contents.Number x width order roles.Plain) n e list set k same h = h
entry_answers context family f (contents.Number x width order roles.Flags) n e list set k same h = h
entry_answers context family f (contents.Number x width order roles.Coded) n e list set k same h = h
entry_answers context family f (contents.Number x width order roles.Enum) n e list set k same h = h
entry_answers context family f (contents.Struct layouts.BridgeId p) n e list set k same h = no_list context family list set (nat_lt (length p.now) 8) _ _ refl refl h
entry_answers context family f (contents.Struct layouts.VlanInfo p) n e list set k same h = no_list context family list set (nat_lt (length p.now) 4) _ _ refl refl h
entry_answers context family f (contents.Struct layouts.BooleanOptions p) n e list set k same h = no_list context family list set (nat_lt (length p.now) 8) _ _ refl refl h
entry_answers context family f (contents.Struct layouts.BitTiming p) n e list set k same h = no_list context family list set (nat_lt (length p.now) 32) _ _ refl refl h
entry_answers context family f (contents.Struct layouts.Clock p) n e list set k same h = no_list context family list set (nat_lt (length p.now) 4) _ _ refl refl h
entry_answers context family f (contents.Struct layouts.CtrlMode p) n e list set k same h = no_list context family list set (nat_lt (length p.now) 8) _ _ refl refl h
entry_answers context family f (contents.Struct layouts.BerrCounter p) n e list set k same h = no_list context family list set (nat_lt (length p.now) 4) _ _ refl refl h
entry_answers context family f (contents.Struct layout p) n e list set k same h = h
entry_answers context family f content n e list set k same h = h

-- the entry of an attribute with this `nla_type` and this content
entry_opens : (context : Context) (family : Family) (f : ℕ) (content : Content) (n offset size : ℕ) (list : List ℕ) (set : Option Family) → form_of content ≡ form_at (table_of family) (kind_of f)
    → Answers 1 None (OpensAt 0 context family (filled f content n (blank (kind_of f) 0 0 offset size)) list) content set → Answers 1 None (IsOpened (holding_at context family None f)) content set
entry_opens context family f (contents.Other p) n offset size list set at h = subst (λ t. IsOpened (holding_at context family None t) set) (joined f) h
entry_opens context family f (contents.Bytes looks.Held p) n offset size list set at h = subst (λ t. IsOpened t set) (same_holding context family f looks.Held at) h
entry_opens context family f (contents.Bytes looks.Peer p) n offset size list set at h = subst (λ t. IsOpened t set) (same_holding context family f looks.Peer at) h
entry_opens context family f (contents.Bytes looks.Address p) n offset size list set at h = h
entry_opens context family f (contents.Bytes looks.Text p) n offset size list set at h = h
entry_opens context family f content n offset size list set at h = h

-- ---- lists

zip_all : {A B : Type 0} (R S : A → B → Type 0) (xs : List A) (ys : List B) → ((x : A) (y : B) → R x y → S x y) → AllZip R xs ys → AllZip S xs ys
zip_all R S [] [] f h = tt
zip_all R S (x ∷ xs) (y ∷ ys) f h = (f x y h.0, zip_all R S xs ys f h.1)
zip_all R S [] (y ∷ ys) f h = absurd h
zip_all R S (x ∷ xs) [] f h = absurd h

head_opens : (context : Context) (family : Family) (list : List ℕ) (x : Item) (es : List Entry) → IsGroup (table_of family) x es → HeadOpens context family list x es
head_opens context family list x [] (content, has, (elements, are, is)) = absurd cc
head_opens context family list x (e ∷ es) (content, has, (elements, are, is)) =
    let f = kind_field_of x.1 in
    let head : e ≡ filled f content (length elements) (blank (kind_of f) 0 0 (x.0 + 4) (length (payload_of x.1))) = cc in
    let of_kind = blank (kind_of f) 0 0 (x.0 + 4) (length (payload_of x.1)) in (
      content,
      has,
      λ set h. entry_opens context family f content (length elements) (x.0 + 4) (length (payload_of x.1)) list set has.form
          (entry_answers context family f content (length elements) of_kind list set None refl (subst (λ e. Opens context family e list set) head h)),
    )

pub heads_open : (context : Context) (family : Family) (list : List ℕ) (es : List Entry) → (flat : Flat (table_of family) list es) → AllZip (HeadOpens context family list) flat.items flat.groups
heads_open context family list es flat = zip_all (IsGroup (table_of family)) (HeadOpens context family list) flat.items flat.groups (head_opens context family list) flat.each
