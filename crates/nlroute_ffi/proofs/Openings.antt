-- The set that reads the list in an element, by the attribute that has the element.
use Rattle.std.proofs.Common.{◌≡◌, ℕ, Bool, List, Option, Some, None, Bor, refl, sym, subst, inl}
use Rattle.link_base.specs.declared.wire.buffer.NlaBuffer.{NlaBuffer}
use Rattle.link_base.specs.declared.wire.fault.Cause.{Cause}
use Rattle.link_base.specs.declared.views.content.Content.{Content}
use Rattle.link_base.specs.declared.views.content.Content.TheVariants as contents
use Rattle.link_base.specs.Borrowed.{HasContent}
use Rattle.netlink_packet_route.specs.declared.family.Family.{Family}
use Rattle.netlink_packet_route.specs.declared.opening.Context.{Context}
use Rattle.netlink_packet_route.specs.Family.{table_of}
use Rattle.netlink_packet_route.specs.Opening.{holding_at, IsOpened, HasKinds}
use Rattle.link_messages.specs.Walk.{Item, Walk}
use Rattle.link_entries.specs.declared.entry.Entry.{Entry}
use Rattle.nlroute_ffi.specs.Opens.{type_of, around, found_in, OpensIn, OpensOf, OpensElement, OpensAt}

none_found : (o : Option Item) → None ≡ found_in o → o ≡ None
none_found None h = refl
none_found (Some x) h = absurd cc

some_found : (o : Option Item) (b : NlaBuffer) → Some b ≡ found_in o → (x : Item) × (o ≡ Some x) × (b ≡ x.1)
some_found None b h = absurd cc
some_found (Some x) b h = (x, refl, cc)

-- the attribute that was found in a list
abbrev pub IsFound : Entry → List ℕ → Option NlaBuffer → Type 0
IsFound e list found = (items : List Item) × (fault : Option (ℕ × Cause)) × Walk list items fault × (found ≡ found_in (around e.kind e.offset items))

-- no attribute
pub opens_none : (context : Context) (family : Family) (e : Entry) (list : List ℕ) → IsFound e list None → OpensAt 1 context family e list None
opens_none context family e list (items, fault, walk, is) =
    (items, fault, walk, subst (λ o. OpensElement context family e o None) (sym (none_found (around e.kind e.offset items) is)) refl)

-- this attribute
pub opens_some : (context : Context) (family : Family) (e : Entry) (list : List ℕ) (b : NlaBuffer) (set : Option Family) → IsFound e list (Some b) → OpensOf context family e b set
    → OpensAt 1 context family e list set
opens_some context family e list b set (items, fault, walk, is) h =
    let (x, at, same) = some_found (around e.kind e.offset items) b is in
    (items, fault, walk, subst (λ o. OpensElement context family e o set) (sym at) (subst (λ b. OpensOf context family e b set) same h))

-- it is no nested list
opens_other : (context : Context) (family : Family) (e : Entry) (content : Content) → ((list : Bor (List ℕ)) (flagged : Bool) → content ≡ contents.List list flagged → ⊥) → OpensIn context family e content None
opens_other context family e (contents.List list flagged) other = absurd (other list flagged refl)
opens_other context family e content other = refl

-- ---- an attribute that decodes

-- as one of another set, and in other bytes
same_content : (family in_family : Family) (b a : NlaBuffer) (content : Content) → in_family ≡ family → a ≡ b → HasContent (table_of in_family) a content → HasContent (table_of family) b content
same_content family in_family b a content f same has = subst (λ z. HasContent (table_of family) z content) same (subst (λ z. HasContent (table_of z) a content) f has)

-- a nested list
pub opens_list : (context : Context) (in_family family : Family) (e : Entry) (a b : NlaBuffer) (list : Bor (List ℕ)) (flagged : Bool) (bytes : List ℕ) (inner : Context) (f : ℕ) (set : Option Family) → in_family ≡ family → a ≡ b
    → HasContent (table_of in_family) a (contents.List list flagged) → bytes ≡ list.now → inner.address_family ≡ context.address_family → HasKinds bytes inner → f ≡ type_of e
    → IsOpened (holding_at inner family (Some e.kind) f) set → OpensOf context family e b set
opens_list context in_family family e a b list flagged bytes inner f set same of has content address kinds type opens =
    inl (
      contents.List list flagged,
      same_content family in_family b a (contents.List list flagged) same of has,
      (inner, (address, subst (λ p. HasKinds p inner) content kinds), subst (λ f. IsOpened (holding_at inner family (Some e.kind) f) set) type opens),
    )

-- another one
pub opens_no_list : (context : Context) (in_family family : Family) (e : Entry) (a b : NlaBuffer) (content : Content) → in_family ≡ family → a ≡ b → HasContent (table_of in_family) a content
    → ((list : Bor (List ℕ)) (flagged : Bool) → content ≡ contents.List list flagged → ⊥) → OpensOf context family e b None
opens_no_list context in_family family e a b content same of has other =
    inl (content, same_content family in_family b a content same of has, opens_other context family e content other)
