-- The attribute of a list around an offset.
use Rattle.std.proofs.Common.{◌≡◌, ℕ, Bool, true, false, cond, List, [], ◌∷◌, ◌++◌, length, Option, Some, None, refl, sym, ap, ◌∙◌}
use Rattle.std.specs.Option.{option_map}
use Rattle.std.specs.List.{filter, last_or}
use Rattle.std.proofs.lemmas.List.{append-nil}
use Rattle.std.proofs.lemmas.List.Elements.{filter-append}
use Rattle.link_base.specs.declared.wire.buffer.NlaBuffer.{NlaBuffer}
use Rattle.link_base.specs.declared.wire.fault.Cause.{Cause}
use Rattle.link_messages.specs.Walk.{Item, IsEnd, Walk}
use Rattle.nlroute_ffi.specs.Opens.{is_around, around, found_in}
use Rattle.link_messages.proofs.Walking.{Reached}

last_or-push : {A : Type 0} (o : Option A) (xs : List A) (x : A) → last_or o (xs ++ x ∷ []) ≡ Some x
last_or-push o [] x = refl
last_or-push o (y ∷ xs) x = last_or-push (Some y) xs x

last_when : {A : Type 0} (b : Bool) (xs : List A) (x : A) → last_or None (xs ++ cond b (x ∷ []) []) ≡ cond b (Some x) (last_or None xs)
last_when true xs x = last_or-push None xs x
last_when false xs x = ap (last_or None) (append-nil xs)

map_when : {A B : Type 0} (f : A → B) (b : Bool) (x : A) (o : Option A) → option_map f (cond b (Some x) o) ≡ cond b (Some (f x)) (option_map f o)
map_when f true x o = refl
map_when f false x o = refl

around-push : (kind offset : ℕ) (items : List Item) (x : Item) → around kind offset (items ++ x ∷ []) ≡ cond (is_around kind offset x) (Some x) (around kind offset items)
around-push kind offset items x =
    ap (last_or None) (filter-append (is_around kind offset) items (x ∷ [])) ∙ last_when (is_around kind offset x) (filter (is_around kind offset) items) x

-- what was found in some attributes
abbrev pub found_among : ℕ → ℕ → List Item → Option NlaBuffer
found_among kind offset items = found_in (around kind offset items)

-- one attribute more
pub found_more : (kind offset i : ℕ) (b : NlaBuffer) (found more : Option NlaBuffer) (items : List Item) → more ≡ cond (is_around kind offset (i, b)) (Some b) found
    → found ≡ found_among kind offset items → more ≡ found_among kind offset (items ++ (i, b) ∷ [])
found_more kind offset i b found more items e h =
    let is = is_around kind offset (i, b) in
    e ∙ ap (cond is (Some b)) h ∙ sym (map_when (λ x. x.1) is (i, b) (around kind offset items)) ∙ ap found_in (sym (around-push kind offset items (i, b)))

-- all attributes up to the first malformed header
pub found_all : (kind offset : ℕ) (list rest : List ℕ) (found : Option NlaBuffer) (fault : Option (ℕ × Cause)) → Reached (found_among kind offset) list found rest → IsEnd (length list) rest fault
    → (items : List Item) × (stop : Option (ℕ × Cause)) × Walk list items stop × (found ≡ found_among kind offset items)
found_all kind offset list rest found fault r end = (r.items, fault, record { rest = rest; walks = r.walks; end = end }, r.is)
