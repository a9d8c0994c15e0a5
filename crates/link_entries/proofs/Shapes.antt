-- Contents that are lists or arrays: their bytes, that they decode, and their elements.
use Rattle.std.proofs.Common.{◌≡◌, ℕ, ◌≤◌, Bool, true, false, cond, List, [], ◌∷◌, length, take, map, Option, Some, None, Ok, Err, refl, sym, ap, subst, arith, Bor, ◌∙◌}
use Rattle.std.specs.List.{AllZip}
use Rattle.std.proofs.lemmas.List.{length-take}
use Rattle.link_base.specs.declared.views.content.Content.{Content}
use Rattle.link_base.specs.declared.views.content.Content.TheVariants as contents
use Rattle.link_base.specs.declared.rows.form.ArrayOf.{ArrayOf}
use Rattle.link_base.specs.Number.{number}
use Rattle.link_base.specs.Class as classes
use Rattle.link_base.specs.Class.{Class, Value, Raw, Name, Unlisted, flag_in, flag_value, meant, named, is_listed, size_of}
use Rattle.link_base.specs.Frame.{Frame, kind_of}
use Rattle.link_base.specs.Wire.{FrameGives}
use Rattle.link_base.specs.Table.{Table, Shape, One, Nested, Addresses, AttrValue, Other, Gives, GivesBy, Decodes, class_at, form_at}
use Rattle.link_base.specs.Borrowed.{HasValue, HasValues, Borrows, form_of, elements_at, HasContent}
use Rattle.link_entries.specs.Flat.{Elements, AreAddresses, number_entries, AreElements}
use Rattle.link_entries.proofs.OneContent.{value_at, says_at, bytes_in}
use Rattle.link_base.specs.declared.wire.buffer.NlaBuffer.{NlaBuffer}
use Rattle.link_base.specs.declared.rows.form.Form.{Form}
use Rattle.link_base.specs.declared.rows.form.Form.TheVariants as forms
use Rattle.link_base.specs.Buffer.{kind_field_of, payload_of}
use Rattle.link_entries.specs.declared.entry.Entry.{Entry}

-- the bytes of a nested list are its payload
pub list_payload : (o : Option Shape) (p : List ℕ) (bytes : Bor (List ℕ)) (stated : Bool) → Borrows o p (contents.List bytes stated) → bytes.now ≡ p
list_payload (Some (Nested flagged rows)) p bytes stated h = h
list_payload (Some (One classes.Limits)) p bytes stated h = absurd h
list_payload o p bytes stated h = absurd h

-- a content that is a list of addresses
pub record IsAddressList (o : Option Shape) (p : List ℕ) (list : Bor (List ℕ)) (size : ℕ) : Type 0 where
  pub shape : o ≡ Some (Addresses size)
  pub payload : list.now ≡ p

pub address_list : (o : Option Shape) (p : List ℕ) (list : Bor (List ℕ)) (size : ℕ) → Borrows o p (contents.Addresses list size) → IsAddressList o p list size
address_list (Some (Addresses n)) p list size h = record { shape = ap (λ m. Some (Addresses m)) (sym h.0); payload = h.1 }
address_list (Some (One classes.Limits)) p list size h = absurd h
address_list o p list size h = absurd h

-- the bytes of a value are no more than its payload
no_name : (n d : ℕ) (listed q : List ℕ) (b : Bool) → cond b (Name n d) (Unlisted n listed d) ≡ Raw q → ⊥
no_name n d listed q true h = cc
no_name n d listed q false h = cc

no_flag : (flag : Option Bool) (q : List ℕ) → flag_value flag ≡ Raw q → ⊥
no_flag None q h = cc
no_flag (Some b) q h = cc

raw_payload : (c : Class) (p q : List ℕ) → meant c p ≡ Raw q → length q ≤ length p
raw_payload classes.Optional p q h = absurd (no_flag (flag_in p) q h)
raw_payload (classes.Octets e) p q h = let same : take (size_of e) p ≡ q = cc in omega (arith, ap length same, length-take (size_of e) p)
raw_payload classes.Bytes p q h = let same : p ≡ q = cc in omega (arith, ap length same)
raw_payload (classes.Headed n) p q h = let same : p ≡ q = cc in omega (arith, ap length same)
raw_payload (classes.Many n) p q h = let same : p ≡ q = cc in omega (arith, ap length same)
raw_payload (classes.Named n listed) p q h = absurd (no_name n (number p) listed q (is_listed listed (number p)) h)
raw_payload c p q h = absurd cc

raw_at : (o : Option Shape) (p q : List ℕ) → value_at o p ≡ Raw q → length q ≤ length p
raw_at (Some (One c)) p q h = raw_payload c p q h
raw_at o p q h = absurd cc

-- those of an array
pub array_payload : (o : Option Shape) (p : List ℕ) (a : ArrayOf) (bytes : Bor (List ℕ)) → Borrows o p (contents.Numbers a bytes) → length bytes.now ≤ length p
array_payload o p a bytes h = raw_at o p bytes.now (says_at o p (contents.Numbers a bytes) refl h)

-- ---- lists of addresses decode, whatever the attribute types

others : List Frame → List AttrValue
others xs = map (λ x. Other x.kind_field x.payload) xs

each_other : (xs : List Frame) → AllZip (λ x v. FrameGives (Gives []) x (Ok v)) xs (others xs)
unfolding others
each_other [] = tt
each_other (x ∷ xs) = (refl, each_other xs)

decodes_by : (o : Option Shape) (f : ℕ) (p : List ℕ) (v : AttrValue) (size : ℕ) → o ≡ Some (Addresses size) → GivesBy o f p (Ok v) → Decodes [] p
decodes_by (Some (Addresses n)) f p v size e (Ok ps, wire, is) = record { values = others wire.frames; wire = record { frames = wire.frames; string = wire.string; values = each_other wire.frames } }
decodes_by (Some (Addresses n)) f p v size e (Err x, wire, is) = absurd cc
decodes_by o f p v size e given = absurd cc

pub addresses_decode : (table : Table) (f : ℕ) (p : List ℕ) (list : Bor (List ℕ)) (size : ℕ) → HasValue table f p → Borrows (class_at table (kind_of f)) p (contents.Addresses list size) → HasValues [] list.now
addresses_decode table f p list size has h none =
    let is = address_list (class_at table (kind_of f)) p list size h in
    has (λ v. none (subst (Decodes []) (sym is.payload) (decodes_by (class_at table (kind_of f)) f p v.0 size is.shape v.1)))

-- ---- other contents

-- a content that is neither a list nor an array has no elements
pub no_elements : (table : Table) (k at : ℕ) (x : Content) → ((w : ArrayOf) (p : Bor (List ℕ)) → x ≡ contents.Numbers w p → ⊥)
    → ((p : Bor (List ℕ)) (n : ℕ) → x ≡ contents.Addresses p n → ⊥) → ((p : Bor (List ℕ)) (stated : Bool) → x ≡ contents.List p stated → ⊥) → Elements table k at x []
no_elements table k at (contents.Numbers w p) a b c = absurd (a w p refl)
no_elements table k at (contents.Addresses p n) a b c = absurd (b p n refl)
no_elements table k at (contents.List p stated) a b c = absurd (c p stated refl)
no_elements table k at x a b c = refl

module _ (table : Table) (k at : ℕ) (o : Option Shape) (p : List ℕ) where
  -- the elements of a payload of this shape and form; none if it is no list
  abbrev pub ElementsBy : Option Form → List Entry → Type 0
  ElementsBy (Some (forms.List flagged)) es = AreElements (elements_at table k) k at p es
  ElementsBy (Some (forms.Addresses n)) es = AreAddresses k at n p es
  ElementsBy (Some (forms.Numbers w)) es = es ≡ number_entries k at w (bytes_in (value_at o p))
  ElementsBy form es = es ≡ []

  -- they are those of its content
  pub elements_by : (es : List Entry) (x : Content) → Borrows o p x → Elements table k at x es → ElementsBy (form_of x) es
  elements_by es (contents.List l stated) a h = subst (λ t. AreElements (elements_at table k) k at t es) (list_payload o p l stated a) h
  elements_by es (contents.Addresses l n) a h = subst (λ t. AreAddresses k at n t es) (address_list o p l n a).payload h
  elements_by es (contents.Numbers w l) a h = h ∙ ap (λ v. number_entries k at w (bytes_in v)) (sym (says_at o p (contents.Numbers w l) refl a))
  elements_by es x a h = h

-- likewise, by what is known of the attribute
pub elements_by_form : (table : Table) (b : NlaBuffer) (content : Content) → HasContent table b content → (at : ℕ) (es : List Entry) → Elements table (kind_of (kind_field_of b)) at content es → (k : ℕ) (p : List ℕ)
    → kind_of (kind_field_of b) ≡ k → payload_of b ≡ p → (o : Option Shape) (form : Option Form) → class_at table k ≡ o → form_at table k ≡ form → ElementsBy table k at o p form es
elements_by_form table b content has at es below k p kind bytes o form class named =
    let c = kind_of (kind_field_of b) in
    let here = subst (λ m. ElementsBy table c at (class_at table c) (payload_of b) m es) has.form (elements_by table c at (class_at table c) (payload_of b) es content has.borrows below) in
    let moved = subst (λ j. ElementsBy table j at (class_at table j) (payload_of b) (form_at table j) es) kind here in
    subst (λ m. ElementsBy table k at o p m es) named
    (subst (λ s. ElementsBy table k at s p (form_at table k) es) class (subst (λ q. ElementsBy table k at (class_at table k) q (form_at table k) es) bytes moved))
