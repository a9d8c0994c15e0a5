-- An entry that was read encodes to what a rewriting writes: payloads of one class.
use Rattle.std.proofs.Common.{◌≡◌, inl, inr, ℕ, suc, ◌+◌, ◌-◌, ◌/◌, ◌%◌, ◌<◌, ◌≤◌, ◌==◌, ◌&&◌, ◌||◌, Bool, true, cond, pos, negsuc, List, [], ◌∷◌, ◌++◌, length, take, drop, replicate, Option, Ok, Err, refl, sym, ap, ap₂, ◌∙◌, arith, take_all, take_at, take-take}
use Rattle.std.specs.Prelude.{nat_le, nat_lt, slice_index}
use Rattle.std.specs.Int.{w32, w64, cast_signed, cast_unsigned}
use mir.Val.{sel}
use Rattle.std.proofs.lemmas.Int.{to_z_pos, of_z-to_z}
use Rattle.std.proofs.lemmas.Bool.{or_left, or_right, cases_lt, eq-eqb, le-leb, lt-ltb, le-ltb}
use Rattle.std.proofs.lemmas.List.{length-take, length-drop, take-append-drop}
use Rattle.link_base.specs.declared.rows.form.Width.{Width}
use Rattle.link_base.specs.Forms.{bytes_in}
use Rattle.link_base.specs.Number.{IsBytes, bytes_of, bound}
use Rattle.link_base.specs.Orders.{bytes_by}
use Rattle.link_base.specs.Class.{Raw}
use Rattle.link_base.specs.declared.rows.form.Order.{Order}
use Rattle.link_base.specs.declared.rows.form.Order.TheVariants as orders
use Rattle.link_base.proofs.Orders.{be_below, be_back}
use Rattle.link_base.specs.Layout.{number_at}
use Rattle.link_base.proofs.Values.{bytes-take, bytes-drop}
use Rattle.link_base.proofs.ClassLemmas.{number_in, same_bytes}
use Rattle.link_entries.proofs.OneContent.{number_by_order}
use Rattle.link_entries.specs.declared.entry.Entry.{Entry}
use Rattle.link_entries.specs.Entry.{padded}
use Rattle.link_entries.specs.declared.fields.Fields.{Fields}
use Rattle.link_entries.specs.declared.fields.Fields.TheVariants as fields
use Rattle.link_entries.specs.declared.misfit.Misfit.{Misfit}
use Rattle.link_entries.specs.declared.misfit.Misfit.TheVariants.{TooLong, BadForm, BadNumber, BadOctets}
use Rattle.link_entries.specs.Fields.{any_number}
use Rattle.link_entries.specs.Payload.{form_in, is_implied, is_i32, only_if, has_size, passed, content_of, payload_of}

-- the payload p is at the offset of the entry e in the list
pub record StandsAt (e : Entry) (list p : List ℕ) : Type 0 where
  pub size : e.length ≡ length p
  pub within : e.offset + length p ≤ length list
  pub short : length p ≤ 65531
  pub is : take (length p) (drop e.offset list) ≡ p

-- ---- tests that hold

module _ (own : Fields) (e : Entry) (octets : List ℕ) where
  pub right_form : e.form ≡ form_in own → payload_of own e octets ≡ content_of own e octets
  right_form same = ap (λ b. cond (b || ((e.form == 0) && is_implied own)) (content_of own e octets) (Err BadForm)) (eq-eqb e.form (form_in own) same)

-- an entry that passes the tests of its fields
pub passes : (own : Fields) (e : Entry) (octets p q : List ℕ) (b : Bool) (m : Misfit) → content_of own e octets ≡ only_if b m p → e.form ≡ form_in own → b ≡ true → p ≡ q → payload_of own e octets ≡ Ok q
passes own e octets p q b m is same holds all = right_form own e octets same ∙ is ∙ ap (λ t. cond t (Ok p) (Err m)) holds ∙ ap Ok all

-- ---- numbers

pub number_back : (form : ℕ) (w : Width) (e : Entry) (octets : List ℕ) → e.form ≡ form → e.number < bound (bytes_in w) → payload_of (any_number form w orders.Little) e octets ≡ Ok (bytes_of (bytes_in w) e.number)
number_back form w e octets same low = passes (any_number form w orders.Little) e octets _ _ _ BadNumber refl same (le-leb e.number (bound (bytes_in w) - 1) (omega (arith, low))) refl

by_order : (order : Order) (n : ℕ) (q : List ℕ) → IsBytes q → length q ≡ n → (number_by_order order (Raw q) < bound n) × (bytes_by order n (number_by_order order (Raw q)) ≡ q)
by_order orders.Little n q bytes size = (number_in n q bytes size, same_bytes n q bytes size)
by_order orders.Big n q bytes size = (be_below n q bytes size, be_back n q bytes size)

-- the number of a whole payload
pub whole_number : (form : ℕ) (w : Width) (order : Order) (q : List ℕ) (e : Entry) (octets : List ℕ) → IsBytes q → length q ≡ bytes_in w → e.form ≡ form → e.number ≡ number_by_order order (Raw q)
    → payload_of (any_number form w order) e octets ≡ Ok q
whole_number form w order q e octets bytes size same is =
    let (low, back) = by_order order (bytes_in w) q bytes size in
    passes (any_number form w order) e octets _ q _ BadNumber refl same (le-leb e.number (bound (bytes_in w) - 1) (omega (arith, low, is))) (ap (bytes_by order (bytes_in w)) is ∙ back)

-- ---- bytes that were passed in

pub passed_back : (size : Option ℕ) (e : Entry) (list p : List ℕ) → StandsAt e list p → has_size size e ≡ true → passed size e list ≡ Ok p
passed_back size e list p at sized =
    let fit : nat_le (e.offset + e.length) (length list) ≡ true = le-leb (e.offset + e.length) (length list) (omega (arith, at.within, at.size)) in
    let short : nat_le e.length 65531 ≡ true = le-leb e.length 65531 (omega (arith, at.short, at.size)) in
    let cut : take e.length (drop e.offset list) ≡ p = ap (λ n. take n (drop e.offset list)) at.size ∙ at.is in
    ap₂ (λ a b. cond (a && b) (only_if (nat_le e.length 65531) TooLong (take e.length (drop e.offset list))) (Err BadOctets)) sized fit
    ∙ ap (λ b. cond b (Ok (take e.length (drop e.offset list))) (Err TooLong)) short ∙ ap Ok cut

-- ---- numbers in structs

module _ (width offset : ℕ) (p : List ℕ) (bytes : IsBytes p) (within : offset + width ≤ length p) where
  abbrev part : List ℕ
  part = take width (drop offset p)

  some : IsBytes part
  some = bytes-take width (drop offset p) (bytes-drop offset p bytes)

  long : length part ≡ width
  long = omega (arith, length-take width (drop offset p), length-drop offset p, within)

  -- the number at an offset is in range, and has the bytes there
  pub at_below : number_at width offset p < bound width
  at_below = number_in width part some long

  pub at_back : bytes_of width (number_at width offset p) ≡ take width (drop offset p)
  at_back = same_bytes width part some long

-- two halves of some bytes
pub halves : (n : ℕ) (p : List ℕ) → length p ≡ n + n → take n (drop 0 p) ++ take n (drop n p) ≡ p
halves n p size = ap (λ t. take n p ++ t) (take_all n (drop n p) (omega (arith, length-drop n p, size))) ∙ take-append-drop n p

-- octets that were padded
pub padded_back : (q : List ℕ) (n : ℕ) → length q ≡ n → n ≤ 16 → take n (padded q) ≡ q
padded_back q n size few =
    take-take n 16 (q ++ replicate 16 0) few ∙ take_at q (replicate 16 0) n size

pub address_back : (form n : ℕ) (e : Entry) (octets q : List ℕ) → e.form ≡ form → e.length ≡ n → length q ≡ n → n ≤ 16 → e.octets ≡ padded q → payload_of (fields.Address form n) e octets ≡ Ok q
address_back form n e octets q same size len few is =
    passes (fields.Address form n) e octets _ q _ BadOctets refl same (eq-eqb e.length n size) (ap (take n) is ∙ padded_back q n len few)

-- a signed number
low4 : (x y : ℕ) → y % 4294967296 ≡ x → bytes_of 4 y ≡ bytes_of 4 x
low4 x y e =
    let a : y % 256 ≡ x % 256 = omega (arith, e) in
    let b : y / 256 % 256 ≡ x / 256 % 256 = omega (arith, e) in
    let c : y / 256 / 256 % 256 ≡ x / 256 / 256 % 256 = omega (arith, e) in
    let d : y / 256 / 256 / 256 % 256 ≡ x / 256 / 256 / 256 % 256 = omega (arith, e) in
    ap₂ (λ s t. s ++ t) (ap₂ (λ m n. m ∷ n ∷ []) a b) (ap₂ (λ m n. m ∷ n ∷ []) c d)

-- a negative number has 32 bits in a payload, and 64 in an entry
pub negative : (x : ℕ) → 2147483648 ≤ x → x < 4294967296 → cast_unsigned w64 (cast_signed w32 x) ≡ x + 18446744069414584320
negative x large low = ap (λ b. cast_unsigned w64 (sel b (pos x) (negsuc (4294967296 - suc x)))) (le-ltb x 2147483648 large) ∙ omega (arith, low, large)

pub signed_back : (e : Entry) (octets : List ℕ) (x : ℕ) → x < 4294967296 → e.form ≡ 4 → e.number ≡ cast_unsigned w64 (cast_signed w32 x)
    → payload_of fields.Signed e octets ≡ Ok (bytes_of 4 (cast_unsigned w32 (cast_signed w32 x)))
signed_back e octets x low same is =
    let (fits, end) : (is_i32 e.number ≡ true) × (e.number % 4294967296 ≡ x) = elim (cases_lt x 2147483648) [
      | inl small ↦
          let own : e.number ≡ x = is ∙ ap (cast_unsigned w64) (to_z_pos w32 x small) in
          (or_left (nat_lt e.number 2147483648) (nat_le 18446744071562067968 e.number) (lt-ltb e.number 2147483648 (omega (arith, own, small))), omega (arith, own, low))
      | inr large ↦
          let own = is ∙ negative x large low in
          (or_right (nat_lt e.number 2147483648) (nat_le 18446744071562067968 e.number) (le-leb 18446744071562067968 e.number (omega (arith, own, large))), omega (arith, own, low))
    ] in
    passes fields.Signed e octets _ _ _ BadNumber refl same fits (low4 x e.number end ∙ ap (bytes_of 4) (sym (of_z-to_z w32 x low)))

-- the first byte of two
pub first_below : (p : List ℕ) → IsBytes p → slice_index p 0 < 256
first_below [] h = omega arith
first_below (b ∷ p) h = h.0

pub low2 : (x : ℕ) → x < 256 → bytes_of 2 x ≡ x ∷ 0 ∷ []
low2 x h = let a : x % 256 ≡ x = omega (arith, h) in let b : x / 256 % 256 ≡ 0 = omega (arith, h) in ap₂ (λ m n. m ∷ n ∷ []) a b

-- at the start of a payload
pub front_stands : (e : Entry) (list p : List ℕ) (n : ℕ) → StandsAt e list p → n ≤ length p → (e' : Entry) → e'.offset ≡ e.offset → e'.length ≡ n → StandsAt e' list (take n p)
front_stands e list p n at few e' place size =
    let len : length (take n p) ≡ n = omega (arith, length-take n p, few) in
    record {
      size = size ∙ sym len;
      within = omega (arith, place, len, at.within, few);
      short = omega (arith, len, at.short, few);
      is = ap₂ (λ k o. take k (drop o list)) len place ∙ sym (take-take n (length p) (drop e.offset list) few) ∙ ap (take n) at.is;
    }
