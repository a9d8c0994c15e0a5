-- Flags that may have a byte: the payloads that entries encode to, and what is read of them.
use Rattle.std.proofs.Common.{◌≡◌, ◌≢◌, ℕ, zero, suc, ◌≤◌, true, false, cond, List, [], ◌∷◌, length, take, Ok, Err, refl, sym, ap, ap₂, subst, ◌∙◌, arith, take-append-drop}
use Rattle.std.specs.Prelude.{nat_le, nat_lt}
use Rattle.std.proofs.lemmas.Bool.{eqb-true, leb-true, lt-leb}
use Rattle.link_base.specs.Number.{bytes_of}
use Rattle.link_base.specs.Class.{flag_in, flag_value, written}
use Rattle.link_entries.specs.declared.entry.Entry.{Entry}
use Rattle.link_entries.specs.declared.fields.Fields.TheVariants as fields
use Rattle.link_entries.specs.declared.misfit.Misfit.TheVariants.{BadNumber, BadOctets}
use Rattle.link_entries.specs.Forms.{form_bool}
use Rattle.link_entries.specs.Payload.{only_if, holds_flag, flag_payload, payload_of}
use Rattle.link_entries.specs.Stored.{padded, StoresAt, StoresPayload}
use Rattle.link_entries.proofs.OneContent.{number_in}
use Rattle.link_entries.proofs.BackValues.{right_form}
use Rattle.link_entries.proofs.WrittenLists.{if_held, only_held}

-- ---- what an entry encodes to

pub without_byte : (n x : ℕ) → n ≡ 0 → holds_flag n x ≡ true → flag_payload n x ≡ Ok []
without_byte zero x e h = ap (λ b. cond b (Ok []) (Err BadNumber)) h
without_byte (suc n) x e h = absurd (omega (arith, e))

pub with_byte : (n x : ℕ) → n ≡ 1 → holds_flag n x ≡ true → (flag_payload n x ≡ Ok (bytes_of 1 x)) × (x ≤ 1)
with_byte zero x e h = absurd (omega (arith, e))
with_byte (suc zero) x e h = (ap (λ b. cond b (Ok (bytes_of 1 x)) (Err BadNumber)) h, leb-true x 1 h)
with_byte (suc (suc n)) x e h = absurd (omega (arith, e))

pub many_bytes : (n x : ℕ) → n ≢ 0 → n ≢ 1 → holds_flag n x ≡ true → flag_payload n x ≡ Err BadOctets
many_bytes zero x none one h = absurd (none refl)
many_bytes (suc zero) x none one h = absurd (one refl)
many_bytes (suc (suc n)) x none one h = ap₂ (λ a b. cond a (only_if b BadOctets (take (suc (suc n)) (bytes_of 1 x))) (Err BadNumber)) h (lt-leb (suc (suc n)) 1 (omega arith))

pub no_flag : (n x : ℕ) → holds_flag n x ≡ false → flag_payload n x ≡ Err BadNumber
no_flag n x h = ap (λ t. cond t (only_if (nat_le n 1) BadOctets (take n (bytes_of 1 x))) (Err BadNumber)) h

-- nothing is stored without a byte, otherwise the byte with its padding
pub unstored_flag : (n x : ℕ) (old : List ℕ) → n ≡ 0 → holds_flag n x ≡ true → StoresPayload (flag_payload n x) old old
unstored_flag n x old none h =
    subst (λ r. StoresPayload r old old) (sym (without_byte n x none h)) (record { same = refl; stored = λ room. sym (take-append-drop 4 old) })

pub stored_flag : (n x : ℕ) (old new : List ℕ) → n ≡ 1 → holds_flag n x ≡ true → StoresAt 4 (padded (bytes_of 1 x)) old new → StoresPayload (flag_payload n x) old new
stored_flag n x old new one h stored = subst (λ r. StoresPayload r old new) (sym (with_byte n x one h).0) stored

-- ---- what is read of it

same_number : (x : ℕ) → x ≤ 1 → number_in (flag_value (flag_in (bytes_of 1 x))) ≡ x
same_number zero h = refl
same_number (suc zero) h = refl
same_number (suc (suc x)) h = absurd (omega (arith, h))

-- n bytes, none or one, with the number x
pub flag_read : (n x : ℕ) (p : List ℕ) → flag_payload n x ≡ Ok p → (number_in (flag_value (flag_in p)) ≡ x) × (length p ≡ n) × (n ≤ 1)
flag_read n x p h =
    let right = if_held (holds_flag n x) BadNumber (only_if (nat_le n 1) BadOctets (take n (bytes_of 1 x))) p h in
    let both = only_held (nat_le n 1) BadOctets (take n (bytes_of 1 x)) p right.1 in
    by n (leb-true n 1 both.0) right.0 both.1
  where
    by : (n : ℕ) → n ≤ 1 → holds_flag n x ≡ true → p ≡ take n (bytes_of 1 x) → (number_in (flag_value (flag_in p)) ≡ x) × (length p ≡ n) × (n ≤ 1)
    by zero few on is = (ap (λ q. number_in (flag_value (flag_in q))) is ∙ sym (eqb-true x 1 on), ap length is, few)
    by (suc zero) few on is = (ap (λ q. number_in (flag_value (flag_in q))) is ∙ same_number x (leb-true x 1 on), ap length is, few)
    by (suc (suc n)) few on is = absurd (omega (arith, few))

pub flag_few : (n x : ℕ) (p : List ℕ) → flag_payload n x ≡ Ok p → length p ≤ 1
flag_few n x p h = let read = flag_read n x p h in omega (arith, read.1, read.2)

-- ---- what was read is encoded

encoded_by : (p : List ℕ) → length p ≤ 1 → flag_payload (length p) (number_in (flag_value (flag_in p))) ≡ Ok (written (flag_value (flag_in p)))
encoded_by [] few = refl
encoded_by (b ∷ []) few =
    elim (nat_lt 0 b) as (λ on. flag_payload 1 (cond on 1 0) ≡ Ok (cond on 1 0 ∷ [])) [
      | true ↦ refl
      | false ↦ refl
    ]
encoded_by (b ∷ c ∷ p) few = absurd (omega (arith, few))

pub flag_back : (e : Entry) (list p : List ℕ) → e.form ≡ form_bool → e.length ≡ length p → length p ≤ 1 → e.number ≡ number_in (flag_value (flag_in p))
    → payload_of fields.FlagOrBool e list ≡ Ok (written (flag_value (flag_in p)))
flag_back e list p same size few is = right_form fields.FlagOrBool e list same ∙ ap₂ flag_payload size is ∙ encoded_by p few
