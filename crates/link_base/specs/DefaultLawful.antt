-- The laws of one attribute hold for the table without rows: every `nla_type` and payload decode to `Other`.
use Rattle.std.specs.Prelude.{◌≡◌, ℕ, ◌<◌, ◌≤◌, List, length, Ok, refl}
use Rattle.std.proofs.Common.{sym, subst, ◌∙◌, arith}
use Rattle.link_base.specs.Number.{IsBytes}
use Rattle.link_base.specs.Frame.{pad}
use Rattle.link_base.specs.Table.{AttrValue, Case, Other, Gives, written_kind, written_payload, canon, cut, Allows, Fits}
use Rattle.link_base.specs.Held.{IsInRange, HidesNone, AttrIsUncut}
use Rattle.link_base.specs.Lawful.{IsReading, IsHolding, IsWriting, IsLawful}
use Rattle.link_base.specs.Default.{default_table}
use Rattle.link_base.specs.OneForm.{attr_form}

-- the decoded value
read_other : (f : ℕ) (p : List ℕ) (v : AttrValue) → Gives default_table f p (Ok v) → v ≡ Other f p
read_other f p v h = cc

default_reading : IsReading (Gives default_table)
default_reading = record { decided = λ f p hf hp. (Ok (Other f p), refl); one = λ f p r q a b. a ∙ sym b }

field_below : (v : AttrValue) → IsInRange default_table v → written_kind v < 65536
field_below (Case k c) h = absurd h.1
field_below (Other f p) h = h.0

payload_bytes : (v : AttrValue) → IsInRange default_table v → IsBytes (written_payload v)
payload_bytes (Case k c) h = absurd h.1
payload_bytes (Other f p) h = h.1

back : (v : AttrValue) → IsInRange default_table v → HidesNone default_table v → Fits v → Gives default_table (written_kind v) (written_payload v) (Ok (cut (canon v)))
back (Case k c) h none fit = absurd h.1
back (Other f p) h none fit = refl

uncut_stays : (v : AttrValue) → IsInRange default_table v → AttrIsUncut v → (cut v ≡ v) × (cut (canon v) ≡ canon v)
uncut_stays (Case k c) h u = absurd h.1
uncut_stays (Other f p) h u = (refl, refl)

-- what holds for `Other` holds for the decoded value
of_read : (P : AttrValue → Type 0) (f : ℕ) (p : List ℕ) (v : AttrValue) → Gives default_table f p (Ok v) → P (Other f p) → P v
of_read P f p v h other = subst P (sym (read_other f p v h)) other

default_holding : IsHolding (Gives default_table) written_kind written_payload canon cut (IsInRange default_table) (HidesNone default_table) AttrIsUncut
default_holding = record {
  field_below = field_below;
  payload_bytes = payload_bytes;
  back = back;
  one_form = attr_form;
  uncut_stays = uncut_stays;
  read_in_range = λ f p v hf hp h. of_read (IsInRange default_table) f p v h (hf, hp);
  read_hides_none = λ f p v hf hp h. of_read (HidesNone default_table) f p v h refl;
  read_own = λ f p v hf hp h. of_read (λ w. canon w ≡ w) f p v h refl;
}

default_writing : IsWriting (Gives default_table) written_kind written_payload cut (Allows default_table)
default_writing = record {
  allowed_reads = λ f p hf hp a. (Other f p, refl);
  allowed_stays = λ f p v hf hp h a. of_read (λ w. (written_kind w ≡ f) × (written_payload w ≡ p)) f p v h (refl, refl);
  stays_allowed = λ f p v hf hp hl h same. tt;
  length_bound = λ f p v hf hp h. of_read (λ w. length (written_payload w) ≤ pad (length p)) f p v h (omega arith);
  cut_allowed = λ f p v hf hp h fit. of_read (λ w. Allows default_table (written_kind (cut w)) (written_payload (cut w))) f p v h tt;
  cut_fits = λ f p v hf hp h fit. of_read (λ w. Fits w → Fits (cut w)) f p v h (λ g. g) fit;
  cut_once = λ f p v hf hp h fit. of_read (λ w. cut (cut w) ≡ cut w) f p v h refl;
}

-- the table without rows is lawful
pub default_lawful : IsLawful default_table
default_lawful = record { reading = default_reading; holding = default_holding; writing = default_writing }
