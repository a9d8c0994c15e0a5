-- The lines of messages, from what was written for their parts.
use Rattle.std.proofs.Common.{◌≡◌, ◌≢◌, ℕ, ℤ, pos, negsuc, Bool, true, arith, ◌&&◌, List, ◌++◌, drop, Result, Ok, Err, IfOk, refl, sym, ◌∙◌, append_assoc, codes}
use Rattle.std.specs.Int.RustNames.{unsigned_abs}
use Rattle.std.specs.Int.{is_negative}
use Rattle.link_show.specs.Sink.{Output, Gains}
use Rattle.link_show.specs.Gained.{gains_more}
use Rattle.std.proofs.lemmas.Bool.{ltb-true, cond-false, ne_eqb}
use Rattle.link_base.specs.Labels.{name_in}
use Rattle.link_messages.specs.declared.buffer_parts.Message.{Message}
use Rattle.link_messages.specs.Message.{Stand, IsMessageAt}
use Rattle.link_messages.proofs.Messages.{stand_more}
use Rattle.link_show.specs.Structs.{field}
use Rattle.link_show.specs.Errno.{errno_names}
use Rattle.link_show.specs.List.{Writes}
use Rattle.link_show.specs.HeaderText.{unless_zero}
use Rattle.link_show.specs.Message.{errno_name, ShowsBuffer}
use Rattle.link_show.proofs.Listing.{and_true, Added, ShownTo, shown_more}

pub if_ok : {X E : Type 0} (P Q : X → Type 0) (r : Result X E) → ((x : X) → P x → Q x) → IfOk r P → IfOk r Q
if_ok P Q (Ok x) f h = f x h
if_ok P Q (Err e) f h = h

-- a text was written, and then, unless the call failed, what it is shown before
pub writes_after : {E : Type 0} (r : Result Bool E) (P Q : List ℕ → Bool → Type 0) (old mid new : Output) (s : List ℕ) → Gains old mid s → ((out : List ℕ) (well : Bool) → P out well → Q (s ++ out) well)
    → IfOk r (Writes P mid new) → IfOk r (Writes Q old new)
writes_after r P Q old mid new s first shows = if_ok (Writes P mid new) (Writes Q old new) r (λ well (out, shown, second). (s ++ out, shows out well shown, gains_more old mid new s out first second))

-- ---- texts

pub field_unless_zero : (n : ℕ) (name text : List ℕ) → n ≢ 0 → (codes " " ++ (name ++ codes " ")) ++ text ≡ unless_zero n name text
field_unless_zero n name text some =
    let shape : (codes " " ++ (name ++ codes " ")) ++ text ≡ codes " " ++ field name text = simp append_assoc in
    shape ∙ sym (cond-false _ _ _ (ne_eqb _ _ some))

-- the name of a negative number
pub errno_negative : (e : ℤ) → is_negative e ≡ true → name_in errno_names (unsigned_abs e) ≡ errno_name e
errno_negative (pos n) h = absurd (omega (arith, ltb-true n 0 h))
errno_negative (negsuc n) h = refl

-- ---- the messages of a buffer

-- the outputs for the messages of a buffer before offset `at` were added
abbrev pub MessagesTo : {W Y : Type 0} → (W → W → List Y → Type 0) → (Message → List Y → Bool → Type 0) → List ℕ → ℕ → W → W → Bool → Type 0
MessagesTo Adds shows s at = ShownTo Adds shows (λ messages. Stand s 0 messages at)

module _ {W Y : Type 0} {Adds : W → W → List Y → Type 0} {shows : Message → List Y → Bool → Type 0} (more : (old mid new : W) (a b : List Y) → Adds old mid a → Adds mid new b → Adds old new (a ++ b))
    (s : List ℕ) (at : ℕ) (old mid new : W) (whole : Bool) (h : MessagesTo Adds shows s at old mid whole) where
  -- one more
  pub messages_more : (m : Message) (well : Bool) → IsMessageAt at (drop at s) m → m.kind ≢ 3 → Added Adds (shows m) mid new well → MessagesTo Adds shows s m.next old new (whole && well)
  messages_more m well is other (out, shown, written) =
      shown_more (λ messages. Stand s 0 messages m.next) m out old mid new whole well (more old mid new) (λ messages stand. stand_more s 0 at messages m stand (is, other)) h shown written

  -- what ends them
  pub messages_end : (ends : ℕ → List Y → Bool → Type 0) (well : Bool) → Added Adds (ends at) mid new well → Added Adds (ShowsBuffer shows ends s) old new (whole && well)
  messages_end ends well (out, shown, written) = (
    h.out ++ out,
    record { messages = h.items; end = at; stand = h.leads; front = h.out; front_well = whole; each = h.each; last = out; last_well = well; at_end = shown; joined = refl; all = refl },
    more old mid new h.out out h.written written,
  )

  -- likewise, if that is well
  pub messages_all : (ends : ℕ → List Y → Bool → Type 0) → Added Adds (ends at) mid new true → Added Adds (ShowsBuffer shows ends s) old new whole
  messages_all ends last = rw and_true at (messages_end ends true last)
