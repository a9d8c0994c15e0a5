-- The errors of messages, in structs.
use Rattle.std.proofs.Common.{◌≡◌, inl, inr, ℕ, ◌<◌, ◌^◌, nat_lt, cond, List, [], ◌∷◌, length, take, Option, Some, None, option_map, Result, Ok, Err, ap, ap₂, subst, ◌∙◌, arith}
use Rattle.std.specs.Option.{IfSome}
use Rattle.std.proofs.lemmas.Bool.{cond_both, lt-ltb}
use Rattle.netlink_packet_route.specs.Number.{IsBytes, number}
use Rattle.link_messages.specs.declared.buffer_parts.Message.{Message}
use Rattle.link_messages.specs.declared.message.MessageError.{MessageError}
use Rattle.link_messages.specs.declared.message.MessageError.TheVariants as errors
use Rattle.link_messages.specs.Message.{header_fault}
use Rattle.nlroute_ffi.specs.declared.fault.FirstError.{FirstError}
use Rattle.nlroute_ffi.specs.Error.{error_numbers}
use Rattle.nlroute_ffi.specs.Messages.{HasNoFields, ReadsMessage, MessageErrorAnswers, message_numbers}
use Rattle.netlink_packet_route.specs.declared.link.DecodeFault.{DecodeFault}
use Rattle.netlink_packet_route.specs.declared.family.Family.{Family}
use Rattle.nlroute_ffi.specs.declared.refusal.Refusal.{Refusal}
use Rattle.nlroute_ffi.specs.declared.refusal.Refusal.TheVariants.{BadForm}
use Rattle.nlroute_ffi.specs.ErrorText.{packet_length_of, message_error_of, fault_of, ErrorTextBy, ErrorTextAnswers}

-- ---- the error in a struct

packet_length_found : (n : ℕ) (make : ℕ → MessageError) → n < 2 ^ 32 → option_map make (packet_length_of n) ≡ Some (make n)
packet_length_found n make h = ap (λ b. option_map make (cond b (Some n) None)) (lt-ltb n (2 ^ 32) h)

-- the error with these numbers
error_by : ℕ → ℕ → ℕ → ℕ → ℕ → Option MessageError
error_by at place cause first second = message_error_of (record { at = at; first = first; second = second; place = place; kind = 0; inner = 0; cause = cause })

printed_by : (x : FirstError) (at place kind inner cause first second : ℕ) → error_numbers x ≡ at ∷ place ∷ kind ∷ inner ∷ cause ∷ first ∷ second ∷ [] → message_error_of x ≡ error_by at place cause first second
unfolding error_by
printed_by x at place kind inner cause first second h =
    let a : x.at ≡ at = cc in let b : x.place ≡ place = cc in let c : x.cause ≡ cause = cc in let d : x.first ≡ first = cc in let e : x.second ≡ second = cc in
    ap₂ (λ a b. error_by a b x.cause x.first x.second) a b ∙ ap₂ (λ a b. error_by at place a b x.second) c d ∙ ap (error_by at place cause first) e

-- errors that occur: an `nlmsg_len` is a `u32`
abbrev Fits : MessageError → Type 0
Fits (errors.ShortHeader at left) = Unit {0}
Fits (errors.SmallLength at n) = n < 2 ^ 32
Fits (errors.Overrun at n left) = n < 2 ^ 32
Fits (errors.ShortLink at n) = Unit {0}
Fits error = ⊥

message_found : (x : FirstError) (e : MessageError) → Fits e → error_numbers x ≡ message_numbers e → message_error_of x ≡ Some e
unfolding error_by
message_found x (errors.ShortHeader at left) fits h = printed_by x at 6 0 0 1 left 0 h
message_found x (errors.SmallLength at n) fits h = printed_by x at 6 0 0 2 n 0 h ∙ packet_length_found n (λ k. errors.SmallLength at k) fits
message_found x (errors.Overrun at n left) fits h = printed_by x at 6 0 0 3 n left h ∙ packet_length_found n (λ k. errors.Overrun at k left) fits
message_found x (errors.ShortLink at n) fits h = printed_by x at 7 0 0 5 32 n h
message_found x (errors.OtherType at kind) fits h = absurd fits
message_found x (errors.ShortError at n) fits h = absurd fits

-- ---- the errors that are read

stated_short : (r : List ℕ) → IsBytes r → number (take 4 r) < 2 ^ 32
stated_short [] h = omega arith
stated_short (a ∷ []) h = omega (arith, h.0)
stated_short (a ∷ b ∷ []) h = omega (arith, h.0, h.1.0)
stated_short (a ∷ b ∷ c ∷ []) h = omega (arith, h.0, h.1.0, h.1.1.0)
stated_short (a ∷ b ∷ c ∷ d ∷ r) h = omega (arith, h.0, h.1.0, h.1.1.0, h.1.1.1.0)

abbrev Occurs : Option MessageError → Type 0
Occurs o = IfSome o Fits

header_fits : (at : ℕ) (r : List ℕ) → IsBytes r → Occurs (header_fault at r)
header_fits at r bytes =
    let stated = number (take 4 r) in
    let low = stated_short r bytes in
    cond_both (nat_lt (length r) 16) (Some (errors.ShortHeader at (length r))) _ Occurs (λ e. tt)
    (λ e. cond_both (nat_lt stated 16) (Some (errors.SmallLength at stated)) _ Occurs (λ e. low)
    (λ e. cond_both (nat_lt (length r) stated) (Some (errors.Overrun at stated (length r))) None Occurs (λ e. low) (λ e. tt)))

link_fits : (m : Message) (e : MessageError) → HasNoFields m e → Fits e
link_fits m (errors.ShortLink at n) h = tt
link_fits m (errors.OtherType at kind) h = h.1.0 h.0
link_fits m (errors.ShortHeader at left) h = tt
link_fits m (errors.SmallLength at n) h = absurd h.1
link_fits m (errors.Overrun at n left) h = absurd h.1
link_fits m (errors.ShortError at n) h = h.1

read_fits : (at : ℕ) (r : List ℕ) (e : MessageError) → IsBytes r → ReadsMessage at r (Err e) → Fits e
read_fits at r e bytes (inl (some, fault)) = subst Occurs fault (header_fits at r bytes)
read_fits at r e bytes (inr (m, is, none)) = link_fits m e none

-- the struct has this error
pub message_printed : (at : ℕ) (r : List ℕ) (x : FirstError) (n : ℕ) → IsBytes r → MessageErrorAnswers at r x (Ok n)
    → (e : MessageError) × ReadsMessage at r (Err e) × (message_error_of x ≡ Some e)
message_printed at r x n bytes (zero, (e, reads, same)) = (e, reads, message_found x e (read_fits at r e bytes reads) same)

-- its text
text_printed : (o : Option DecodeFault) (x : FirstError) (e : MessageError) (family : Family) (old new : List ℕ) (r : Result ℕ Refusal) → message_error_of x ≡ Some e → ErrorTextBy o x old new family r → r ≡ Err BadForm → ⊥
text_printed (Some fault) x e family old new r found is_printed is = let bad : ErrorTextBy (Some fault) x old new family (Err BadForm) = subst (ErrorTextBy (Some fault) x old new family) is is_printed in absurd bad
text_printed None x e family old new r found is_printed is = let none : message_error_of x ≡ None = subst (ErrorTextBy None x old new family) is is_printed in absurd cc

pub message_text : (at : ℕ) (r : List ℕ) (x : FirstError) (n : ℕ) (family : Family) (old new : List ℕ) (result : Result ℕ Refusal) → IsBytes r → MessageErrorAnswers at r x (Ok n) → ErrorTextAnswers x old new family result
    → result ≡ Err BadForm → ⊥
message_text at r x n family old new result bytes h is_printed is =
    let (e, reads, found) = message_printed at r x n bytes h in text_printed (fault_of x) x e family old new result found is_printed is
