-- What the answers of the calls for texts rest on.
use Rattle.std.proofs.Common.{◌≡◌, ℕ, List, Option, Result, Ok, Err, refl, sym, ap, subst}
use Rattle.std.specs.Prelude.{IsOk, OnOk}
use Rattle.link_base.specs.declared.views.content.Content.{Content}
use Rattle.netlink_packet_route.specs.declared.family.Family.{Family}
use Rattle.link_base.specs.Table.{Label}
use Rattle.link_show.specs.Value.{content_text}
use Rattle.link_entries.specs.declared.entry.Entry.{Entry}
use Rattle.link_entries.specs.declared.fields.Fields.{Fields}
use Rattle.link_entries.specs.declared.misfit.Misfit.{Misfit}
use Rattle.link_entries.specs.Payload.{payload_of}
use Rattle.nlroute_ffi.specs.declared.refusal.Refusal.{Refusal}
use Rattle.nlroute_ffi.specs.Buffers.{StoresText}
use Rattle.nlroute_ffi.specs.Names.{own_kind}
use Rattle.nlroute_ffi.specs.Writing.{refusal_for}
use Rattle.nlroute_ffi.specs.ValueText.{own_label, fields_for, payload_by, Shows, IsContent, label_or_plain, LabelAnswers, TextAnswers}

-- what holds if a result is `Ok`, and it is
pub on_ok : {T E P : Type 0} (r : Result T E) → IsOk r → OnOk r P → P
on_ok (Ok x) is h = h
on_ok (Err e) is h = absurd cc

module _ (label : Option Label) (e : Entry) (octets : List ℕ) (own : Fields) (k : ℕ) (fields : own ≡ fields_for label) (kind : k ≡ own_kind e) where
  -- the payload of an entry is shown
  pub shown_by : (s : List ℕ) → Shows own (record e { kind = k }) octets s → Shows (fields_for label) (record e { kind = own_kind e }) octets s
  shown_by s h = subst (λ o. Shows o (record e { kind = own_kind e }) octets s) fields (subst (λ j. Shows own (record e { kind = j }) octets s) kind h)

  -- the text of an entry
  pub text_answered : (old new s : List ℕ) (content : Content) (its_label : Label) (n : ℕ) → its_label ≡ label_or_plain label → Shows own (record e { kind = k }) octets s → IsContent label s content → StoresText (content_text its_label content) old new n
      → LabelAnswers (Ok label) e octets old new (Ok n)
  text_answered old new s content its_label n same shows is stored = (content_text its_label content, (s, shown_by s shows, (content, is, ap (λ l. content_text l content) same)), stored)

  -- or it has none
  pub refused_by : (misfit : Misfit) → payload_of own (record e { kind = k }) octets ≡ Err misfit → payload_by (Ok label) e octets ≡ Err misfit
  refused_by misfit none = subst (λ o. payload_of o (record e { kind = own_kind e }) octets ≡ Err misfit) fields (subst (λ j. payload_of own (record e { kind = j }) octets ≡ Err misfit) kind none)

  pub text_refused : (old new : List ℕ) (misfit : Misfit) (refusal : Refusal) → payload_of own (record e { kind = k }) octets ≡ Err misfit → refusal ≡ refusal_for misfit → LabelAnswers (Ok label) e octets old new (Err refusal)
  text_refused old new misfit refusal none is = (misfit, refused_by misfit none, is)

-- by what is known of its type
pub label_answered : (family : Family) (e : Entry) (octets old new : List ℕ) (label : Option Label) (result : Result ℕ Refusal) → own_label family e ≡ Ok label → LabelAnswers (Ok label) e octets old new result → TextAnswers e octets old new family result
label_answered family e octets old new label result is h = subst (λ o. LabelAnswers o e octets old new result) (sym is) h

pub element_refused : (family : Family) (e : Entry) (octets old new : List ℕ) (misfit : Misfit) (refusal : Refusal) → own_label family e ≡ Err misfit → refusal ≡ refusal_for misfit → TextAnswers e octets old new family (Err refusal)
element_refused family e octets old new misfit refusal is same = subst (λ o. LabelAnswers o e octets old new (Err refusal)) (sym is) (misfit, refl, same)
