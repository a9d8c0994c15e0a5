-- The addresses of a list: one attribute more, and the end.
use Rattle.std.proofs.Common.{◌≡◌, ◌≢◌, ℕ, ◌-◌, ◌==◌, Bool, true, false, cond, List, [], ◌∷◌, ◌++◌, length, Some, Result, Ok, Err, OnOk, refl, sym, ap, subst, ◌∙◌, append_assoc, codes}
use Rattle.link_show.specs.Sink.{Output, Gains}
use Rattle.link_show.specs.Gained.{gains_more}
use Rattle.std.proofs.lemmas.List.{append-nil}
use Rattle.std.proofs.lemmas.Grind.{flat_map-append}
use Rattle.link_base.specs.declared.wire.buffer.NlaBuffer.{NlaBuffer}
use Rattle.link_base.specs.declared.wire.fault.Cause.{Cause}
use Rattle.link_base.specs.Frame.{frame_fault}
use Rattle.link_base.specs.Buffer.{payload_of, SplitsFirst}
use Rattle.link_messages.specs.Walk.{Item, Walks}
use Rattle.link_messages.proofs.Walking.{walks_more}
pub use Rattle.link_messages.proofs.Walking.{walk_to}
use Rattle.link_show.specs.Text.{after, joined, list_text, empty_text}
use Rattle.link_show.specs.List.{ip_text, address_in, addresses_in, address_after, separator_after, ShowsAddresses, WritesOut}

-- what precedes the next text
abbrev next_of : List ℕ → List ℕ → List (List ℕ) → List ℕ
next_of first separator [] = first
next_of first separator (t ∷ texts) = separator

same_next : (separator : List ℕ) (texts : List (List ℕ)) → next_of separator separator texts ≡ separator
same_next separator [] = refl
same_next separator (t ∷ texts) = refl

-- one text more
after_push : (first separator : List ℕ) (texts : List (List ℕ)) (t : List ℕ) → after first separator (texts ++ t ∷ []) ≡ after first separator texts ++ (next_of first separator texts ++ t)
after_push first separator [] t = ap (λ l. first ++ l) (append-nil t)
after_push first separator (x ∷ texts) t =
    let more = after_push separator separator texts t ∙ ap (λ l. after separator separator texts ++ (l ++ t)) (same_next separator texts) in
    let rest = after separator separator texts in
    ap (λ l. first ++ (x ++ l)) more ∙ ap (λ l. first ++ l) (sym (append_assoc x rest (separator ++ t))) ∙ sym (append_assoc first (x ++ rest) (separator ++ t))

-- one text more, or none
joined_more : (b : Bool) (texts : List (List ℕ)) (t separator : List ℕ) → separator ≡ next_of [] (codes " ") texts
    → joined (codes " ") (texts ++ cond b (t ∷ []) []) ≡ joined (codes " ") texts ++ cond b (separator ++ t) []
joined_more true texts t separator e = after_push [] (codes " ") texts t ∙ ap (λ s. joined (codes " ") texts ++ (s ++ t)) (sym e)
joined_more false texts t separator e = ap (joined (codes " ")) (append-nil texts) ∙ sym (append-nil (joined (codes " ") texts))

next_push : (first separator : List ℕ) (texts : List (List ℕ)) (t : List ℕ) → separator ≡ next_of first separator (texts ++ t ∷ [])
next_push first separator [] t = refl
next_push first separator (x ∷ texts) t = refl

next_more : (b : Bool) (texts : List (List ℕ)) (t separator : List ℕ) → separator ≡ next_of [] (codes " ") texts → cond b (codes " ") separator ≡ next_of [] (codes " ") (texts ++ cond b (t ∷ []) [])
next_more true texts t separator e = next_push [] (codes " ") texts t
next_more false texts t separator e = e ∙ ap (next_of [] (codes " ")) (sym (append-nil texts))

-- the addresses before `rest` were written, and this separator precedes the next
pub record AddressesTo (size : ℕ) (list rest separator : List ℕ) (old new : Output) : Type 0 where
  pub items : List Item
  pub walks : Walks (length list) list items rest
  pub written : Gains old new (joined (codes " ") (addresses_in size items))
  pub next : separator ≡ next_of [] (codes " ") (addresses_in size items)

pub addresses_more : (size : ℕ) (list rest behind separator next : List ℕ) (old mid new : Output) (b : NlaBuffer) → AddressesTo size list rest separator old mid → SplitsFirst rest b behind
    → Gains mid new (address_after size (payload_of b) separator) → next ≡ separator_after size (payload_of b) separator → AddressesTo size list behind next old new
addresses_more size list rest behind separator next old mid new b h split written e =
    let item : Item = (length list - length rest, b) in
    let is = length (payload_of b) == size in
    let t = ip_text (payload_of b) in
    let texts = addresses_in size h.items in
    let one : addresses_in size (h.items ++ item ∷ []) ≡ texts ++ cond is (t ∷ []) [] =
    flat_map-append (address_in size) h.items (item ∷ []) ∙ ap (λ l. texts ++ l) (append-nil (cond is (t ∷ []) [])) in
    record {
      items = h.items ++ item ∷ [];
      walks = walks_more (length list) list h.items rest b behind h.walks split;
      written =
          subst (Gains old new) (sym (joined_more is texts t separator h.next) ∙ ap (joined (codes " ")) (sym one))
          (gains_more old mid new (joined (codes " ") texts) (cond is (separator ++ t) []) h.written written);
      next = e ∙ next_more is texts t separator h.next ∙ ap (next_of [] (codes " ")) (sym one);
    }

-- ---- the end

no_text : (texts : List (List ℕ)) → [] ≡ next_of [] (codes " ") texts → texts ≡ []
no_text [] e = refl
no_text (t ∷ texts) e = absurd cc

some_text : (texts : List (List ℕ)) (separator : List ℕ) → separator ≡ next_of [] (codes " ") texts → separator ≢ [] → list_text (codes " ") texts ≡ joined (codes " ") texts
some_text [] separator e some = absurd (some e)
some_text (t ∷ texts) separator e some = refl

-- there are addresses
pub addresses_all : (size : ℕ) (list rest separator : List ℕ) (old new : Output) (c : Cause) → AddressesTo size list rest separator old new → frame_fault rest ≡ Some c → separator ≢ []
    → WritesOut (ShowsAddresses size list) old new
addresses_all size list rest separator old new c h bad some =
    let end = walk_to list rest h.items c h.walks bad in
    (_, (h.items, (end.0, end.1, refl)), subst (Gains old new) (sym (some_text (addresses_in size h.items) separator h.next some)) h.written)

-- there is none
pub addresses_empty : {X E : Type 0} (r : Result X E) (size : ℕ) (list rest separator : List ℕ) (old mid new : Output) (c : Cause) → AddressesTo size list rest separator old mid → frame_fault rest ≡ Some c → separator ≡ []
    → OnOk r (Gains mid new empty_text) → OnOk r (WritesOut (ShowsAddresses size list) old new)
addresses_empty (Ok x) size list rest separator old mid new c h bad empty written =
    let end = walk_to list rest h.items c h.walks bad in
    let none = no_text (addresses_in size h.items) (sym empty ∙ h.next) in
    let front = subst (λ texts. Gains old mid (joined (codes " ") texts)) none h.written in
    (_, (h.items, (end.0, end.1, refl)), subst (λ texts. Gains old new (list_text (codes " ") texts)) (sym none) (gains_more old mid new [] empty_text front written))
addresses_empty (Err x) size list rest separator old mid new c h bad empty written = written
