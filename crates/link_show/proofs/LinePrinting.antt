-- The lines of attributes that are no lists, and of errors, are printable.
use Rattle.std.proofs.Common.{◌≡◌, ℕ, ◌+◌, ◌-◌, ◌==◌, Bool, true, false, List, [], ◌∷◌, ◌++◌, length, Option, Some, None, if◌then◌else◌, refl, sym, ap, ap₂, subst, ◌∙◌, codes, append_assoc}
use Rattle.std.specs.List.{AllByRecursion}
use Rattle.std.proofs.lemmas.List.{append-nil}
use Rattle.std.proofs.lemmas.Grind.{flat_map-append}
use Rattle.link_base.specs.declared.wire.buffer.NlaBuffer.{NlaBuffer}
use Rattle.link_base.specs.declared.views.content.Content.{Content}
use Rattle.link_base.specs.declared.views.content.Content.TheVariants as contents
use Rattle.link_base.specs.Frame.{kind_of}
use Rattle.link_base.specs.Buffer.{kind_field_of, payload_of}
use Rattle.link_base.specs.Labels as Labels
use Rattle.link_base.specs.Table.{Label, Table}
use Rattle.link_base.proofs.Written.{all_append}
use Rattle.link_messages.specs.Walk.{Item}
use Rattle.link_messages.specs.declared.header.LinkHeader.{LinkHeader}
use Rattle.link_show.specs.Flags.{flags_text}
use Rattle.link_show.specs.HeaderText.{named_or, unless_zero, header_parts, peer_text}
use Rattle.link_show.specs.MessageNames.{address_families, device_types, device_flags}
use Rattle.link_show.specs.List.{indented, error_line, EachShown, type_flags, flags_after, head_text, has_text, attribute_text, label_for, ip_text, address_in, addresses_in, ShowsAddresses, ShowsFlat, ShowsVerdict, Unasked, IsCanonical, IsNot}
use Rattle.link_show.specs.Printable.{IsText, AreTexts, has_texts}
use Rattle.link_show.proofs.Listing.{all_any, each_hold}
use Rattle.link_show.proofs.Printing.{text, none, and, either, list_text_text, decimal_text, signed_text, hex_bytes, ipv4_is_text, ip6_is_text}
use Rattle.link_show.proofs.ValuePrinting.{EachName, OnText, IsLabelText, choose, each_name, name_found, flags_is_text, field_is_text, label_is_text, value_is_text}

-- ---- lines

pub no_texts : AreTexts []
no_texts = record { lines = []; each = tt; cut = refl }

pub and_texts : {s t : List ℕ} → AreTexts s → AreTexts t → AreTexts (s ++ t)
and_texts h k = record {
  lines = h.lines ++ k.lines;
  each = all_append IsText h.lines k.lines h.each k.each;
  cut = ap₂ (λ a b. a ++ b) h.cut k.cut ∙ sym (flat_map-append (λ l. l ++ 10 ∷ []) h.lines k.lines);
}

-- a text, and LF
pub record IsLine (out : List ℕ) : Type 0 where
  pub text : List ℕ
  pub is : IsText text
  pub cut : out ≡ text ++ 10 ∷ []

pub line_end : {t : List ℕ} → IsText t → IsLine (t ++ 10 ∷ [])
line_end {t} h = record { text = t; is = h; cut = refl }

pub line_and : {t out : List ℕ} → IsText t → IsLine out → IsLine (t ++ out)
line_and {t} h l = record { text = t ++ l.text; is = and h l.is; cut = ap (λ x. t ++ x) l.cut ∙ sym (append_assoc t l.text (10 ∷ [])) }

pub line_texts : {out : List ℕ} → IsLine out → AreTexts out
line_texts {out} l = record { lines = l.text ∷ []; each = (l.is, tt); cut = l.cut ∙ sym (append-nil (l.text ++ 10 ∷ [])) }

pub indented_texts : (indent : List ℕ) {t : List ℕ} → IsText indent → IsText t → AreTexts (indented indent t)
indented_texts indent h k = line_texts (line_and h (line_end k))

pub error_texts : (indent : List ℕ) (at : ℕ) {t : List ℕ} → IsText indent → IsText t → AreTexts (error_line indent at t)
error_texts indent at h k = indented_texts indent h (and {s = codes "error at "} (text refl) (and (decimal_text at) (and {s = codes ": "} (text refl) k)))

pub either_texts : (b : Bool) {s t : List ℕ} → AreTexts s → AreTexts t → AreTexts (if b then s else t)
either_texts true h k = h
either_texts false h k = k

-- the outputs for several items
pub each_texts : {X : Type 0} (P : X → Type 0) (shows : X → List ℕ → Bool → Type 0) → ((x : X) (out : List ℕ) (well : Bool) → P x → shows x out well → AreTexts out)
    → (xs : List X) (out : List ℕ) (whole : Bool) → AllByRecursion P xs → EachShown shows xs out whole → AreTexts out
each_texts P shows = each_hold P shows (λ out well. AreTexts out) no_texts (λ a b v w h k. and_texts h k)

pub all_texts : {X : Type 0} (shows : X → List ℕ → Bool → Type 0) → ((x : X) (out : List ℕ) (well : Bool) → shows x out well → AreTexts out) → (xs : List X) (out : List ℕ) (whole : Bool) → EachShown shows xs out whole → AreTexts out
all_texts shows one xs out whole s = each_texts (λ x. Unit {0}) shows (λ x out well t h. one x out well h) xs out whole (all_any xs) s

-- ---- attributes

flags_after_text : (flags : ℕ) → IsText (flags_after flags)
flags_after_text flags = either (flags == 0) none (and {s = codes " "} (text refl) (flags_is_text type_flags 2 flags (each_name type_flags refl)))

head_is_text : (label : Option Label) (f : ℕ) → IsLabelText label → IsText (head_text label f)
unfolding head_text
head_is_text None f l = and {s = codes "type "} (text refl) (and (decimal_text (kind_of f)) (flags_after_text (f - kind_of f)))
head_is_text (Some label) f l = l.0

attribute_is_text : (label : Option Label) (f : ℕ) (content : Content) → IsLabelText label → IsText (attribute_text label f content)
unfolding attribute_text
attribute_is_text label f content l = and (head_is_text label f l) (either (has_text content) (and {s = codes " "} (text refl) (value_is_text label content l)) none)

-- the attribute b of a list of this table
pub named_text : (table : Table) (b : NlaBuffer) → has_texts table ≡ true → IsLabelText (label_for table b)
named_text table b h = label_is_text table (kind_of (kind_field_of b)) h

-- ---- lists of addresses

pub ip_is_text : (p : List ℕ) → IsText (ip_text p)
unfolding ip_text
ip_is_text p = either (length p == 4) (ipv4_is_text p) (either (length p == 16) (ip6_is_text p) (hex_bytes p))

address_is_text : (size : ℕ) (x : Item) → AllByRecursion IsText (address_in size x)
address_is_text size x = choose (AllByRecursion IsText) (length (payload_of x.1) == size) (ip_text (payload_of x.1) ∷ []) [] (ip_is_text (payload_of x.1), tt) tt

addresses_are_text : (size : ℕ) (items : List Item) → AllByRecursion IsText (addresses_in size items)
addresses_are_text size [] = tt
addresses_are_text size (x ∷ items) = all_append IsText (address_in size x) (addresses_in size items) (address_is_text size x) (addresses_are_text size items)

addresses_text : (size : ℕ) (list out : List ℕ) → ShowsAddresses size list out → IsText out
addresses_text size list out (items, (fault, walk, is)) = subst IsText (sym is) (list_text_text (codes " ") (addresses_in size items) (text refl) (addresses_are_text size items))

-- ---- the line of an attribute that is no list, and what is below a list

module _ (indent : List ℕ) (spaces : IsText indent) where
  -- nothing more than its text
  alone : (more : List ℕ) → more ≡ [] → IsText more
  alone more e = subst IsText (sym e) none

  pub flat_texts : (label : Option Label) (f : ℕ) (content : Content) (out : List ℕ) → IsLabelText label → ShowsFlat indent label f content out → AreTexts out
  flat_texts label f (contents.Addresses list size) out l (more, (t, addresses, e), is) =
      let address = subst IsText (sym e) (and {s = codes " "} (text refl) (addresses_text size list.now t addresses)) in
      subst AreTexts (sym is) (indented_texts indent spaces (and (attribute_is_text label f (contents.Addresses list size) l) address))
  flat_texts label f content out l (more, e, is) = subst AreTexts (sym is) (indented_texts indent spaces (and (attribute_is_text label f content l) (alone more e)))

  pub verdict_texts : (check : Bool) (base : ℕ) (table : Table) (list out : List ℕ) (well : Bool) → ShowsVerdict check indent base table list out well → AreTexts out
  verdict_texts check base table list out well (Unasked e is w) = subst AreTexts (sym is) no_texts
  verdict_texts check base table list out well (IsCanonical e c is w) = subst AreTexts (sym is) (indented_texts indent {t = codes "canonical"} spaces (text refl))
  verdict_texts check base table list out well (IsNot e at first is w) = subst AreTexts (sym is) (indented_texts indent spaces (and {s = codes "not canonical at "} (text refl) (decimal_text (base + at))))

-- ---- the header of a link

named_or_text : (word : List ℕ) (found : Option (List ℕ)) (n : ℕ) → IsText word → OnText found → IsText (named_or word found n)
named_or_text word None n w h = and w (decimal_text n)
named_or_text word (Some name) n w h = h

pub names_for : (names : List (ℕ × List ℕ)) (word : List ℕ) (n : ℕ) → EachName names → IsText word → IsText (named_or word (Labels.name_in names n) n)
names_for names word n h w = named_or_text word (Labels.name_in names n) n w (name_found names h n)

unless_text : (n : ℕ) (name t : List ℕ) → IsText name → IsText t → IsText (unless_zero n name t)
unless_text n name t h k = either (n == 0) none (and {s = codes " "} (text refl) (field_is_text name h k))

device_text : (bits : ℕ) → IsText (flags_text device_flags 4 bits)
device_text bits = flags_is_text device_flags 4 bits (each_name device_flags refl)

pub parts_text : (h : LinkHeader) → IsText (header_parts h)
parts_text h =
    and (unless_text h.family (codes "family") _ (text refl) (names_for address_families [] h.family (each_name address_families refl) none))
    (and (unless_text h.kind (codes "type") _ (text refl) (names_for device_types [] h.kind (each_name device_types refl) none))
    (and (unless_text h.flags (codes "flags") _ (text refl) (device_text h.flags)) (unless_text h.change (codes "change") _ (text refl) (device_text h.change))))

pub peer_is_text : (header : Option LinkHeader) → IsText (peer_text header)
peer_is_text None = none
peer_is_text (Some h) = and {s = codes " ifindex "} (text refl) (and (signed_text h.index) (parts_text h))
