-- What is on the lines of the output, in the plain form: lines of the input, and printable ASCII.
use Rattle.std.proofs.Common.{◌≡◌, ◌⊎◌, ℕ, suc, ◌<◌, ◌==◌, slice_index, Bool, true, false, ◌&&◌, ◌||◌, List, [], ◌∷◌, ◌++◌, map, if◌then◌else◌, Result, Ok, Err, refl, sym, ap₂, subst, ◌∙◌, inl, inr, ⊎_elim, codes}
use Rattle.std.specs.Io.BufRead.{strip_last}
use Rattle.std.specs.List.{flat_map, list_all, AllZip}
use Rattle.std.proofs.lemmas.Bool.{and_parts}
use Rattle.std.proofs.lemmas.List.{append-nil}
use Rattle.std.proofs.lemmas.Grind.{flat_map-append}
use Rattle.hex.specs.Hex.{decode_of}
use Rattle.hex.specs.declared.error.FromHexError.{FromHexError}
use Rattle.hex.proofs.HexLemmas.{decode_of-ok}
use Rattle.link_base.specs.WellFormed.{is_printable}
use Rattle.netlink_packet_route.specs.Family.{table_of}
use Rattle.netlink_packet_route.specs.HexText.{digits_of}
use Rattle.netlink_packet_route.specs.Number.{IsBytes}
use Rattle.netlink_packet_route.specs.Report.{line}
use Rattle.link_show.specs.declared.line_options.LineOptions.{LineOptions}
use Rattle.link_messages.specs.Held.{context_of}
use Rattle.link_show.specs.Printable.{IsText, AreTexts}
use Rattle.link_show.specs.Quoted.{quoted}
use Rattle.link_show.proofs.Printing.{text as is_text, none, and, decimal_text, quoted_text}
use Rattle.link_show.proofs.LinePrinting.{line_end, line_texts, verdict_texts}
use Rattle.link_show.proofs.HeldPrinting.{checked_texts}
use Rattle.link_show.proofs.MessagePrinting.{messages_texts}
use Rattle.show_lines.specs.declared.asking.Asked.{Asked}
use Rattle.show_lines.specs.declared.asking.Asked.TheVariants.{Messages, Attributes, Verdict}
use Rattle.show_lines.specs.declared.arguments.Options.{Options}
use Rattle.show_lines.specs.declared.arguments.Format.TheVariants.{Plain}
use Rattle.show_lines.specs.Digits.{bad_column, bad_hex, without_marks}
use Rattle.show_lines.specs.Show.{ShowsPlain, ShowsAs, ShowsDigits, TooLong, PassedOver, Known, Unknown, refused_by_options, answered_by_options, by_options, is_repeated, repeated, numbered, ShowsAll}
use Rattle.show_lines.specs.Printed.{IsTabbed, AreLinesFrom, IsOneOf, Repeats}
use Rattle.show_lines.proofs.Cuts.{all_append, all_each}

-- ---- a line that is repeated

tabbed : (text : List ℕ) → list_all is_printable text ≡ true → list_all is_repeated text ≡ true
tabbed [] h = refl
tabbed (b ∷ text) h =
    let parts = and_parts (is_printable b) (list_all is_printable text) h in ap₂ (λ p r. (p || (b == 9)) && r) parts.0 (tabbed text parts.1)

either_tabbed : (b : Bool) (text : List ℕ) (other : List ℕ) → list_all is_repeated text ≡ b → IsText other → IsTabbed (if b then text else other)
either_tabbed true text other h k = record { printable = h }
either_tabbed false text other h k = record { printable = tabbed other k.printable }

repeated_tabbed : (text : List ℕ) → IsTabbed (repeated text)
repeated_tabbed text = either_tabbed (list_all is_repeated (strip_last 13 text)) (strip_last 13 text) (quoted text) refl (quoted_text text)

-- ---- lines from somewhere

module _ (from : List ℕ → Type 0) where
  abbrev IsFrom : List ℕ → Type 0
  IsFrom l = IsText l ⊎ (IsTabbed l × from l)

  made_none : AreLinesFrom from []
  made_none = record { lines = []; each = tt; cut = refl }

  made_and : (s t : List ℕ) → AreLinesFrom from s → AreLinesFrom from t → AreLinesFrom from (s ++ t)
  made_and s t h k = record {
    lines = h.lines ++ k.lines;
    each = all_append IsFrom h.lines k.lines h.each k.each;
    cut = ap₂ (λ a b. a ++ b) h.cut k.cut ∙ sym (flat_map-append line h.lines k.lines);
  }

  made_texts : (out : List ℕ) → AreTexts out → AreLinesFrom from out
  made_texts out h = record { lines = h.lines; each = all_each IsText IsFrom (λ l t. inl t) h.lines h.each; cut = h.cut }

  made_line : (l : List ℕ) → IsTabbed l → from l → AreLinesFrom from (line l)
  made_line l t h = record { lines = l ∷ []; each = (inr (t, h), tt); cut = sym (append-nil (line l)) }

  made_wider : (to : List ℕ → Type 0) (out : List ℕ) → ((l : List ℕ) → from l → to l) → AreLinesFrom from out → AreLinesFrom to out
  made_wider to out f h = record { lines = h.lines; each = all_each IsFrom (λ l. IsText l ⊎ (IsTabbed l × to l)) (λ l. ⊎_elim (λ t. inl t) (λ m. inr (m.0, f l m.1))) h.lines h.each; cut = h.cut }

-- ---- what follows a line

index_bytes : (bytes : List ℕ) → ((i : ℕ) → slice_index bytes i < 256) → IsBytes bytes
index_bytes [] h = tt
index_bytes (b ∷ bytes) h = (h 0, index_bytes bytes (λ i. h (suc i)))

asked_texts : (lines : LineOptions) (asked : Asked) (s out : List ℕ) (well : Bool) → IsBytes s → ShowsPlain lines asked s out well → AreTexts out
asked_texts lines Messages s out well h shown = messages_texts lines s out well h shown
asked_texts lines (Attributes family) s out well h shown = checked_texts lines (context_of 0) (codes "  ") 0 family s out well (is_text refl) shown
asked_texts lines (Verdict family) s out well h shown = verdict_texts [] none true 0 (table_of family) s out well shown

-- ---- a line, and all lines

module _ (options : Options) (plain : options.format ≡ Plain) where
  below_made : (text below : List ℕ) → AreTexts below → AreLinesFrom (λ l. l ≡ repeated text) (line (repeated text) ++ below)
  below_made text below h =
      let from : List ℕ → Type 0 = λ l. l ≡ repeated text in made_and from (line (repeated text)) below (made_line from (repeated text) (repeated_tabbed text) refl) (made_texts from below h)

  digits_made : (x : ℕ × List ℕ) (asked : Asked) (column : ℕ) (digits : List ℕ) (r : Result (List ℕ) FromHexError) (out : List ℕ) (well : Bool) → decode_of digits ≡ r
      → ShowsDigits (refused_by_options options) (answered_by_options options) x asked column r out well → AreLinesFrom (λ l. l ≡ repeated x.1) out
  digits_made x asked column digits (Ok s) out well e (below, shown, is) =
      let now = subst (λ format. ShowsAs format options.lines asked s below well) plain shown in
      rw is (below_made x.1 below (asked_texts options.lines asked s below well (index_bytes s (decode_of-ok digits s e).3) now))
  digits_made x asked column digits (Err error) out well e (is, bad) = rw is (below_made x.1 (line (bad_hex column)) (line_texts (line_end {t = bad_hex column} (and {s = codes "bad hex at column "} (is_text refl) (decimal_text column)))))

  line_made : (x : ℕ × List ℕ) (out : List ℕ) (well : Bool) → by_options options x out well → AreLinesFrom (λ l. l ≡ repeated x.1) out
  line_made x out well (TooLong long is bad) = rw is (made_texts (λ l. l ≡ repeated x.1) (line (codes "input too long")) (line_texts (line_end {t = codes "input too long"} (is_text refl))))
  line_made x out well (PassedOver short over is good) = rw is (made_none (λ l. l ≡ repeated x.1))
  line_made x out well (Known short over asked rest asks shown) = digits_made x asked (bad_column x.1 rest) (digits_of (without_marks rest)) (decode_of (digits_of (without_marks rest))) out well refl shown
  line_made x out well (Unknown short over nothing is bad) = rw is (below_made x.1 (line (codes "no such family")) (line_texts (line_end {t = codes "no such family"} (is_text refl))))

  answers_made : (n : ℕ) (lines : List (List ℕ)) (answers : List (List ℕ × Bool)) → AllZip (λ x a. by_options options x a.0 a.1) (numbered n lines) answers → AreLinesFrom (IsOneOf (map repeated lines)) (flat_map (λ a. a.0) answers)
  answers_made n [] [] h = made_none (IsOneOf [])
  answers_made n [] (a ∷ answers) h = absurd h
  answers_made n (x ∷ xs) [] h = absurd h
  answers_made n (x ∷ xs) (a ∷ answers) h =
      let all = IsOneOf (map repeated (x ∷ xs)) in
      made_and all a.0 (flat_map (λ b. b.0) answers) (made_wider (λ l. l ≡ repeated x) all a.0 (λ l e. inl e) (line_made (n, x) a.0 a.1 h.0))
      (made_wider (IsOneOf (map repeated xs)) all (flat_map (λ b. b.0) answers) (λ l e. inr e) (answers_made (suc n) xs answers h.1))

-- the output for all lines
pub all_repeats : (options : Options) (text out : List ℕ) (whole : Bool) → options.format ≡ Plain → ShowsAll (by_options options) text out whole → Repeats text out
all_repeats options text out whole plain s = record {
  input = s.lines;
  cut = s.cut;
  made = subst (AreLinesFrom (IsOneOf (map repeated s.lines))) (sym s.shown.joined) (answers_made options plain 1 s.lines s.shown.answers s.shown.each);
}
