-- The lines of lists are printable.
use Rattle.std.proofs.Common.{◌≡◌, ℕ, zero, suc, ◌+◌, ◌*◌, Bool, true, false, List, [], ◌∷◌, replicate, Option, Some, None, refl, sym, subst, codes}
use Rattle.std.specs.List.{list_all}
use Rattle.link_base.specs.declared.wire.buffer.NlaBuffer.{NlaBuffer}
use Rattle.link_base.specs.declared.views.content.Content.{Content}
use Rattle.link_base.specs.declared.views.content.Content.TheVariants as contents
use Rattle.link_base.specs.Buffer.{kind_field_of}
use Rattle.link_base.specs.Table.{Label}
use Rattle.link_base.specs.Borrowed.{elements_at}
use Rattle.link_base.specs.WellFormed.{is_printable}
use Rattle.netlink_packet_route.specs.declared.family.Family.{Family}
use Rattle.netlink_packet_route.specs.declared.family.Family.TheVariants as families
use Rattle.netlink_packet_route.specs.declared.opening.Context.{Context}
use Rattle.netlink_packet_route.specs.Family.{family_name, table_of}
use Rattle.netlink_packet_route.proofs.Families.{each_family, families_formed}
use Rattle.link_messages.specs.Finding.{Stretch}
use Rattle.link_messages.specs.Held.{levels}
use Rattle.link_messages.specs.Shown.{Nest, nest_at, rows_in}
use Rattle.link_messages.proofs.Holds.{shows_hold}
use Rattle.link_show.specs.declared.line_options.LineOptions.{LineOptions}
use Rattle.link_show.specs.List.{label_for}
use Rattle.link_show.specs.Held.{state_names, is_state, shows_leaf, is_selected, set_text, nest_text, empty_mark, title_text, indent_in, ShowsJudgement, ShowsAround, line_display, LineShower, ShowsSet, ShowsChecked}
use Rattle.link_show.specs.Printable.{IsText, AreTexts, has_texts}
use Rattle.link_show.proofs.Printing.{text, none, one, and, either}
use Rattle.link_show.proofs.ValuePrinting.{EachName, IsLabelText, label_is_text, enum_is_text, field_is_text, formed_texts, elements_text, fault_is_text}
use Rattle.link_show.proofs.LinePrinting.{no_texts, and_texts, indented_texts, error_texts, named_text, flat_texts, verdict_texts, peer_is_text}

pub family_is_text : (family : Family) → IsText (family_name family)
family_is_text family = text (each_family (λ family. list_all is_printable (family_name family)) refl family)

pub family_has_texts : (family : Family) → has_texts (table_of family) ≡ true
family_has_texts family = formed_texts (table_of family) (families_formed family)

-- what is known of an attribute of a set, or of its nested lists
pub rows_text : (family : Family) (k : Option ℕ) (b : NlaBuffer) → IsLabelText (label_for (rows_in family k) b)
rows_text family None b = named_text (table_of family) b (family_has_texts family)
rows_text family (Some k) b = named_text (elements_at (table_of family) k) b (elements_text (table_of family) k (family_has_texts family))

spaces_text : (n : ℕ) → IsText (replicate n 32)
spaces_text zero = none
spaces_text (suc n) = one refl (spaces_text n)

further : (indent : List ℕ) (level : ℕ) → IsText indent → IsText (indent_in indent level)
further indent level h = and h (spaces_text (2 * level))

-- ---- titles

set_is_text : (family : Family) (set : Option Family) → IsText (set_text family set)
set_is_text family None = none
set_is_text family (Some set) = either (is_selected family set) (and {s = codes " ("} (text refl) (and (family_is_text set) (text refl))) none

mark_is_text : (list : List ℕ) → IsText (empty_mark list)
mark_is_text [] = text refl
mark_is_text (b ∷ list) = none

nest_is_text : (label : Option Label) → IsLabelText label → IsText (nest_text label)
nest_is_text None l = text refl
nest_is_text (Some label) l = l.0

title_is_text : (h : Nest) → IsLabelText h.label → IsText (title_text h)
title_is_text h l = and (nest_is_text h.label l) (and (set_is_text h.family h.set) (and (peer_is_text h.header) (mark_is_text h.list.1)))

-- ---- attributes

state_texts : EachName state_names
unfolding state_names
state_texts = (label_is_text (table_of families.BridgePort) 1 (family_has_texts families.BridgePort)).1.0

leaf_texts : (state : Bool) (indent : List ℕ) (label : Option Label) (b : NlaBuffer) (content : Content) (out : List ℕ) → IsText indent → IsLabelText label → shows_leaf state indent label b content out → AreTexts out
leaf_texts true indent label b content out spaces l is = subst AreTexts (sym is) (indented_texts indent spaces (field_is_text (codes "IFLA_PROTINFO") (text refl) (enum_is_text state_names _ state_texts)))
leaf_texts false indent label b content out spaces l shown = flat_texts indent spaces label (kind_field_of b) content out l shown

judgement_texts : (check : Bool) (indent : List ℕ) (set : Option Family) (list : Stretch) (out : List ℕ) (well : Bool) → IsText indent → ShowsJudgement check indent set list out well → AreTexts out
judgement_texts check indent None list out well spaces (is, e) = subst AreTexts (sym is) no_texts
judgement_texts check indent (Some set) list out well spaces s = verdict_texts indent spaces check list.0 (table_of set) list.1 out well s

around_texts : (o : LineOptions) (indent : List ℕ) (level : ℕ) (h : Nest) (inner : List ℕ) (whole : Bool) (out : List ℕ) (well : Bool) → IsText indent → IsLabelText h.label → AreTexts inner
    → ShowsAround o indent level h inner whole out well → AreTexts out
around_texts o indent level h inner whole out well spaces l lines (verdict, sound, judged, joined, all) =
    let reported = judgement_texts o.check (indent_in indent (level + 1)) h.set h.list verdict sound (further indent (level + 1) spaces) judged in
    subst AreTexts (sym joined) (and_texts (indented_texts (indent_in indent level) (further indent level spaces) (title_is_text h l)) (and_texts lines reported))

-- ---- lists

-- what is shown for lists is texts
abbrev pub AreShown : LineShower → Type 0
AreShown shows = (context : Context) (indent : List ℕ) (base : ℕ) (family : Family) (list out : List ℕ) (well : Bool) → IsText indent → shows context indent base family list out well → AreTexts out

pub set_texts : (o : LineOptions) (n : ℕ) → AreShown (ShowsSet o n)
set_texts o n context indent base family list out well spaces s =
    shows_hold (line_display o indent) (λ k m out. AreTexts out) (λ k m. no_texts) (λ k m s t. and_texts)
    (λ m level family at fault. error_texts (indent_in indent level) at (further indent level spaces) (fault_is_text (table_of family) fault (family_has_texts family)))
    (λ m context level family k b content out has shown. leaf_texts (is_state context family k b) (indent_in indent level) (label_for (rows_in family k) b) b content out (further indent level spaces) (rows_text family k b) shown)
    (λ m level at family k set b content inner whole out well may lines around. around_texts o indent level (nest_at family k (Some set) at b content) inner whole out well spaces (rows_text family k b) lines around)
    (λ m level at family k b list flagged inner whole out well lines around. around_texts o indent level (nest_at family None None at b (contents.List list flagged)) inner whole out well spaces (rows_text family None b) lines around)
    n context 0 family (base, list) out well s

-- ---- a list that is checked

pub checked_texts : (o : LineOptions) → AreShown (ShowsChecked o)
checked_texts o context indent base family list out well spaces (lines, whole, shown, verdict, sound, judged, joined, all) =
    subst AreTexts (sym joined)
    (and_texts (set_texts o levels context indent base family list lines whole spaces shown) (verdict_texts indent spaces o.check base (table_of family) list verdict sound judged))
