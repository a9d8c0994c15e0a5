-- The lines of lists whose attributes hold lists of other sets, from what was written for their parts.
use Rattle.std.proofs.Common.{◌≡◌, ℕ, ◌+◌, ◌*◌, Bool, true, false, ◌&&◌, List, [], ◌++◌, length, replicate, Option, Some, None, refl, sym, ap, subst, ◌∙◌, eqb-true, append_assoc}
use Rattle.std.specs.Prelude.{IsTrue, ◌==◌}
use Rattle.std.proofs.lemmas.Bool.{and_parts}
use Rattle.std.proofs.lemmas.List.{replicate-append-replicate}
use Rattle.link_base.specs.declared.wire.buffer.NlaBuffer.{NlaBuffer}
use Rattle.link_base.specs.Frame.{kind_of}
use Rattle.link_base.specs.Buffer.{kind_field_of, payload_of}
use Rattle.netlink_packet_route.specs.declared.family.Family.{Family}
use Rattle.netlink_packet_route.specs.declared.family.Family.TheVariants.{Link}
use Rattle.netlink_packet_route.specs.declared.opening.Context.{Context}
use Rattle.netlink_packet_route.specs.Family.{table_of}
use Rattle.link_messages.specs.Finding.{Stretch}
use Rattle.link_messages.specs.Held.{levels}
use Rattle.link_messages.specs.Shown.{Nest}
use Rattle.link_show.specs.declared.line_options.LineOptions.{LineOptions}
use Rattle.link_show.specs.Sink.{Output, Gains}
use Rattle.link_show.specs.Gained.{gains_more, gains_nothing}
use Rattle.link_show.specs.List.{indented, Writes, ShowsVerdict, Unasked}
use Rattle.link_show.specs.Held.{is_state, title_text, indent_in, ShowsJudgement, ShowsAround, ShowsSet, ShowsChecked}
use Rattle.link_show.proofs.Listing.{and_true}

-- an STP state has one byte
pub state_long : (context : Context) (family : Family) (list : Option ℕ) (b : NlaBuffer) (state : Bool) → state ≡ is_state context family list b → IsTrue state → length (payload_of b) ≡ 1
state_long context Link None b state e h =
    let parts = and_parts (context.address_family == 7) (kind_of (kind_field_of b) == 12 && length (payload_of b) == 1) (sym e ∙ h) in
    eqb-true (length (payload_of b)) 1 (and_parts (kind_of (kind_field_of b) == 12) (length (payload_of b) == 1) parts.1).1
state_long context family list b state e h = absurd cc

-- the indent in so many lists
pub indent_more : (text : List ℕ) (spaces level : ℕ) → text ++ replicate (spaces + 2 * level) 32 ≡ indent_in (text ++ replicate spaces 32) level
indent_more text spaces level =
    ap (λ z. text ++ z) (sym (replicate-append-replicate spaces (2 * level) 32)) ∙ sym (append_assoc text (replicate spaces 32) (replicate (2 * level) 32))

-- ---- whether a list is canonical

-- nobody asked
pub unasked : (check : Bool) (indent : List ℕ) (set : Option Family) (list : Stretch) → check ≡ false → ShowsJudgement check indent set list [] true
unasked check indent None list e = (refl, refl)
unasked check indent (Some set) list e = Unasked e refl refl

-- ---- an attribute that holds a list

module _ (o : LineOptions) (indent : List ℕ) (level : ℕ) (h : Nest) (inner : List ℕ) (whole : Bool) (old mid : Output) (begun : Gains old mid (indented (indent_in indent level) (title_text h))) where
  -- whether it is canonical follows the lines of the list
  pub around_judged : (end new : Output) (verdict : List ℕ) (canonical : Bool) → ShowsJudgement o.check (indent_in indent (level + 1)) h.set h.list verdict canonical → Gains mid end inner → Gains end new verdict
      → Writes (ShowsAround o indent level h inner whole) old new (whole && canonical)
  around_judged end new verdict canonical judged lines written =
      let title = indented (indent_in indent level) (title_text h) in
      (title ++ (inner ++ verdict), (verdict, canonical, judged, refl, refl), gains_more old mid new title (inner ++ verdict) begun (gains_more mid end new inner verdict lines written))

  -- nothing does
  pub around_plain : (new : Output) → ShowsJudgement o.check (indent_in indent (level + 1)) h.set h.list [] true → Gains mid new inner → Writes (ShowsAround o indent level h inner whole) old new whole
  around_plain new judged lines = rw and_true at (around_judged new new [] true judged lines (gains_nothing new))

-- a list that is checked
pub judged : (o : LineOptions) (context : Context) (spaces indent : List ℕ) (base : ℕ) (family : Family) (list : List ℕ) (old mid new : Output) (whole canonical : Bool) → spaces ≡ indent
    → Writes (ShowsSet o levels context spaces base family list) old mid whole → Writes (ShowsVerdict o.check indent base (table_of family) list) mid new canonical
    → Writes (ShowsChecked o context indent base family list) old new (whole && canonical)
judged o context spaces indent base family list old mid new whole canonical same (lines, shown, first) (verdict, of, second) =
    (lines ++ verdict, (lines, whole, subst (λ i. ShowsSet o levels context i base family list lines whole) same shown, verdict, canonical, of, refl, refl), gains_more old mid new lines verdict first second)
