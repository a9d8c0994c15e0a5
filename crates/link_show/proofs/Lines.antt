-- The line of an attribute that is no list, from what was written for its parts.
use Rattle.std.proofs.Common.{ℕ, List, [], ◌∷◌, ◌++◌, Option, Result, Ok, Err, OnOk, refl, codes, Bor}
use Rattle.link_show.specs.Sink.{Output, Gains}
use Rattle.link_show.specs.Gained.{gains_more}
use Rattle.link_base.specs.declared.views.content.Content.{Content}
use Rattle.link_base.specs.declared.views.content.Content.TheVariants as contents
use Rattle.link_base.specs.Table.{Label}
use Rattle.link_show.specs.List.{indented, attribute_text, ShowsAddresses, ShowsMore, ShowsFlat, WritesOut}

-- a line of its own
line_of : (old a b c : Output) (indent text : List ℕ) → Gains old a indent → Gains a b text → Gains b c (10 ∷ []) → Gains old c (indented indent text)
line_of old a b c indent text first second last = gains_more old a c indent (text ++ 10 ∷ []) first (gains_more a b c text (10 ∷ []) second last)

-- addresses after a space
pub more_written : {X E : Type 0} (r : Result X E) (list : Bor (List ℕ)) (size : ℕ) (old m new : Output) → Gains old m (codes " ") → OnOk r (WritesOut (ShowsAddresses size list.now) m new)
    → OnOk r (WritesOut (ShowsMore (contents.Addresses list size)) old new)
more_written (Ok x) list size old m new first (out, shown, second) = (codes " " ++ out, (out, shown, refl), gains_more old m new (codes " ") out first second)
more_written (Err e) list size old m new first second = second

-- an attribute that is no nested list
pub flat_written : {X E : Type 0} (r : Result X E) (indent : List ℕ) (label : Option Label) (f : ℕ) (content : Content) (old m n o new : Output) → Gains old m indent
    → Gains m n (attribute_text label f content) → WritesOut (ShowsMore content) n o → OnOk r (Gains o new (10 ∷ [])) → OnOk r (WritesOut (ShowsFlat indent label f content) old new)
flat_written (Ok x) indent label f content old m n o new first second (more, shown, third) last =
    let text = attribute_text label f content in
    (indented indent (text ++ more), (more, shown, refl), line_of old m o new indent (text ++ more) first (gains_more m n o text more second third) last)
flat_written (Err e) indent label f content old m n o new first second third last = last
