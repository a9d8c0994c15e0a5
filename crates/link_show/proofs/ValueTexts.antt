-- The texts of attributes.
use Rattle.std.proofs.Common.{◌≡◌, ℕ, List, Option, Some, None, Result, Ok, Err, OnOk, ◌++◌, ◌∙◌, true, codes, ap, subst}
use Rattle.std.proofs.lemmas.Bool.{cond-true}
use Rattle.link_show.specs.Sink.{Output, Gains}
use Rattle.link_base.specs.declared.views.content.Content.{Content}
use Rattle.link_base.specs.declared.wire.buffer.NlaBuffer.{NlaBuffer}
use Rattle.link_base.specs.Buffer.{kind_field_of}
use Rattle.link_base.specs.Frame.{kind_of}
use Rattle.link_base.specs.Table.{Label, Table, class_at, form_at, label_at}
use Rattle.link_base.specs.Borrowed.{Borrows, form_of, HasContent}
use Rattle.link_show.specs.List.{has_text, head_text, attribute_text, label_for, WritesAttribute}
use Rattle.link_show.specs.Value.{content_text, value_text, WritesValue}

-- the text of a content was written, which is that of an attribute
pub value_written : {X E : Type 0} (r : Result X E) (table : Table) (f : ℕ) (p : List ℕ) (old new : Output) (label : Label) (content : Content)
    → Borrows (class_at table (kind_of f)) p content → form_of content ≡ form_at table (kind_of f) → Some label ≡ label_at table (kind_of f)
    → OnOk r (Gains old new (content_text label content)) → OnOk r (WritesValue table f p old new)
value_written (Ok x) table f p old new label content b form e a = (content, b, form, subst (λ l. Gains old new (value_text l content)) e a)
value_written (Err x) table f p old new label content b form e a = a

-- the text of an attribute without a label was written
pub value_unlabelled : {X E : Type 0} (r : Result X E) (table : Table) (f : ℕ) (p : List ℕ) (old new : Output) (content : Content) → Borrows (class_at table (kind_of f)) p content
    → form_of content ≡ form_at table (kind_of f) → None ≡ label_at table (kind_of f) → OnOk r (Gains old new (value_text None content)) → OnOk r (WritesValue table f p old new)
value_unlabelled (Ok x) table f p old new content b form e a = (content, b, form, subst (λ l. Gains old new (value_text l content)) e a)
value_unlabelled (Err x) table f p old new content b form e a = a

-- an attribute with a text in one line: its name, and its content
pub named_text : (label found : Option Label) (f : ℕ) (content : Content) → has_text content ≡ true → label ≡ found → attribute_text label f content ≡ head_text label f ++ (codes " " ++ value_text found content)
unfolding attribute_text
named_text label found f content some e = ap (λ t. head_text label f ++ t) (cond-true _ _ _ some ∙ ap (λ l. codes " " ++ value_text l content) e)

-- an attribute in one line was written
pub attribute_written : {X E : Type 0} (r : Result X E) (table : Table) (b shown : NlaBuffer) (label : Option Label) (content : Content) (old new : Output) → HasContent table b content
    → label ≡ label_for table b → shown ≡ b → OnOk r (Gains old new (attribute_text label (kind_field_of shown) content)) → OnOk r (WritesAttribute table b old new)
attribute_written (Ok x) table b shown label content old new h e k a =
    (content, h, subst (λ l. Gains old new (attribute_text l (kind_field_of b) content)) e (subst (λ c. Gains old new (attribute_text label (kind_field_of c) content)) k a))
attribute_written (Err x) table b shown label content old new h e k a = a
