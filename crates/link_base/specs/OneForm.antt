-- A value and its normal form (`canon`) are written in the same way.
use Rattle.std.specs.Prelude.{◌≡◌, ◌+◌, List, [], ◌∷◌, ◌++◌, map, refl}
use Rattle.std.proofs.Common.{ap, ap₂}
use Rattle.std.proofs.lemmas.Bool.{cond_both}
use Rattle.link_base.specs.Number.{bytes_of}
use Rattle.link_base.specs.Frame.{frame_bytes}
use Rattle.link_base.specs.Class
use Rattle.link_base.specs.Class.{Value, Name, Unlisted, is_listed, written}
use Rattle.link_base.specs.Wire.{whole}
use Rattle.link_base.specs.Table.{Leaf, Case, Other, leaf_field, leaf_payload, leaf_canon, written_leaves, Content, Single, Inner, Listed, content_flag, content_payload, content_canon, AttrValue, written_kind, written_payload, canon}

-- one payload
pub value_form : (v : Value) → written (Class.canon v) ≡ written v
value_form (Unlisted n listed d) = cond_both (is_listed listed d) (Name n d) (Unlisted n listed d) (λ v. written v ≡ bytes_of n d) (λ e. refl) (λ e. refl)
value_form v = refl

-- an element of a nested list
pub leaf_form : (v : Leaf) → (leaf_field (leaf_canon v) ≡ leaf_field v) × (leaf_payload (leaf_canon v) ≡ leaf_payload v)
leaf_form (Case k v) = (refl, value_form v)
leaf_form (Other f p) = (refl, refl)

leaves_form : (vs : List Leaf) → written_leaves (map leaf_canon vs) ≡ written_leaves vs
leaves_form [] = refl
leaves_form (v ∷ vs) = let one = leaf_form v in ap₂ (λ x t. frame_bytes x ++ t) (ap₂ whole one.0 one.1) (leaves_form vs)

content_form : (c : Content) → (content_flag (content_canon c) ≡ content_flag c) × (content_payload (content_canon c) ≡ content_payload c)
content_form (Single v) = (refl, value_form v)
content_form (Inner flagged vs) = (refl, leaves_form vs)
content_form (Listed octets) = (refl, refl)

-- an attribute
pub attr_form : (v : AttrValue) → (written_kind (canon v) ≡ written_kind v) × (written_payload (canon v) ≡ written_payload v)
attr_form (Case k c) = let one = content_form c in (ap (λ n. k + n) one.0, one.1)
attr_form (Other f p) = (refl, refl)
