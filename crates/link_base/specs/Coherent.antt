-- The class of a row goes with its form and its names: a test that each table passes.
use Rattle.std.specs.Prelude.{◌≡◌, ℕ, ◌==◌, ◌&&◌, Bool, true, false, not, List, [], ◌∷◌, if◌then◌else◌}
use Rattle.std.specs.List.{list_all, AllByRecursion}
use Rattle.std.specs.Str.{bytes_eq}
use Rattle.link_base.specs.declared.rows.form.Form.{Form}
use Rattle.link_base.specs.declared.rows.form.Form.TheVariants as forms
use Rattle.link_base.specs.Class.{Extent, Exactly, AtLeast, Fixed, Multiple, AtMost, Class, Unsigned, Signed, Truth, Optional, Octets, Bytes, Headed, Many, Named, Protocol, Low, Empty, Limits}
use Rattle.link_base.specs.Payloads.{class_by}
use Rattle.link_base.specs.Table.{Row, Shape, One, Nested, Addresses}

-- ---- classes as numbers, by which they are compared

abbrev pub extent_code : Extent → List ℕ
extent_code (Exactly n) = 0 ∷ n ∷ []
extent_code (AtLeast n) = 1 ∷ n ∷ []
extent_code (Fixed n) = 2 ∷ n ∷ []
extent_code (Multiple n) = 3 ∷ n ∷ []
extent_code (AtMost n) = 4 ∷ n ∷ []

abbrev pub class_code : Class → List ℕ
class_code (Unsigned n) = 0 ∷ n ∷ []
class_code Signed = 1 ∷ []
class_code Truth = 2 ∷ []
class_code (Octets e) = 3 ∷ extent_code e
class_code Bytes = 4 ∷ []
class_code (Many n) = 5 ∷ n ∷ []
class_code (Named n listed) = 6 ∷ n ∷ listed
class_code Protocol = 7 ∷ []
class_code Low = 8 ∷ []
class_code Empty = 9 ∷ []
class_code Limits = 10 ∷ []
class_code Optional = 11 ∷ []
class_code (Headed n) = 12 ∷ n ∷ []

-- ---- rows

-- the form of a single value, not of a list
abbrev pub is_single : Form → Bool
is_single (forms.Addresses n) = false
is_single (forms.List flagged) = false
is_single form = true

-- an array: its numbers are elements
abbrev pub is_array : Form → Bool
is_array (forms.Numbers a) = true
is_array form = false

-- the class is that of the form
abbrev pub is_class_of : Form → List (ℕ × List ℕ) → Class → Bool
is_class_of form names c = is_single form && bytes_eq (class_code c) (class_code (class_by form names))

-- the class is that of the form, which is no array
abbrev pub is_leaf_of : Form → List (ℕ × List ℕ) → Class → Bool
is_leaf_of form names c = not (is_array form) && is_class_of form names c

abbrev pub same_flag : Bool → Bool → Bool
same_flag a b = if a then b else not b

-- the shape is that of the form; in nested lists there are no lists and no arrays
abbrev pub is_shape_of : Form → List (ℕ × List ℕ) → Shape → Bool
is_shape_of form names (One c) = is_class_of form names c
is_shape_of (forms.List stated) names (Nested flagged rows) = same_flag stated flagged && list_all (λ (r : Row Class). is_leaf_of r.form r.names r.class) rows
is_shape_of (forms.Addresses stated) names (Addresses n) = stated == n
is_shape_of form names shape = false

-- ---- what the test says

abbrev pub IsClassOf : Form → List (ℕ × List ℕ) → Class → Type 0
IsClassOf form names c = (is_single form ≡ true) × (c ≡ class_by form names)

abbrev pub IsLeafOf : Form → List (ℕ × List ℕ) → Class → Type 0
IsLeafOf form names c = (is_array form ≡ false) × IsClassOf form names c

abbrev pub IsShapeOf : Form → List (ℕ × List ℕ) → Shape → Type 0
IsShapeOf form names (One c) = IsClassOf form names c
IsShapeOf (forms.List stated) names (Nested flagged rows) = (stated ≡ flagged) × AllByRecursion (λ (r : Row Class). IsLeafOf r.form r.names r.class) rows
IsShapeOf (forms.Addresses stated) names (Addresses n) = stated ≡ n
IsShapeOf form names shape = ⊥
