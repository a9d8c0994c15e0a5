-- Parts of JSON documents, and their tokens.
use Rattle.std.specs.Prelude.{ℕ, ℤ, pos, negsuc, ◌%◌, ◌^◌, List, [], ◌∷◌, ◌++◌, Option, Some, None, codes}
use Rattle.std.specs.Fmt.{decimal, signed_decimal}
use Rattle.json.specs.Token.{Token, key}
use Rattle.json.specs.Json.{Json, null, number, string, array, object, Items, no_items, item, Members, no_members, member}
use Rattle.json.specs.Tree.{json_tokens}

-- a member of an object: its key, and its value
abbrev pub Field : Type 0
Field = List ℕ × Json

abbrev pub members_of : List Field → Members
members_of [] = no_members
members_of (x ∷ fields) = member x.0 x.1 (members_of fields)

abbrev pub items_of : List Json → Items
items_of [] = no_items
items_of (j ∷ js) = item j (items_of js)

-- an object with these members, and an array of these values
abbrev pub object_of : List Field → Json
object_of fields = object (members_of fields)

abbrev pub array_of : List Json → Json
array_of js = array (items_of js)

-- the tokens of members, and of values
abbrev pub fields_tokens : List Field → List Token
fields_tokens [] = []
fields_tokens (x ∷ fields) = key x.0 ∷ (json_tokens x.1 ++ fields_tokens fields)

abbrev pub each_tokens : List Json → List Token
each_tokens [] = []
each_tokens (j ∷ js) = json_tokens j ++ each_tokens js

-- a number, by its low 64 bits: in the logic, numbers have no limit
abbrev pub eight_bytes : ℕ → ℕ
eight_bytes n = n % 2 ^ 64

-- one with a sign, by its low 32 bits
abbrev pub four_signed : ℤ → ℤ
four_signed (pos n) = pos (n % 2 ^ 31)
four_signed (negsuc n) = negsuc (n % 2 ^ 31)

abbrev pub number_json : ℕ → Json
number_json n = number (decimal (eight_bytes n))

abbrev pub signed_json : ℤ → Json
signed_json z = number (signed_decimal (four_signed z))

-- a name, or null
abbrev pub name_json : Option (List ℕ) → Json
name_json None = null
name_json (Some name) = string name

-- a number with its name
abbrev pub named_json : ℕ → Option (List ℕ) → Json
named_json n name = object_of ((codes "number", number_json n) ∷ (codes "name", name_json name) ∷ [])

-- an element of a list of attributes: a name, a value, and more members
abbrev pub element_json : Json → Json → List Field → Json
element_json name value more = object_of ((codes "name", name) ∷ (codes "value", value) ∷ more)

-- an error at an offset, if there is one
abbrev pub at_json : Option ℕ → Json
at_json None = null
at_json (Some at) = number_json at

abbrev pub error_json : Option ℕ → List ℕ → Json
error_json at text = object_of ((codes "at", at_json at) ∷ (codes "text", string text) ∷ [])
