-- Small tables for worked examples.
use Rattle.std.specs.Prelude.{◌≡◌, ℕ, true, false, List, [], ◌∷◌, ◌++◌, codes, replicate}
use Rattle.link_base.specs.declared.rows.form.Form.{Form}
use Rattle.link_base.specs.declared.rows.label.Quantity.TheVariants as quantities
use Rattle.link_base.specs.Payloads.{u32, flag_or_bool, text, u16s, ipv4, pair, no_value}
use Rattle.link_base.specs.WellFormed.{is_table}
use Rattle.link_base.specs.Table.{Shape, Table, AttrValue, row, row_of, nested_row, address_row, leaf_row, Gives, written_list}
use Rattle.link_base.specs.Wire.{Wire}

-- s decodes to these values, and out is written for them
pub record ReadsAndWrites (table : Table) (s : List ℕ) (vs : List AttrValue) (out : List ℕ) : Type 0 where
  pub read : Wire (Gives table) s vs
  pub written : written_list vs ≡ out

-- attribute type 1: a number of four bytes
abbrev pub numbers : Table
numbers = row 1 "NUMBER" u32 ∷ []

-- attribute type 8: addresses of four bytes
abbrev pub addresses : Table
addresses = address_row 8 "ADDRESSES" 4 ∷ []

-- attribute type 21: no value; attribute type 47: a list that is written with the nested flag
abbrev pub lists : Table
lists = row 21 "EMPTY" no_value ∷ nested_row 47 "LIST" true (leaf_row 1 "OCTETS" ipv4 ∷ []) ∷ []

-- attribute type 3: a list of pairs of numbers
abbrev pub pairs : Table
pairs = nested_row 3 "PAIRS" false (leaf_row 1 "PAIR" pair ∷ []) ∷ []

-- attribute type 5: a flag, which may have a byte; attribute type 6: a text
abbrev pub flags : Table
flags = row 5 "FLAG" flag_or_bool ∷ row 6 "TEXT" text ∷ []

-- the letter a thirteen times, then these bytes
abbrev pub after_letters : List ℕ → List ℕ
after_letters bytes = replicate 13 0x61 ++ bytes

-- attribute type 1, with this form, these names, and payloads of this shape
abbrev pub one_row : Form → List (ℕ × List ℕ) → Shape → Table
one_row form names shape = row_of [] quantities.Number 1 (codes "ROW") form names [] shape ∷ []

-- attribute type 3: a list with an array
abbrev pub arrays : Table
arrays = nested_row 3 "ARRAYS" false (leaf_row 1 "ARRAY" u16s ∷ []) ∷ []

-- attribute type 1, whose name is no text
abbrev pub nameless : Table
nameless = row 1 "\n" u32 ∷ []

-- a table that is not well formed
abbrev pub IsRefused : Table → Type 0
IsRefused table = is_table table ≡ false
