-- The values of requests.
use Rattle.std.specs.Prelude.{ℕ, List, [], ◌∷◌, ◌++◌, length, codes}
use Rattle.link_entries.specs.declared.entry.Entry.{Entry}
use Rattle.link_entries.specs.Entry.{blank, padded}
use Rattle.link_entries.specs.Forms.{form_list, form_text, form_held}
use Rattle.link_requests.specs.Value.{inline, of_message}

-- a value at a depth, without content: its attribute type, that of the element or the mark of the message, and its form
abbrev pub empty_value : ℕ → ℕ → ℕ → ℕ → Entry
empty_value depth kind inner form = record (blank kind inner depth 0 0) { form = form }

-- a number; its form is that of its type
abbrev pub number_value : ℕ → ℕ → ℕ → ℕ → Entry
number_value depth kind inner n = record (empty_value depth kind inner 0) { number = n }

-- a text of these bytes
abbrev pub text_value : ℕ → ℕ → ℕ → List ℕ → Entry
text_value depth kind inner text = record (empty_value depth kind inner form_text) { length = length text; offset = inline; octets = padded text }

-- a list of another set, whose values follow
abbrev pub held_value : ℕ → ℕ → ℕ → Entry
held_value depth kind inner = record (empty_value depth kind inner form_held) { offset = inline }

-- IFLA_IFNAME (3) "bond0", and in IFLA_LINKINFO (18) IFLA_INFO_KIND (1) "bond" and IFLA_INFO_DATA (2), in which are
-- IFLA_BOND_MODE (1) 802.3ad (4) and IFLA_BOND_MIIMON (3) of 100 ms
abbrev pub bond_values : List Entry
bond_values =
    text_value 0 3 0 (codes "bond0" ++ 0 ∷ []) ∷
    empty_value 0 18 of_message form_list ∷
    text_value 1 18 1 (codes "bond") ∷
    held_value 1 18 2 ∷
    number_value 2 1 0 4 ∷
    number_value 2 3 0 100 ∷ []
