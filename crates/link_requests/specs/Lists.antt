-- The lists of which Linux takes one of a message, and ignores others.
use Rattle.std.specs.Prelude.{ℕ, suc, ◌==◌, ◌&&◌, ◌||◌, Bool, List, [], ◌∷◌, ◌++◌, if◌then◌else◌}
use Rattle.std.specs.List.{list_any}
use Rattle.link_entries.specs.declared.entry.Entry.{Entry}

-- IFLA_PROTINFO (12), IFLA_LINKINFO (18), IFLA_AF_SPEC (26)
abbrev pub is_single : ℕ → Bool
is_single k = (k == 12) || ((k == 18) || (k == 26))

-- whether an attribute of the message among these values has this type
abbrev pub is_among : List Entry → ℕ → Bool
is_among seen k = list_any (λ e. (e.depth == 0) && (e.kind == k)) seen

-- whether a value is a second list of its type, after these
abbrev pub is_repeated : List Entry → Entry → Bool
is_repeated seen e = (e.depth == 0) && (is_single e.kind && is_among seen e.kind)

-- how many values there are before the first such one; all if there is none
abbrev pub unrepeated : List Entry → List Entry → ℕ
unrepeated seen [] = 0
unrepeated seen (e ∷ es) = if is_repeated seen e then 0 else suc (unrepeated (seen ++ e ∷ []) es)
