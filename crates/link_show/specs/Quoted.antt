-- Bytes between quotes.
use Rattle.std.specs.Prelude.{ℕ, ◌==◌, List, [], ◌∷◌, ◌++◌, if◌then◌else◌}
use Rattle.std.specs.List.{flat_map}
use Rattle.link_base.specs.WellFormed.{is_printable}
use Rattle.link_show.specs.Octets.{byte_text}

-- a byte between quotes: `"` and `\` after a backslash, other printable characters as they are, and the rest as \xNN
abbrev pub quoted_byte : ℕ → List ℕ
quoted_byte b =
    if b == 34 then 92 ∷ 34 ∷ []
    else (if b == 92 then 92 ∷ 92 ∷ []
    else (if is_printable b then b ∷ []
    else 92 ∷ 120 ∷ byte_text b))

-- bytes between quotes
abbrev pub quoted : List ℕ → List ℕ
quoted bytes = 34 ∷ (flat_map quoted_byte bytes ++ 34 ∷ [])
