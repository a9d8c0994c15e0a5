-- The names of attribute types: the kernel's constants, without the prefix of their enum, in lower case.
use Rattle.std.specs.Prelude.{ℕ, List, map, take, drop, length, if◌then◌else◌}
use Rattle.std.specs.Str.{bytes_eq}
use Rattle.std.specs.Char.{to_ascii_lowercase}

-- what follows a prefix; the whole text, if it does not begin with that
abbrev pub without : List ℕ → List ℕ → List ℕ
without prefix text = if bytes_eq (take (length prefix) text) prefix then drop (length prefix) text else text

abbrev pub short_name : List ℕ → List ℕ → List ℕ
short_name prefix name = map to_ascii_lowercase (without prefix name)
