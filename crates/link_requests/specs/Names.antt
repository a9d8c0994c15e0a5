-- Names and kinds of links that Linux takes.
use Rattle.std.specs.Prelude.{ℕ, ◌==◌, ◌&&◌, ◌||◌, Bool, not, List, length, nat_le, nat_lt, codes, bytes_eq}
use Rattle.std.specs.List.{list_all}

-- whether a text fits, with a NUL, in a buffer of n bytes, and is not empty
abbrev pub has_length : List ℕ → ℕ → Bool
has_length s n = nat_lt 0 (length s) && nat_lt (length s) n

-- a byte of a name: no NUL, no space of the kernel (`isspace`), no slash, no colon
abbrev pub is_in_name : ℕ → Bool
is_in_name b = not ((b == 0) || ((nat_le 9 b && nat_le b 13) || ((b == 0x20) || ((b == 0x2F) || ((b == 0x3A) || (b == 0xA0))))))

-- a name of a link (`dev_valid_name`, `net/core/dev.c`)
abbrev pub is_name : List ℕ → Bool
is_name s = has_length s 16 && (not (bytes_eq s (codes ".")) && (not (bytes_eq s (codes "..")) && list_all is_in_name s))

-- a byte of a kind: no NUL
abbrev pub is_in_kind : ℕ → Bool
is_in_kind b = not (b == 0)

-- a kind of a link, which the kernel copies to a buffer of 56 bytes
abbrev pub is_kind : List ℕ → Bool
is_kind s = has_length s 56 && list_all is_in_kind s
