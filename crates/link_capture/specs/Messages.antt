-- How a stream of netlink messages begins: with the `nlmsg_len` and the `nlmsg_type` of a message.
use Rattle.std.specs.Prelude.{ℕ, ◌+◌, ◌^◌, Bool, ◌&&◌, ◌||◌, List, length, nat_le, nat_lt}
use Rattle.link_capture.specs.Order.{number_at}
use Rattle.link_capture.specs.declared.order.Order.TheVariants.{Little}

-- the length of a message with which a stream begins
abbrev pub is_length : ℕ → Bool
is_length n = nat_le 16 n && nat_le n 65_536

-- a type from NLMSG_NOOP to NLMSG_OVERRUN, that of the times which `rtmon` records, or one from RTM_BASE to RTM_MAX
abbrev pub is_type : ℕ → Bool
is_type n = (nat_le 1 n && nat_le n 4) || (nat_le 15 n && nat_le n 123)

-- s starts with the length and the type of a message
abbrev pub is_stream : List ℕ → Bool
is_stream s = nat_le 6 (length s) && (is_length (number_at Little 4 0 s) && is_type (number_at Little 2 4 s))

-- the first four bytes of s, or all of fewer, may be those of a length: zeros follow them, or a byte that is not zero
abbrev pub begins_length : List ℕ → Bool
begins_length s = is_length (number_at Little 4 0 s) || nat_le (number_at Little 4 0 s + 256 ^ length s) 65_536

-- the bytes of s after four may be those of a type
abbrev pub begins_type : List ℕ → Bool
begins_type s = nat_le (length s) 4 || is_type (number_at Little 2 4 s)

-- s is shorter than a length and a type, and may start with those if more follows
abbrev pub begins_stream : List ℕ → Bool
begins_stream s = nat_lt (length s) 6 && (begins_length s && begins_type s)
