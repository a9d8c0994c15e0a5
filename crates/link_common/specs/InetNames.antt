-- The names of numbers and flags in the attributes of a link for IPv6.
use Rattle.std.specs.Prelude.{ℕ, List, [], ◌∷◌, codes}

-- the numbers of `enum in6_addr_gen_mode`, and their names as `ip` prints them
abbrev pub addr_gen_mode_names : List (ℕ × List ℕ)
addr_gen_mode_names =
    (0, codes "eui64") ∷
    (1, codes "none") ∷
    (2, codes "stable_secret") ∷
    (3, codes "random") ∷ []

-- the bits of IF_.. in include/net/if_inet6.h, and their names
abbrev pub inet6_flags_names : List (ℕ × List ℕ)
inet6_flags_names =
    (16, codes "RS_SENT") ∷
    (32, codes "RA_RCVD") ∷
    (64, codes "RA_MANAGED") ∷
    (128, codes "RA_OTHERCONF") ∷
    (2147483648, codes "READY") ∷ []
