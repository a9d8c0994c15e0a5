-- The names of numbers and flags in the attributes of a link.
use Rattle.std.specs.Prelude.{ℕ, List, [], ◌∷◌, codes}

-- the numbers of IF_OPER_.., and their names
abbrev pub oper_state_names : List (ℕ × List ℕ)
oper_state_names =
    (0, codes "UNKNOWN") ∷
    (1, codes "NOTPRESENT") ∷
    (2, codes "DOWN") ∷
    (3, codes "LOWERLAYERDOWN") ∷
    (4, codes "TESTING") ∷
    (5, codes "DORMANT") ∷
    (6, codes "UP") ∷ []

-- the numbers of IF_LINK_MODE_.., and their names
abbrev pub link_mode_names : List (ℕ × List ℕ)
link_mode_names = (0, codes "DEFAULT") ∷ (1, codes "DORMANT") ∷ (2, codes "TESTING") ∷ []

-- the numbers of IFLA_EVENT_.., and their names as `ip` prints them
abbrev pub link_event_names : List (ℕ × List ℕ)
link_event_names =
    (0, codes "NONE") ∷
    (1, codes "REBOOT") ∷
    (2, codes "FEATURE CHANGE") ∷
    (3, codes "BONDING FAILOVER") ∷
    (4, codes "NOTIFY PEERS") ∷
    (5, codes "RESEND IGMP") ∷
    (6, codes "BONDING OPTION") ∷ []

-- the bits of RTEXT_FILTER_.., and their names
abbrev pub ext_mask_names : List (ℕ × List ℕ)
ext_mask_names =
    (1, codes "VF") ∷
    (2, codes "BRVLAN") ∷
    (4, codes "BRVLAN_COMPRESSED") ∷
    (8, codes "SKIP_STATS") ∷
    (16, codes "MRP") ∷
    (32, codes "CFM_CONFIG") ∷
    (64, codes "CFM_STATUS") ∷
    (128, codes "MST") ∷ []

-- the numbers of XDP_ATTACHED_.., and their names as `ip` prints them
abbrev pub xdp_attached_names : List (ℕ × List ℕ)
xdp_attached_names =
    (0, codes "none") ∷
    (1, codes "xdp") ∷
    (2, codes "xdpgeneric") ∷
    (3, codes "xdpoffload") ∷
    (4, codes "xdpmulti") ∷ []

-- the bits of XDP_FLAGS_.., and their names
abbrev pub xdp_flags_names : List (ℕ × List ℕ)
xdp_flags_names =
    (1, codes "UPDATE_IF_NOEXIST") ∷
    (2, codes "SKB_MODE") ∷
    (4, codes "DRV_MODE") ∷
    (8, codes "HW_MODE") ∷
    (16, codes "REPLACE") ∷ []
