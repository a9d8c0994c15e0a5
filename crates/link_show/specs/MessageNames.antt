-- The names in messages (`include/uapi/linux/netlink.h`, `rtnetlink.h`, `if.h`, `if_arp.h`).
use Rattle.std.specs.Prelude.{ℕ, ◌==◌, ◌||◌, List, [], ◌∷◌, ◌++◌, codes, if◌then◌else◌}

-- types of messages
abbrev pub message_types : List (ℕ × List ℕ)
message_types =
    (1, codes "NLMSG_NOOP") ∷ (2, codes "NLMSG_ERROR") ∷ (3, codes "NLMSG_DONE") ∷ (4, codes "NLMSG_OVERRUN") ∷
    (16, codes "RTM_NEWLINK") ∷ (17, codes "RTM_DELLINK") ∷ (18, codes "RTM_GETLINK") ∷ (19, codes "RTM_SETLINK") ∷
    (108, codes "RTM_NEWLINKPROP") ∷ (109, codes "RTM_DELLINKPROP") ∷ (110, codes "RTM_GETLINKPROP") ∷ []

-- flags of all messages, without NLM_F_
abbrev pub common_flags : List (ℕ × List ℕ)
common_flags =
    (1, codes "REQUEST") ∷ (2, codes "MULTI") ∷ (4, codes "ACK") ∷ (8, codes "ECHO") ∷
    (16, codes "DUMP_INTR") ∷ (32, codes "DUMP_FILTERED") ∷ []

-- flags of messages that make or change
abbrev pub new_flags : List (ℕ × List ℕ)
new_flags = (256, codes "REPLACE") ∷ (512, codes "EXCL") ∷ (1024, codes "CREATE") ∷ (2048, codes "APPEND") ∷ []

-- flags of messages that ask
abbrev pub get_flags : List (ℕ × List ℕ)
get_flags = (256, codes "ROOT") ∷ (512, codes "MATCH") ∷ (1024, codes "ATOMIC") ∷ []

-- flags of messages that delete
abbrev pub delete_flags : List (ℕ × List ℕ)
delete_flags = (256, codes "NONREC") ∷ (512, codes "BULK") ∷ []

-- flags of NLMSG_ERROR and NLMSG_DONE
abbrev pub error_flags : List (ℕ × List ℕ)
error_flags = (256, codes "CAPPED") ∷ (512, codes "ACK_TLVS") ∷ []

-- the flags of messages of this type
abbrev pub flags_of : ℕ → List (ℕ × List ℕ)
flags_of kind =
    if (kind == 16) || ((kind == 19) || (kind == 108)) then common_flags ++ new_flags
    else (if (kind == 18) || (kind == 110) then common_flags ++ get_flags
    else (if (kind == 17) || (kind == 109) then common_flags ++ delete_flags
    else (if (kind == 2) || (kind == 3) then common_flags ++ error_flags
    else common_flags)))

-- address families, with names
abbrev pub address_families : List (ℕ × List ℕ)
address_families = (0, codes "AF_UNSPEC") ∷ (7, codes "AF_BRIDGE") ∷ []

-- types of devices, without ARPHRD_
abbrev pub device_types : List (ℕ × List ℕ)
device_types = (1, codes "ETHER") ∷ (280, codes "CAN") ∷ (772, codes "LOOPBACK") ∷ (65534, codes "NONE") ∷ []

-- flags of devices, without IFF_
abbrev pub device_flags : List (ℕ × List ℕ)
device_flags =
    (1, codes "UP") ∷ (2, codes "BROADCAST") ∷ (4, codes "DEBUG") ∷ (8, codes "LOOPBACK") ∷
    (16, codes "POINTOPOINT") ∷ (32, codes "NOTRAILERS") ∷ (64, codes "RUNNING") ∷ (128, codes "NOARP") ∷
    (256, codes "PROMISC") ∷ (512, codes "ALLMULTI") ∷ (1024, codes "MASTER") ∷ (2048, codes "SLAVE") ∷
    (4096, codes "MULTICAST") ∷ (8192, codes "PORTSEL") ∷ (16384, codes "AUTOMEDIA") ∷ (32768, codes "DYNAMIC") ∷
    (65536, codes "LOWER_UP") ∷ (131072, codes "DORMANT") ∷ (262144, codes "ECHO") ∷ []
