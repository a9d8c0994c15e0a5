-- The protocols of netlink (`NETLINK_`, include/uapi/linux/netlink.h).
use Rattle.std.specs.Prelude.{ℕ, List, [], ◌∷◌, codes}

abbrev pub protocols : List (ℕ × List ℕ)
protocols =
    (0, codes "NETLINK_ROUTE") ∷
    (1, codes "NETLINK_UNUSED") ∷
    (2, codes "NETLINK_USERSOCK") ∷
    (3, codes "NETLINK_FIREWALL") ∷
    (4, codes "NETLINK_SOCK_DIAG") ∷
    (5, codes "NETLINK_NFLOG") ∷
    (6, codes "NETLINK_XFRM") ∷
    (7, codes "NETLINK_SELINUX") ∷
    (8, codes "NETLINK_ISCSI") ∷
    (9, codes "NETLINK_AUDIT") ∷
    (10, codes "NETLINK_FIB_LOOKUP") ∷
    (11, codes "NETLINK_CONNECTOR") ∷
    (12, codes "NETLINK_NETFILTER") ∷
    (13, codes "NETLINK_IP6_FW") ∷
    (14, codes "NETLINK_DNRTMSG") ∷
    (15, codes "NETLINK_KOBJECT_UEVENT") ∷
    (16, codes "NETLINK_GENERIC") ∷
    (18, codes "NETLINK_SCSITRANSPORT") ∷
    (19, codes "NETLINK_ECRYPTFS") ∷
    (20, codes "NETLINK_RDMA") ∷
    (21, codes "NETLINK_CRYPTO") ∷
    (22, codes "NETLINK_SMC") ∷ []
