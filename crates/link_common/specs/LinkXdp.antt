-- The program that is attached to a link for received packets.
use Rattle.std.specs.Prelude.{[], ◌∷◌}
use Rattle.link_base.specs.Class.{Number, Integer}
use Rattle.link_base.specs.Payloads.{u32, i32, u8_coded, u32_flags}
use Rattle.link_base.specs.Table.{Rows, Leaf, Case, leaf_row, prefixed}
use Rattle.link_base.specs.Default.{default_means}
use Rattle.link_common.specs.LinkNames.{xdp_attached_names, xdp_flags_names}
use Rattle.link_common.specs.declared.link_xdp.LinkXdp.{LinkXdp}
use Rattle.link_common.specs.declared.link_xdp.LinkXdp.TheVariants as infos

-- one row for each attribute type
abbrev pub link_xdp_rows : Rows
link_xdp_rows = prefixed "IFLA_XDP_" (
    leaf_row 1 "IFLA_XDP_FD" i32 ∷
    leaf_row 2 "IFLA_XDP_ATTACHED" (u8_coded xdp_attached_names) ∷
    leaf_row 3 "IFLA_XDP_FLAGS" (u32_flags xdp_flags_names) ∷
    leaf_row 4 "IFLA_XDP_PROG_ID" u32 ∷
    leaf_row 5 "IFLA_XDP_DRV_PROG_ID" u32 ∷
    leaf_row 6 "IFLA_XDP_SKB_PROG_ID" u32 ∷
    leaf_row 7 "IFLA_XDP_HW_PROG_ID" u32 ∷
    leaf_row 8 "IFLA_XDP_EXPECTED_FD" i32 ∷ [])

-- the attribute that a value represents
abbrev pub link_xdp_leaf : LinkXdp → Leaf
link_xdp_leaf (infos.Fd fd) = Case 1 (Integer fd)
link_xdp_leaf (infos.Attached attached) = Case 2 (Number 1 attached)
link_xdp_leaf (infos.Flags flags) = Case 3 (Number 4 flags)
link_xdp_leaf (infos.ProgId id) = Case 4 (Number 4 id)
link_xdp_leaf (infos.DrvProgId id) = Case 5 (Number 4 id)
link_xdp_leaf (infos.SkbProgId id) = Case 6 (Number 4 id)
link_xdp_leaf (infos.HwProgId id) = Case 7 (Number 4 id)
link_xdp_leaf (infos.ExpectedFd fd) = Case 8 (Integer fd)
link_xdp_leaf (infos.Other other) = default_means other
