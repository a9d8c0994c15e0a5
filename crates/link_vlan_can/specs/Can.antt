-- CAN controller attributes.
use Rattle.std.specs.Prelude.{ℕ, List, [], ◌∷◌, map, true}
use Rattle.link_base.specs.Class.{Number, Raw}
use Rattle.link_base.specs.declared.rows.form.Layout.TheVariants.{BitTiming, Clock, CtrlMode, BerrCounter}
use Rattle.link_base.specs.Payloads.{u16, u32, u32_coded, u32_flags, struct_of, flags_struct, limits, u16s, u32s}
use Rattle.link_base.specs.Layout.{octets_of}
use Rattle.link_base.specs.Structs.{packed}
use Rattle.link_base.specs.declared.rows.label.Quantity.TheVariants.{BitsPerSecond, Milliseconds, Ohms}
use Rattle.link_base.specs.Table.{Rows, Leaf, Table, AttrValue, Case, Single, Inner, row, row_in, leaf_row, nested_row, prefixed}
use Rattle.link_base.specs.Default.{default_means}
use Rattle.link_vlan_can.specs.CanFlags.{mode_bits, mode_bit_names}
use Rattle.link_vlan_can.specs.CanState.{can_state_names}
use Rattle.link_vlan_can.specs.declared.can_tdc.CanTdc.{CanTdc}
use Rattle.link_vlan_can.specs.declared.can_tdc.CanTdc.TheVariants as tdcs
use Rattle.link_vlan_can.specs.declared.can_modes.CanCtrlModeExt.{CanCtrlModeExt}
use Rattle.link_vlan_can.specs.declared.can_modes.CanCtrlModeExt.TheVariants as modes
use Rattle.link_vlan_can.specs.CanRecords.{timing_fields, timing_held, modes_fields, modes_held, clock_fields, clock_held, errors_fields, errors_held}
use Rattle.link_vlan_can.specs.CanLimits.{limits_value}
use Rattle.link_vlan_can.specs.declared.can.InfoCan.{InfoCan}
use Rattle.link_vlan_can.specs.declared.can.InfoCan.TheVariants as infos

-- one row for each attribute type
abbrev pub tdc_rows : Rows
tdc_rows = prefixed "IFLA_CAN_TDC_" (
    leaf_row 1 "IFLA_CAN_TDC_TDCV_MIN" u32 ∷
    leaf_row 2 "IFLA_CAN_TDC_TDCV_MAX" u32 ∷
    leaf_row 3 "IFLA_CAN_TDC_TDCO_MIN" u32 ∷
    leaf_row 4 "IFLA_CAN_TDC_TDCO_MAX" u32 ∷
    leaf_row 5 "IFLA_CAN_TDC_TDCF_MIN" u32 ∷
    leaf_row 6 "IFLA_CAN_TDC_TDCF_MAX" u32 ∷
    leaf_row 7 "IFLA_CAN_TDC_TDCV" u32 ∷
    leaf_row 8 "IFLA_CAN_TDC_TDCO" u32 ∷
    leaf_row 9 "IFLA_CAN_TDC_TDCF" u32 ∷ [])

-- the attribute that a value of transmitter delay compensation represents
abbrev pub tdc_leaf : CanTdc → Leaf
tdc_leaf (tdcs.TdcvMin periods) = Case 1 (Number 4 periods)
tdc_leaf (tdcs.TdcvMax periods) = Case 2 (Number 4 periods)
tdc_leaf (tdcs.TdcoMin periods) = Case 3 (Number 4 periods)
tdc_leaf (tdcs.TdcoMax periods) = Case 4 (Number 4 periods)
tdc_leaf (tdcs.TdcfMin periods) = Case 5 (Number 4 periods)
tdc_leaf (tdcs.TdcfMax periods) = Case 6 (Number 4 periods)
tdc_leaf (tdcs.Tdcv periods) = Case 7 (Number 4 periods)
tdc_leaf (tdcs.Tdco periods) = Case 8 (Number 4 periods)
tdc_leaf (tdcs.Tdcf periods) = Case 9 (Number 4 periods)
tdc_leaf (tdcs.Other other) = default_means other

-- one row for each attribute type
abbrev pub mode_rows : Rows
mode_rows = prefixed "IFLA_CAN_CTRLMODE_" (leaf_row 1 "IFLA_CAN_CTRLMODE_SUPPORTED" (u32_flags mode_bit_names) ∷ [])

-- the attribute that a value of the modes represents
abbrev pub mode_leaf : CanCtrlModeExt → Leaf
mode_leaf (modes.Supported flags) = Case 1 (Number 4 (mode_bits flags))
mode_leaf (modes.Other other) = default_means other

-- one row for each attribute type
abbrev pub can_table : Table
can_table = prefixed "IFLA_CAN_" (
    row 1 "IFLA_CAN_BITTIMING" (struct_of BitTiming timing_fields) ∷
    row 2 "IFLA_CAN_BITTIMING_CONST" limits ∷
    row 3 "IFLA_CAN_CLOCK" (struct_of Clock clock_fields) ∷
    row 4 "IFLA_CAN_STATE" (u32_coded can_state_names) ∷
    row 5 "IFLA_CAN_CTRLMODE" (flags_struct CtrlMode mode_bit_names modes_fields) ∷
    row_in Milliseconds 6 "IFLA_CAN_RESTART_MS" u32 ∷
    row 7 "IFLA_CAN_RESTART" u32 ∷
    row 8 "IFLA_CAN_BERR_COUNTER" (struct_of BerrCounter errors_fields) ∷
    row 9 "IFLA_CAN_DATA_BITTIMING" (struct_of BitTiming timing_fields) ∷
    row 10 "IFLA_CAN_DATA_BITTIMING_CONST" limits ∷
    row_in Ohms 11 "IFLA_CAN_TERMINATION" u16 ∷
    row_in Ohms 12 "IFLA_CAN_TERMINATION_CONST" u16s ∷
    row_in BitsPerSecond 13 "IFLA_CAN_BITRATE_CONST" u32s ∷
    row_in BitsPerSecond 14 "IFLA_CAN_DATA_BITRATE_CONST" u32s ∷
    row_in BitsPerSecond 15 "IFLA_CAN_BITRATE_MAX" u32 ∷
    nested_row 16 "IFLA_CAN_TDC" true tdc_rows ∷
    nested_row 17 "IFLA_CAN_CTRLMODE_EXT" true mode_rows ∷ [])

-- the attribute types that the second version of the table adds
abbrev pub can_added : List ℕ
can_added = 12 ∷ 13 ∷ 14 ∷ []

-- the first version of the table
abbrev pub can_table_first : Table
can_table_first = prefixed "IFLA_CAN_" (
    row 1 "IFLA_CAN_BITTIMING" (struct_of BitTiming timing_fields) ∷
    row 2 "IFLA_CAN_BITTIMING_CONST" limits ∷
    row 3 "IFLA_CAN_CLOCK" (struct_of Clock clock_fields) ∷
    row 4 "IFLA_CAN_STATE" (u32_coded can_state_names) ∷
    row 5 "IFLA_CAN_CTRLMODE" (flags_struct CtrlMode mode_bit_names modes_fields) ∷
    row_in Milliseconds 6 "IFLA_CAN_RESTART_MS" u32 ∷
    row 7 "IFLA_CAN_RESTART" u32 ∷
    row 8 "IFLA_CAN_BERR_COUNTER" (struct_of BerrCounter errors_fields) ∷
    row 9 "IFLA_CAN_DATA_BITTIMING" (struct_of BitTiming timing_fields) ∷
    row 10 "IFLA_CAN_DATA_BITTIMING_CONST" limits ∷
    row_in Ohms 11 "IFLA_CAN_TERMINATION" u16 ∷
    row_in BitsPerSecond 15 "IFLA_CAN_BITRATE_MAX" u32 ∷
    nested_row 16 "IFLA_CAN_TDC" true tdc_rows ∷
    nested_row 17 "IFLA_CAN_CTRLMODE_EXT" true mode_rows ∷ [])

-- the attribute that a value represents
abbrev pub can_means : InfoCan → AttrValue
can_means (infos.BitTiming timing) = Case 1 (Single (Raw (packed (timing_held timing))))
can_means (infos.BitTimingConst limits) = Case 2 (Single (limits_value limits))
can_means (infos.Clock clock) = Case 3 (Single (Raw (packed (clock_held clock))))
can_means (infos.State state) = Case 4 (Single (Number 4 state))
can_means (infos.CtrlMode modes) = Case 5 (Single (Raw (packed (modes_held modes))))
can_means (infos.RestartMs delay) = Case 6 (Single (Number 4 delay))
can_means (infos.Restart restart) = Case 7 (Single (Number 4 restart))
can_means (infos.BerrCounter errors) = Case 8 (Single (Raw (packed (errors_held errors))))
can_means (infos.DataBitTiming timing) = Case 9 (Single (Raw (packed (timing_held timing))))
can_means (infos.DataBitTimingConst limits) = Case 10 (Single (limits_value limits))
can_means (infos.Termination resistance) = Case 11 (Single (Number 2 resistance))
can_means (infos.TerminationConst resistances) = Case 12 (Single (Raw (octets_of 2 resistances.items)))
can_means (infos.BitrateConst rates) = Case 13 (Single (Raw (octets_of 4 rates.items)))
can_means (infos.DataBitrateConst rates) = Case 14 (Single (Raw (octets_of 4 rates.items)))
can_means (infos.BitrateMax rate) = Case 15 (Single (Number 4 rate))
can_means (infos.Tdc tdcs) = Case 16 (Inner true (map tdc_leaf tdcs.items))
can_means (infos.CtrlModeExt exts) = Case 17 (Inner true (map mode_leaf exts.items))
can_means (infos.Other other) = default_means other
