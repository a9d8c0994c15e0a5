-- The pin of a clock that is recovered from a link.
use Rattle.std.specs.Prelude.{[], ◌∷◌}
use Rattle.link_base.specs.Class.{Number}
use Rattle.link_base.specs.Payloads.{u32}
use Rattle.link_base.specs.Table.{Rows, Leaf, Case, leaf_row, prefixed}
use Rattle.link_base.specs.Default.{default_means}
use Rattle.link_common.specs.declared.dpll_pin.DpllPin.{DpllPin}
use Rattle.link_common.specs.declared.dpll_pin.DpllPin.TheVariants as infos

-- one row for each attribute type
abbrev pub dpll_pin_rows : Rows
dpll_pin_rows = prefixed "DPLL_A_PIN_" (leaf_row 1 "DPLL_A_PIN_ID" u32 ∷ [])

-- the attribute that a value represents
abbrev pub dpll_pin_leaf : DpllPin → Leaf
dpll_pin_leaf (infos.Id id) = Case 1 (Number 4 id)
dpll_pin_leaf (infos.Other other) = default_means other
