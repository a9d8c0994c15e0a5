-- The widths of numbers, and the lengths of structs.
use Rattle.std.specs.Prelude.{ℕ}
use Rattle.link_base.specs.Class.{Extent, Exactly, AtLeast, Fixed, AtMost}
use Rattle.link_base.specs.declared.classes.lengths.Lengths.{Lengths}
use Rattle.link_base.specs.declared.classes.lengths.Lengths.TheVariants as lengths
use Rattle.link_base.specs.declared.rows.form.ArrayOf.{ArrayOf}
use Rattle.link_base.specs.declared.rows.form.ArrayOf.TheVariants.{U16, U32, U64, I32}
use Rattle.link_base.specs.declared.rows.form.Layout.{Layout}
use Rattle.link_base.specs.declared.rows.form.Layout.TheVariants as layouts
use Rattle.link_base.specs.declared.rows.form.Width.{Width}
use Rattle.link_base.specs.declared.rows.form.Width.TheVariants.{One, Two, Four, Eight}

-- how many bytes a number has
abbrev pub bytes_in : Width → ℕ
bytes_in One = 1
bytes_in Two = 2
bytes_in Four = 4
bytes_in Eight = 8

-- the width of the numbers of an array
abbrev pub width_in : ArrayOf → Width
width_in U16 = Two
width_in U32 = Four
width_in U64 = Eight
width_in I32 = Four

-- how many bytes each of them has
abbrev pub size_in : ArrayOf → ℕ
size_in a = bytes_in (width_in a)

-- the lengths, as an extent
abbrev pub extent_of : Lengths → Extent
extent_of (lengths.Exactly n) = Exactly n
extent_of (lengths.AtLeast n) = AtLeast n
extent_of (lengths.Fixed n) = Fixed n
extent_of (lengths.AtMost n) = AtMost n

-- the lengths of a struct that are accepted
abbrev pub layout_extent : Layout → Extent
layout_extent layouts.BridgeId = AtLeast 8
layout_extent layouts.VlanInfo = Exactly 4
layout_extent layouts.BooleanOptions = Fixed 8
layout_extent layouts.BitTiming = AtLeast 32
layout_extent layouts.Clock = Fixed 4
layout_extent layouts.CtrlMode = AtLeast 8
layout_extent layouts.BerrCounter = AtLeast 4
layout_extent (layouts.Other lengths) = extent_of lengths
