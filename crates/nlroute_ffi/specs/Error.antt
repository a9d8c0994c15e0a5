-- The first decode error of a list, in a struct.
use Rattle.std.specs.Prelude.{◌≡◌, ℕ, List, [], ◌∷◌, Result, Ok, Err}
use Rattle.netlink_packet_route.specs.declared.link.DecodeFault.{DecodeFault}
use Rattle.netlink_packet_route.specs.Wire.{Wire, FirstFault}
use Rattle.netlink_packet_route.specs.Table.{Table, AttrValue, Gives}
use Rattle.nlroute_ffi.specs.declared.fault.FirstError.{FirstError}
use Rattle.nlroute_ffi.specs.declared.refusal.Refusal.{Refusal}
use Rattle.nlroute_ffi.specs.declared.refusal.Refusal.TheVariants.{Absent}
use Rattle.nlroute_ffi.specs.Numbers.{fault_numbers}

-- the numbers in a struct, in the order of `fault_numbers`
abbrev pub error_numbers : FirstError → List ℕ
error_numbers e = e.at ∷ e.place ∷ e.kind ∷ e.inner ∷ e.cause ∷ e.first ∷ e.second ∷ []

-- the struct has the first decode error of s; or s has none
abbrev pub ErrorAnswers : List ℕ → FirstError → Table → Result ℕ Refusal → Type 0
ErrorAnswers s e table (Ok n) =
    (n ≡ 0) × ((at : ℕ) × (fault : DecodeFault) × FirstFault (Gives table) s at fault × (error_numbers e ≡ fault_numbers at fault))
ErrorAnswers s e table (Err Absent) = (vs : List AttrValue) × Wire (Gives table) s vs
ErrorAnswers s e table (Err refusal) = ⊥
