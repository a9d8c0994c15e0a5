-- Lists that are written into a buffer, and lists with one attribute changed.
use Rattle.std.specs.Prelude.{◌≡◌, ◌==◌, ℕ, ◌<◌, Bool, true, false, not, List, [], ◌∷◌, ◌++◌, length, map, filter, Result, Ok, Err, if◌then◌else◌}
use Rattle.std.specs.List.{AllByRecursion, list_any}
use Rattle.netlink_packet_route.specs.Answers.{ListFails, WriteAnswers, capped}
use Rattle.netlink_packet_route.specs.Table.{Table, AttrValue, Fits, Gives, written_kind, written_list}
use Rattle.netlink_packet_route.specs.Wire.{Wire}
use Rattle.netlink_packet_route.specs.declared.link.InfoVlan.{InfoVlan}
use Rattle.netlink_packet_route.specs.declared.link.InfoVlan.TheVariants.{Id}
use Rattle.netlink_packet_route.specs.declared.link.ListError.TheVariants as list_errors
use Rattle.netlink_packet_route.specs.declared.link.WriteError.{WriteError}
use Rattle.netlink_packet_route.specs.declared.link.WriteError.TheVariants as write_errors
use Rattle.uses.specs.declared.building.BufferError.{BufferError}
use Rattle.uses.specs.declared.building.BufferError.TheVariants.{TooLong, TooSmall}
use Rattle.uses.specs.declared.changing.ChangeError.{ChangeError}
use Rattle.uses.specs.declared.changing.ChangeError.TheVariants as errors

-- ---- writing into a buffer

-- a value does not fit; or `needed` is the length of the encoded list and greater than `room`
abbrev pub BufferFails : BufferError → List AttrValue → ℕ → Type 0
BufferFails TooLong vs room = ¬ AllByRecursion Fits vs
BufferFails (TooSmall needed) vs room = (needed ≡ capped (length (written_list vs))) × (room < needed)

-- the error is that an allocation failed
abbrev pub IsMemory : WriteError → Type 0
IsMemory (write_errors.Memory e) = Unit {0}
IsMemory (write_errors.TooLong index) = ⊥

-- ---- changing one attribute

-- true for an identifier
abbrev pub is_id : InfoVlan → Bool
is_id (Id id) = true
is_id v = false

-- an identifier is replaced by the new one, any other value is unchanged
abbrev pub set_id : ℕ → InfoVlan → InfoVlan
set_id id (Id old) = Id id
set_id id v = v

-- every identifier is replaced by the new one; if there is none, the new one is appended
abbrev pub with_id : ℕ → List InfoVlan → List InfoVlan
with_id id vs = if list_any is_id vs then map (set_id id) vs else vs ++ Id id ∷ []

-- the values of other attribute types than the new one's, then the new one
abbrev pub in_place_of : {X : Type 0} → (X → AttrValue) → X → List X → List X
in_place_of means new vs = filter (λ v. not (written_kind (means v) == written_kind (means new))) vs ++ new ∷ []

-- why there is no changed list: an allocation failed; or s does not decode; or a changed value does not fit
abbrev pub ChangeFails : {X : Type 0} → Table → (X → AttrValue) → (List X → List X) → List ℕ → ChangeError → Type 0
ChangeFails table means change s (errors.Memory e) = Unit {0}
ChangeFails table means change s (errors.Read e) = ListFails e (Gives table) s
ChangeFails {X} table means change s (errors.Write e) =
    (vs : List X) × Wire (Gives table) s (map means vs) × WriteAnswers (map means (change vs)) (Err e)

-- if an allocation failed, then P holds if it was one of parsing, and otherwise Q
abbrev pub OnChangeMemory : {X : Type 0} → Result X ChangeError → Type 0 → Type 0 → Type 0
OnChangeMemory (Ok x) P Q = Unit {0}
OnChangeMemory (Err (errors.Memory e)) P Q = Q
OnChangeMemory (Err (errors.Read (list_errors.Fault at f))) P Q = Unit {0}
OnChangeMemory (Err (errors.Read (list_errors.Memory e))) P Q = P
OnChangeMemory (Err (errors.Write (write_errors.TooLong i))) P Q = Unit {0}
OnChangeMemory (Err (errors.Write (write_errors.Memory e))) P Q = Q
