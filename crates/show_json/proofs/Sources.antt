-- The members that say where documents are from are those of a place.
use Rattle.std.proofs.Common.{◌/◌, ◌%◌, ℕ, suc, List, [], length, Option, Some, None, refl, sym, subst}
use Rattle.json.specs.Json.{Json}
use Rattle.link_base.specs.Labels.{name_in}
use Rattle.link_capture.specs.declared.event.Time.{Time}
use Rattle.link_capture.specs.Meaning.{Captured}
use Rattle.link_json.specs.Line.{IsPlace}
use Rattle.link_json.proofs.Places.{place}
use Rattle.link_json.proofs.Sound.{IsSound, no_fields, field_sound, object_sound, string_sound, null_sound, number_sound, named_sound}
use Rattle.show_captures.specs.Packet.{protocol_in}
use Rattle.show_captures.specs.Protocol.{protocols}
use Rattle.show_json.specs.Clock.{ShowsClock, InRange, OutOfRange, instant_json}
use Rattle.show_json.specs.Place.{file_fields, line_fields, time_fields, packet_fields, packet_json, protocol_json}

-- a value of such a member that nests at most n deep
abbrev IsFit : ℕ → Json → Type 0
IsFit n j = IsSound n j

-- ---- instants

instant_fit : {d : ℕ} (utc : List ℕ) (second nanosecond : ℕ) → IsFit (suc d) (instant_json utc second nanosecond)
instant_fit utc second nanosecond = object_sound refl (field_sound (string_sound utc) (field_sound (number_sound second) (field_sound (number_sound nanosecond) no_fields)))

clock_fit : {d : ℕ} (time : Time) (clock : Json) → ShowsClock time clock → IsFit (suc d) clock
clock_fit {d} time clock (InRange n is has utc text e) = subst (IsFit (suc d)) (sym e) (instant_fit utc (n / 1_000_000_000) (n % 1_000_000_000))
clock_fit {d} time clock (OutOfRange none e) = subst (IsFit (suc d)) (sym e) null_sound

-- ---- protocols

protocol_fit : {d : ℕ} (protocol : Option ℕ) → IsFit (suc d) (protocol_json protocol)
protocol_fit None = null_sound
protocol_fit (Some n) = named_sound n (name_in protocols n)

-- ---- packets

packet_fit : {d : ℕ} (number : ℕ) (clock : Json) (p : Captured) → IsFit (suc d) clock → IsFit (suc (suc d)) (packet_json number clock p)
packet_fit number clock p c =
    object_sound refl
    (field_sound (number_sound number)
    (field_sound c
    (field_sound (number_sound (length p.bytes)) (field_sound (number_sound p.original) (field_sound (number_sound p.link_type) (field_sound (protocol_fit (protocol_in p)) no_fields))))))

-- ---- places

pub file_place : (file : Option (List ℕ)) → IsPlace (file_fields file)
file_place None = place [] refl no_fields
file_place (Some name) = place (file_fields (Some name)) refl (field_sound (string_sound name) no_fields)

pub line_place : (file : Option (List ℕ)) (n : ℕ) → IsPlace (line_fields file n)
line_place None n = place (line_fields None n) refl (field_sound (number_sound n) no_fields)
line_place (Some name) n = place (line_fields (Some name) n) refl (field_sound (string_sound name) (field_sound (number_sound n) no_fields))

pub time_place : (file : Option (List ℕ)) (time : Time) (clock : Json) → ShowsClock time clock → IsPlace (time_fields file clock)
time_place None time clock shown = place (time_fields None clock) refl (field_sound (clock_fit time clock shown) no_fields)
time_place (Some name) time clock shown = place (time_fields (Some name) clock) refl (field_sound (string_sound name) (field_sound (clock_fit time clock shown) no_fields))

packet_place_of : (file : Option (List ℕ)) (number : ℕ) (clock : Json) (p : Captured) → IsFit 127 (packet_json number clock p) → IsPlace (packet_fields file number clock p)
packet_place_of None number clock p h = place (packet_fields None number clock p) refl (field_sound h no_fields)
packet_place_of (Some name) number clock p h = place (packet_fields (Some name) number clock p) refl (field_sound (string_sound name) (field_sound h no_fields))

pub packet_place : (file : Option (List ℕ)) (number : ℕ) (clock : Json) (p : Captured) → ShowsClock p.time clock → IsPlace (packet_fields file number clock p)
packet_place file number clock p shown = packet_place_of file number clock p (packet_fit number clock p (clock_fit p.time clock shown))
