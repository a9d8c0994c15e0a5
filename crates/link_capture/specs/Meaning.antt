-- What units mean.
use Rattle.std.specs.Prelude.{ℕ, List}
use Rattle.link_capture.specs.declared.event.Time.{Time}
use Rattle.link_capture.specs.declared.event.Packet.{Packet}
use Rattle.link_capture.specs.declared.event.Event.{Event}
use Rattle.link_capture.specs.declared.event.Event.TheVariants as events
use Rattle.link_capture.specs.declared.form.Form.{Form}
use Rattle.link_capture.specs.declared.pcapng.Interface.{Interface}

-- a packet: when it was captured, the length that it had, its link type, and its captured bytes
pub record Captured : Type 0 where
  pub time : Time
  pub original : ℕ
  pub link_type : ℕ
  pub bytes : List ℕ

-- what a unit means: nothing that is shown, a packet, a message, or the time of the next message
pub data UnitMeaning : Type 0 where
  Nothing : UnitMeaning
  APacket : Captured → UnitMeaning
  AMessage : List ℕ → UnitMeaning
  ATime : Time → UnitMeaning

abbrev pub captured_of : Packet → Captured
captured_of p = record { time = p.time; original = p.original; link_type = p.link_type; bytes = p.bytes.now }

-- what an event says
abbrev pub meaning_of : Event → UnitMeaning
meaning_of events.Nothing = Nothing
meaning_of (events.Packet p) = APacket (captured_of p)
meaning_of (events.Message bytes) = AMessage bytes.now
meaning_of (events.Time time) = ATime time

-- what is known of an input after some of its units: how the next one is read, and the interfaces of the section
pub record State : Type 0 where
  pub form : Form
  pub interfaces : List Interface
