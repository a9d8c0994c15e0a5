-- Messages and replies that are the same, whose bytes may be borrowed from two buffers.
use Rattle.std.specs.Prelude.{◌≡◌}
use Rattle.link_messages.specs.declared.buffer_parts.Message.{Message}
use Rattle.link_messages.specs.declared.acknowledgement.Acknowledgement.{Acknowledgement}
use Rattle.link_messages.specs.Finding.{stretch_of}

-- the same offsets, header fields and payload
pub record IsSameMessage (a b : Message) : Type 0 where
  pub at : a.at ≡ b.at
  pub kind : a.kind ≡ b.kind
  pub flags : a.flags ≡ b.flags
  pub sequence : a.sequence ≡ b.sequence
  pub port : a.port ≡ b.port
  pub payload : a.payload.now ≡ b.payload.now
  pub next : a.next ≡ b.next

-- the same type and error, and the same attributes at the same offset
pub record IsSameAcknowledgement (a b : Acknowledgement) : Type 0 where
  pub is_done : a.is_done ≡ b.is_done
  pub error : a.error ≡ b.error
  pub list : stretch_of a.list ≡ stretch_of b.list
