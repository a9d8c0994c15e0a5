-- Bytes of a buffer, with their offset in it.
use Rattle.std.specs.Prelude.{ℕ, List}
use Rattle.link_messages.specs.declared.buffer_parts.Payload.{Payload}

-- bytes of the buffer: the offset of the first, and the bytes
abbrev pub Stretch : Type 0
Stretch = ℕ × List ℕ

abbrev pub stretch_of : Payload → Stretch
stretch_of p = (p.at, p.bytes.now)
