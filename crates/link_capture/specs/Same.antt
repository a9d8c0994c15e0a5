-- Answers of a capture that are the same, whose bytes may be borrowed from two buffers.
use Rattle.std.specs.Prelude.{◌≡◌}
use Rattle.link_capture.specs.declared.capture.Next.{Next}
use Rattle.link_capture.specs.declared.capture.Next.TheVariants as nexts
use Rattle.link_capture.specs.Meaning.{meaning_of}

-- units with the same meaning and length, or another answer twice
abbrev pub IsSameNext : Next → Next → Type 0
IsSameNext (nexts.Unit event size) (nexts.Unit other n) = (meaning_of event ≡ meaning_of other) × (size ≡ n)
IsSameNext a b = a ≡ b
