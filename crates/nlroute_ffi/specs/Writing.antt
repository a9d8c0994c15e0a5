-- The results of writing lists from arrays of values.
use Rattle.std.specs.Prelude.{◌≡◌, ℕ, ◌<◌, ◌≤◌, ◌^◌, List, length, Result, Ok, Err}
use Rattle.netlink_packet_route.specs.declared.family.Family.{Family}
use Rattle.netlink_packet_route.specs.Family.{table_of}
use Rattle.netlink_packet_route.specs.Rewrite.{StandsInFront}
use Rattle.link_entries.specs.declared.entry.Entry.{Entry}
use Rattle.link_entries.specs.declared.misfit.Misfit.{Misfit}
use Rattle.link_entries.specs.declared.misfit.Misfit.TheVariants as misfits
use Rattle.link_entries.specs.Encoded.{Encoding, encoded_by}
use Rattle.nlroute_ffi.specs.declared.refusal.Refusal.{Refusal}
use Rattle.nlroute_ffi.specs.declared.refusal.Refusal.TheVariants.{TooLong, NoRoom, BadForm, BadNumber, BadElement, BadOctets, BadDepth, Repeated, BadName, NoSet}

-- the error code for an entry that cannot be written
abbrev pub refusal_for : Misfit → Refusal
refusal_for misfits.TooLong = TooLong
refusal_for misfits.BadForm = BadForm
refusal_for misfits.BadNumber = BadNumber
refusal_for misfits.BadElement = BadElement
refusal_for misfits.BadOctets = BadOctets
refusal_for misfits.BadDepth = BadDepth
refusal_for misfits.Repeated = Repeated
refusal_for misfits.BadName = BadName
refusal_for misfits.NoSet = NoSet

-- the buffer starts with the list, whose length is n, and the rest is unchanged; or the buffer is too small, or an entry
-- cannot be written, and the buffer is unchanged
abbrev pub Written : Encoding → List ℕ → List ℕ → Result ℕ Refusal → Type 0
Written (Ok s) old new (Ok n) = StandsInFront old new s n
Written (Ok s) old new (Err NoRoom) = (length old < length s) × (new ≡ old)
Written (Err e) old new (Err refusal) = (refusal ≡ refusal_for e.1) × (new ≡ old)
Written encoding old new result = ⊥

-- of the list that these entries encode to
abbrev pub WriteAnswers : List Entry → List ℕ → List ℕ → List ℕ → Family → Result ℕ Refusal → Type 0
WriteAnswers es octets old new family result = Written (encoded_by (table_of family) octets es) old new result

-- the length of the list, or that no buffer is so long, and the index is unchanged; or the index is that of the first entry
-- that cannot be written
abbrev pub Measured : Encoding → ℕ → ℕ → Result ℕ Refusal → Type 0
Measured (Ok s) old new (Ok n) = (n ≡ length s) × (new ≡ old)
Measured (Ok s) old new (Err NoRoom) = (2 ^ 63 ≤ length s) × (new ≡ old)
Measured (Err e) old new (Err refusal) = (refusal ≡ refusal_for e.1) × (new ≡ e.0)
Measured encoding old new result = ⊥

abbrev pub MeasureAnswers : List Entry → List ℕ → ℕ → ℕ → Family → Result ℕ Refusal → Type 0
MeasureAnswers es octets old new family result = Measured (encoded_by (table_of family) octets es) old new result
