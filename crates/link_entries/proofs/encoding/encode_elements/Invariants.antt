use Rattle.std.proofs.Common.{◌≡◌, ◌+◌, List, ℕ, length}
use Rattle.link_base.specs.Answers.{capped}
use Rattle.link_base.specs.Borrowed.{elements_at}
use Rattle.link_entries.specs.Fields.{fields_at}
use Rattle.link_entries.specs.Encoded.{elements_of}
use Rattle.link_entries.specs.Stored.{StoresAt}
use Rattle.link_entries.proofs.Encodings.{Reached}
use Rattle.link_entries.proofs.encoding.encode_elements.Given as goal

abbrev pub invariant-loop-entry : goal.invariant-loop-entry
invariant-loop-entry g l =
    let table = g.F.Meaning.table in
    let all = elements_of (elements_at table l.kind) (fields_at table l.kind) l.kind l.octets in
    (text : List ℕ) × (i : ℕ) × (i + length l.rest ≡ length l.entries) × (l.len ≡ capped (length text)) × StoresAt 0 text l.fn.room l.room × Reached (all 0 l.entries) text i (all i l.rest)

abbrev pub decreases-loop-entry : goal.decreases-loop-entry
decreases-loop-entry g l = length l.rest
