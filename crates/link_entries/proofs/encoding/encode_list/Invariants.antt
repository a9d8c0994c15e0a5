use Rattle.std.proofs.Common.{◌≡◌, ◌+◌, List, ℕ, length}
use Rattle.link_base.specs.Answers.{capped}
use Rattle.link_entries.specs.Encoded.{entries_of}
use Rattle.link_entries.specs.Stored.{StoresAt}
use Rattle.link_entries.proofs.Encodings.{Reached}
use Rattle.link_entries.proofs.encoding.encode_list.Given as goal

abbrev pub invariant-loop-entry : goal.invariant-loop-entry
invariant-loop-entry g l =
    let all = entries_of g.F.Meaning.table l.octets in
    (text : List ℕ) × (i : ℕ) × (i + length l.rest ≡ length l.entries) × (l.len ≡ capped (length text)) × StoresAt 0 text l.fn.out l.out × Reached (all l.entries) text i (all l.rest)

abbrev pub decreases-loop-entry : goal.decreases-loop-entry
decreases-loop-entry g l = length l.rest
