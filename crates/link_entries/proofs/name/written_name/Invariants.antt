use Rattle.std.proofs.Common.{◌≡◌, List, ℕ, ◌++◌, length, min, encode_utf8_all}
use Rattle.bstr.specs.Utf8.{lossy_chars}
use Rattle.link_base.specs.Name.{before_nul, name_field}
use Rattle.link_entries.proofs.name.written_name.Given as goal

abbrev pub invariant-loop-character : goal.invariant-loop-character
invariant-loop-character l =
    (done : List ℕ) × (l.name ≡ name_field done) × (l.end ≡ min (length done) 15)
    × (done ++ encode_utf8_all l.rest ≡ encode_utf8_all (lossy_chars (before_nul l.field)))
