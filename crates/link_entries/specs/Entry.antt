-- Entries of an array, and how they are stored.
use Rattle.std.specs.Prelude.{ℕ, ◌+◌, List, [], ◌∷◌, ◌++◌, take, replicate, slice_set}
use Rattle.link_entries.specs.declared.entry.Entry.{Entry}

-- an entry without content: its attribute type, that of the element, its depth, and the offset and the length of the
-- content
abbrev pub blank : ℕ → ℕ → ℕ → ℕ → ℕ → Entry
blank kind inner depth offset size = record {
  kind = kind;
  inner = inner;
  flags = 0;
  form = 0;
  depth = depth;
  second = 0;
  length = size;
  number = 0;
  offset = offset;
  octets = replicate 16 0;
}

-- sixteen octets: the first of these, and zeros
abbrev pub padded : List ℕ → List ℕ
padded octets = take 16 (octets ++ replicate 16 0)

-- the places with these entries in them from index i on, as far as there are places
abbrev pub placed : List Entry → ℕ → List Entry → List Entry
placed places i [] = places
placed places i (e ∷ es) = placed (slice_set places i e) (i + 1) es
