-- The entries of attributes: those of one, and of one more.
use Rattle.std.proofs.Common.{◌≡◌, ℕ, ◌+◌, ◌-◌, ◌*◌, ◌≤◌, List, [], ◌∷◌, ◌++◌, length, take, drop, min, refl, sym, ap, ap₂, subst, ◌∙◌, arith, set, append_assoc}
use Rattle.std.specs.List.{AllZip, flat_map}
use Rattle.std.proofs.lemmas.List.{append-nil, length-append, length-drop, set-set, set_at, set_past}
use Rattle.std.proofs.lemmas.Grind.{flat_map-append}
use Rattle.link_base.specs.declared.wire.buffer.NlaBuffer.{NlaBuffer}
use Rattle.link_base.specs.declared.views.content.Content.{Content}
use Rattle.link_base.specs.Frame.{kind_of, pad}
use Rattle.link_base.specs.Buffer.{kind_field_of, payload_of, SplitsFirst}
use Rattle.link_base.specs.Table.{Table}
use Rattle.link_messages.specs.Walk.{Item, Walks}
use Rattle.link_messages.proofs.Walking.{walks_more, split_short}
use Rattle.link_entries.specs.declared.entry.Entry.{Entry}
use Rattle.link_entries.specs.Entry.{placed}
use Rattle.link_base.specs.Borrowed.{HasContent}
use Rattle.link_entries.specs.Flat.{Elements, head_entry, IsGroup, Puts}
use Rattle.link_entries.proofs.Placed.{placed-append, placed_before, zip_more}

-- the entries of an attribute: those of its elements were stored before its own
pub group_stored : (table : Table) (at first next : ℕ) (b : NlaBuffer) (content : Content) (entry : Entry) (es old mid new : List Entry) → HasContent table b content
    → Elements table (kind_of (kind_field_of b)) (at + 4) content es → Puts old mid (first + 1) es next → 2 * length es ≤ length (payload_of b)
    → entry ≡ head_entry (at, b) content (next - (first + 1)) → new ≡ set mid first entry
    → (group : List Entry) × IsGroup table (at, b) group × Puts old new first group next × (2 * length group ≤ 4 + length (payload_of b))
group_stored table at first next b content entry es old mid new has elements puts fewer is stored =
    let count : next - (first + 1) ≡ length es = omega (arith, puts.1) in
    let head = head_entry (at, b) content (length es) in
    let same : entry ≡ head = is ∙ ap (head_entry (at, b) content) count in (
      head ∷ es,
      (content, has, (es, elements, refl)),
      (
        stored ∙ ap₂ (λ places e. set places first e) puts.0 same ∙ placed_before old first (first + 1) head es (omega arith),
        omega (arith, puts.1),
      ),
      omega (arith, fewer),
    )

-- an attribute without elements
pub group_single : (table : Table) (at : ℕ) (b : NlaBuffer) (content : Content) (e : Entry) → HasContent table b content
    → Elements table (kind_of (kind_field_of b)) (at + 4) content [] → e ≡ head_entry (at, b) content 0 → IsGroup table (at, b) (e ∷ [])
group_single table at b content e has none is = (content, has, ([], none, ap (λ d. d ∷ []) is))

-- the entry of an attribute that is stored before the others replaces what is in its place
pub group_again : (table : Table) (x : Item) (old new : List Entry) (first next n : ℕ) (e : Entry)
    → (group : List Entry) × IsGroup table x group × Puts (set old first e) new first group next × (2 * length group ≤ n)
    → (group : List Entry) × IsGroup table x group × Puts old new first group next × (2 * length group ≤ n)
group_again table x old new first next n e (group, (content, has, (below, elements, is)), puts, fewer) =
    let head : Entry = head_entry x content (length below) in
    let again : placed (set old first e) first (head ∷ below) ≡ placed old first (head ∷ below) = ap (λ t. placed t (first + 1) below) (set-set old first e head) in (
      group,
      (content, has, (below, elements, is)),
      (puts.0 ∙ ap (placed (set old first e) first) is ∙ again ∙ sym (ap (placed old first) is), puts.1),
      fewer,
    )

-- the entries of several groups
abbrev pub joined : List (List Entry) → List Entry
joined groups = flat_map (λ group. group) groups

-- the entries of the attributes before `rest` are stored
pub record GroupsTo (table : Table) (list rest : List ℕ) (old new : List Entry) (next : ℕ) : Type 0 where
  pub items : List Item
  pub walks : Walks (length list) list items rest
  pub groups : List (List Entry)
  pub each : AllZip (IsGroup table) items groups
  pub puts : Puts old new 0 (joined groups) next
  pub room : 2 * length (joined groups) + length rest ≤ length list

pub groups_none : (table : Table) (list : List ℕ) (old : List Entry) → GroupsTo table list list old old 0
groups_none table list old = record { items = []; walks = refl; groups = []; each = tt; puts = (refl, refl); room = omega arith }

-- an attribute and its header are no longer than the bytes before the next
split_room : (s : List ℕ) (b : NlaBuffer) (t : List ℕ) → SplitsFirst s b t → 4 + length (payload_of b) + length t ≤ length s
split_room s b t h =
    let short = split_short s b t h in
    let step = min (pad (4 + length (payload_of b))) (length s) in
    omega (arith, short.0, ap length h.1, length-drop step s)

pub groups_more : (table : Table) (list rest after : List ℕ) (old mid new : List Entry) (next next' at : ℕ) (b : NlaBuffer) → GroupsTo table list rest old mid next → SplitsFirst rest b after
    → at ≡ length list - length rest → (group : List Entry) × IsGroup table (at, b) group × Puts mid new next group next' × (2 * length group ≤ 4 + length (payload_of b))
    → GroupsTo table list after old new next'
groups_more table list rest after old mid new next next' at b h split place (group, is, puts, fewer) =
    let item : Item = (length list - length rest, b) in
    let front = joined h.groups in
    let one : joined (h.groups ++ group ∷ []) ≡ front ++ group = flat_map-append (λ g. g) h.groups (group ∷ []) ∙ ap (λ t. front ++ t) (append-nil group) in
    record {
      items = h.items ++ item ∷ [];
      walks = walks_more (length list) list h.items rest b after h.walks split;
      groups = h.groups ++ group ∷ [];
      each = zip_more (IsGroup table) h.items h.groups item group h.each (subst (λ n. IsGroup table (n, b) group) place is);
      puts = (
        puts.0 ∙ ap₂ (λ places i. placed places i group) h.puts.0 h.puts.1 ∙ sym (placed-append old 0 front group) ∙ ap (placed old 0) (sym one),
        omega (arith, puts.1, h.puts.1, ap length one, length-append front group),
      );
      room = omega (arith, split_room rest b after split, h.room, fewer, ap length one, length-append front group);
    }

-- ---- the places in one piece

pub placed_past : (places : List Entry) (i : ℕ) (es : List Entry) → length places ≤ i → placed places i es ≡ places
placed_past places i [] h = refl
placed_past places i (e ∷ es) h = ap (λ t. placed t (i + 1) es) (set_past places i e h) ∙ placed_past places (i + 1) es (omega arith)

placed_after : (front old es : List Entry) (i : ℕ) → length front ≡ i → placed (front ++ old) i es ≡ front ++ (take (length old) es ++ drop (length es) old)
placed_after front [] es i h =
    let all = append-nil front in
    ap (λ t. placed t i es) all ∙ placed_past front i es (omega (arith, h)) ∙ sym (ap (λ t. front ++ t) (nothing es) ∙ all)
  where
    nothing : (es : List Entry) → take 0 es ++ drop (length es) [] ≡ []
    nothing [] = refl
    nothing (e ∷ es) = refl
placed_after front (o ∷ old) [] i h = refl
placed_after front (o ∷ old) (e ∷ es) i h =
    let more = front ++ e ∷ [] in
    let size : length more ≡ i + 1 = omega (arith, h, length-append front (e ∷ [])) in
    ap (λ t. placed t (i + 1) es) (set_at front o old e i h ∙ sym (append_assoc front (e ∷ []) old))
    ∙ placed_after more old es (i + 1) size ∙ append_assoc front (e ∷ []) (take (length old) es ++ drop (length es) old)

-- the entries are in the first places, as far as there are places
pub placed_whole : (old es : List Entry) → placed old 0 es ≡ take (length old) es ++ drop (length es) old
placed_whole old es = placed_after [] old es 0 refl
