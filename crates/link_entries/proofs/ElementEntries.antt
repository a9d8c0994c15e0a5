-- The entries of the elements of a list: numbers of an array, attributes of a nested list, and addresses. One more, and all.
use Rattle.std.proofs.Common.{◌≡◌, ℕ, zero, suc, ◌+◌, ◌*◌, ◌/◌, ◌≤◌, List, [], ◌∷◌, ◌++◌, length, refl, sym, ap, ap₂, ◌∙◌, arith, set, ◌-◌, subst, ◌==◌, Bool, true, false, cond, Option, Some}
use Rattle.link_base.specs.declared.rows.form.ArrayOf.{ArrayOf}
use Rattle.link_base.specs.declared.rows.form.ArrayOf.TheVariants.{U16}
use Rattle.link_base.specs.Forms.{size_in}
use Rattle.link_base.specs.Layout.{number_at, numbers_at}
use Rattle.link_entries.specs.declared.entry.Entry.{Entry}
use Rattle.link_entries.specs.Entry.{placed}
use Rattle.link_entries.specs.Flat.{indexed, number_entry, number_entries, Puts, IsElement, address_entry, is_address, AreAddresses}
use Rattle.link_entries.proofs.Placed.{placed_more, indexed_more, length-indexed, zip_more}
use Rattle.std.specs.List.{AllZip, filter}
use Rattle.std.proofs.lemmas.List.{length-append, append-nil}
use Rattle.link_base.specs.declared.wire.buffer.NlaBuffer.{NlaBuffer}
use Rattle.link_base.specs.Buffer.{SplitsFirst, payload_of}
use Rattle.link_base.specs.Table.{Table}
use Rattle.link_messages.specs.Walk.{Item, Walks}
use Rattle.link_base.proofs.ViewLemmas.{split_less}
use Rattle.link_messages.proofs.Walking.{walks_more, Reached, reached_more}
use Rattle.std.proofs.lemmas.List.Elements.{filter-append}
use Rattle.link_entries.specs.Finding.{last_inner}
use Rattle.link_entries.proofs.LastOf.{last_more}

-- one more number
numbers_more : (width n offset : ℕ) (p : List ℕ) → numbers_at width (suc n) offset p ≡ numbers_at width n offset p ++ number_at width (offset + n * width) p ∷ []
numbers_more width zero offset p = let here : offset ≡ offset + 0 * width = omega arith in ap (λ at. number_at width at p ∷ []) here
numbers_more width (suc n) offset p =
    let there : offset + width + n * width ≡ offset + suc n * width = omega arith in
    ap (λ rest. number_at width offset p ∷ rest) (numbers_more width n (offset + width) p ∙ ap (λ at. numbers_at width n (offset + width) p ++ number_at width at p ∷ []) there)

pub length-numbers_at : (width n offset : ℕ) (p : List ℕ) → length (numbers_at width n offset p) ≡ n
length-numbers_at width zero offset p = refl
length-numbers_at width (suc n) offset p = let more = length-numbers_at width n (offset + width) p in omega arith

module _ (k at : ℕ) (a : ArrayOf) (p : List ℕ) where
  abbrev width : ℕ
  width = size_in a

  -- the entries of the first i numbers
  abbrev pub front : ℕ → List Entry
  front i = indexed (number_entry k at a) 0 (numbers_at width i 0 p)

  length-front : (i : ℕ) → length (front i) ≡ i
  length-front i = length-indexed (number_entry k at a) 0 (numbers_at width i 0 p) ∙ length-numbers_at width i 0 p

  front_more : (i : ℕ) → front (i + 1) ≡ front i ++ number_entry k at a i (number_at width (i * width) p) ∷ []
  front_more i =
      let next : i + 1 ≡ suc i = omega arith in
      let xs = numbers_at width i 0 p in
      let x = number_at width (0 + i * width) p in
      let here : 0 + i * width ≡ i * width = omega arith in
      let index : 0 + length xs ≡ i = omega (arith, length-numbers_at width i 0 p) in
      ap front next ∙ ap (indexed (number_entry k at a) 0) (numbers_more width i 0 p) ∙ indexed_more (number_entry k at a) 0 xs x
      ∙ ap (λ t. front i ++ t ∷ []) (ap₂ (λ j n. number_entry k at a j (number_at width n p)) index here)

  -- one more entry is stored
  pub front_stored : (old mid new : List Entry) (first i place : ℕ) (e : Entry) → mid ≡ placed old first (front i) → place ≡ first + i
      → e ≡ number_entry k at a i (number_at width (i * width) p) → new ≡ set mid place e → new ≡ placed old first (front (i + 1))
  front_stored old mid new first i place e before at_place is stored =
      let index : place ≡ first + length (front i) = omega (arith, length-front i) in
      stored ∙ ap (λ t. set mid place t) is ∙ ap₂ (λ places n. set places n (number_entry k at a i (number_at width (i * width) p))) before index
      ∙ sym (placed_more old first (front i) (number_entry k at a i (number_at width (i * width) p))) ∙ ap (placed old first) (sym (front_more i))

  -- all are
  pub front_all : (old new : List Entry) (first count next : ℕ) → count ≡ length p / width → new ≡ placed old first (front count) → next ≡ first + count
      → Puts old new first (number_entries k at a p) next
  front_all old new first count next all stored e =
      let same : front count ≡ number_entries k at a p = ap front all in
      (stored ∙ ap (placed old first) same, omega (arith, length-front count, ap length same))

  -- an array has no more numbers than bytes
  pub length-number_entries : (count : ℕ) → count ≡ length p / width → length (number_entries k at a p) ≡ count
  length-number_entries count all = sym (ap length (ap front all)) ∙ length-front count

-- an array has at most a number for two bytes
pub few_numbers : (k at : ℕ) (a : ArrayOf) (p : List ℕ) → 2 * length (number_entries k at a p) ≤ length p
few_numbers k at U16 p = omega (arith, length-number_entries k at U16 p (length p / 2) refl)
few_numbers k at a p = omega (arith, length-number_entries k at a p (length p / size_in a) refl)

-- the elements before `rest` are stored
pub record ElementsTo (table : Table) (k at : ℕ) (list rest : List ℕ) (old new : List Entry) (first next : ℕ) : Type 0 where
  pub items : List Item
  pub walks : Walks (length list) list items rest
  pub entries : List Entry
  pub each : AllZip (λ x e. IsElement table k (at + (x.0 + 4)) x.1 e) items entries
  pub puts : Puts old new first entries next
  pub room : 2 * length entries + length rest ≤ length list

pub elements_none : (table : Table) (k at : ℕ) (list : List ℕ) (old : List Entry) (first : ℕ) → ElementsTo table k at list list old old first first
elements_none table k at list old first = record { items = []; walks = refl; entries = []; each = tt; puts = (refl, omega arith); room = omega arith }

pub elements_more : (table : Table) (k at : ℕ) (list rest after : List ℕ) (old mid new : List Entry) (first next offset : ℕ) (b : NlaBuffer) (e : Entry)
    → ElementsTo table k at list rest old mid first next → SplitsFirst rest b after → offset ≡ at + ((length list - length rest) + 4) → IsElement table k offset b e → new ≡ set mid next e
    → ElementsTo table k at list after old new first (next + 1)
elements_more table k at list rest after old mid new first next offset b e h split place is stored =
    let item : Item = (length list - length rest, b) in
    record {
      items = h.items ++ item ∷ [];
      walks = walks_more (length list) list h.items rest b after h.walks split;
      entries = h.entries ++ e ∷ [];
      each = zip_more (λ x f. IsElement table k (at + (x.0 + 4)) x.1 f) h.items h.entries item e h.each (subst (λ o. IsElement table k o b e) place is);
      puts = (
        stored ∙ ap₂ (λ places n. set places n e) h.puts.0 h.puts.1 ∙ sym (placed_more old first h.entries e),
        omega (arith, h.puts.1, length-append h.entries (e ∷ [])),
      );
      room = omega (arith, split_less rest b after split, h.room, length-append h.entries (e ∷ []));
    }

-- ---- an entry more, if a test holds

grown : (b : Bool) (es : List Entry) (e : Entry) (m m' : ℕ) → m' ≡ cond b (m + 1) m → (m' + length es ≡ m + length (es ++ cond b (e ∷ []) [])) × (length (es ++ cond b (e ∷ []) []) ≤ length es + 1)
grown true es e m m' h = let size = length-append es (e ∷ []) in (omega (arith, h, size), omega (arith, size))
grown false es e m m' h = let size = length-append es [] in (omega (arith, h, size), omega (arith, size))

placed_if : (b : Bool) (old : List Entry) (first : ℕ) (es : List Entry) (e : Entry) → cond b (set (placed old first es) (first + length es) e) (placed old first es) ≡ placed old first (es ++ cond b (e ∷ []) [])
placed_if true old first es e = sym (placed_more old first es e)
placed_if false old first es e = ap (placed old first) (sym (append-nil es))

last_if : (b : Bool) (i : ℕ) (es : List Entry) (e : Entry) → cond b (cond (e.inner == i) (Some e) (last_inner i es)) (last_inner i es) ≡ last_inner i (es ++ cond b (e ∷ []) [])
last_if true i es e = sym (last_more (λ d. d.inner == i) es e)
last_if false i es e = ap (last_inner i) (sym (append-nil es))

module _ (k at n : ℕ) where
  -- the entry of an address
  abbrev entry_at : ℕ → Item → Entry
  entry_at i x = address_entry k i (at + (x.0 + 4)) (payload_of x.1)

  -- those of the addresses among some items
  abbrev pub entries_of : List Item → List Entry
  entries_of items = indexed entry_at 0 (filter (is_address n) items)

  -- one item more
  entries_more : (items : List Item) (x : Item) → entries_of (items ++ x ∷ []) ≡ entries_of items ++ cond (is_address n x) (entry_at (length (entries_of items)) x ∷ []) []
  entries_more items x =
      let front = filter (is_address n) items in
      let index : 0 + length front ≡ length (entries_of items) = omega (arith, length-indexed entry_at 0 front) in
      ap (indexed entry_at 0) (filter-append (is_address n) items (x ∷ []))
      ∙ elim (is_address n x) as (λ b. indexed entry_at 0 (front ++ cond b (x ∷ []) []) ≡ entries_of items ++ cond b (entry_at (length (entries_of items)) x ∷ []) []) [
        | true ↦ indexed_more entry_at 0 front x ∙ ap (λ i. entries_of items ++ entry_at i x ∷ []) index
        | false ↦ ap (indexed entry_at 0) (append-nil front) ∙ sym (append-nil (entries_of items))
      ]

  -- one attribute more
  entries_next : (list rest after : List ℕ) (es : List Entry) (i offset : ℕ) (x : NlaBuffer) → Reached entries_of list es rest → SplitsFirst rest x after → i ≡ length es → offset ≡ at + ((length list - length rest) + 4)
      → Reached entries_of list (es ++ cond (length (payload_of x) == n) (address_entry k i offset (payload_of x) ∷ []) []) after
  entries_next list rest after es i offset x h split count place =
      let more = λ (j : ℕ) (o : ℕ). cond (length (payload_of x) == n) (address_entry k j o (payload_of x) ∷ []) [] in
      reached_more entries_of list rest after es (es ++ more i offset) x h split (λ items is.
      ap₂ (λ j o. es ++ more j o) (count ∙ ap length is) place ∙ ap (λ l. l ++ more (length (entries_of items)) (at + ((length list - length rest) + 4))) is
      ∙ sym (entries_more items (length list - length rest, x)))

  -- ---- addresses that are stored

  -- the addresses before `rest` are stored
  pub record AddressesTo (list rest : List ℕ) (old new : List Entry) (first next : ℕ) : Type 0 where
    pub entries : List Entry
    pub reached : Reached entries_of list entries rest
    pub puts : Puts old new first entries next
    pub room : 2 * length entries + length rest ≤ length list

  -- one attribute more
  pub addresses_more : (list rest after : List ℕ) (old mid new : List Entry) (first next next' offset : ℕ) (x : NlaBuffer) → AddressesTo list rest old mid first next → SplitsFirst rest x after
      → offset ≡ at + ((length list - length rest) + 4) → next' ≡ cond (length (payload_of x) == n) (next + 1) next
      → new ≡ cond (length (payload_of x) == n) (set mid next (address_entry k (next - first) offset (payload_of x))) mid → AddressesTo list after old new first next'
  addresses_more list rest after old mid new first next next' offset x h split place e stored =
      let b = length (payload_of x) == n in
      let last : Entry = address_entry k (next - first) offset (payload_of x) in
      let (count, few) = grown b h.entries last next next' e in
      record {
        entries = h.entries ++ cond b (last ∷ []) [];
        reached = entries_next list rest after h.entries (next - first) offset x h.reached split (omega (arith, h.puts.1)) place;
        puts = (stored ∙ ap₂ (λ places j. cond b (set places j last) places) h.puts.0 h.puts.1 ∙ placed_if b old first h.entries last, omega (arith, h.puts.1, count));
        room = omega (arith, split_less rest x after split, h.room, few);
      }

  -- ---- an address at an index

  -- the address at the index i among those before `rest`
  pub record AddressTo (i : ℕ) (list rest : List ℕ) (index : ℕ) (found : Option Entry) : Type 0 where
    pub entries : List Entry
    pub reached : Reached entries_of list entries rest
    pub count : index ≡ length entries
    pub last : found ≡ last_inner i entries
    pub room : index + length rest ≤ length list

  -- one attribute more
  pub address_more : (i : ℕ) (list rest after : List ℕ) (index index' : ℕ) (found found' : Option Entry) (offset : ℕ) (x : NlaBuffer) → AddressTo i list rest index found → SplitsFirst rest x after
      → offset ≡ at + ((length list - length rest) + 4)
      → found' ≡ cond (length (payload_of x) == n) (cond (index == i) (Some (address_entry k index offset (payload_of x))) found) found
      → index' ≡ cond (length (payload_of x) == n) (index + 1) index → AddressTo i list after index' found'
  address_more i list rest after index index' found found' offset x h split place e counted =
      let b = length (payload_of x) == n in
      let last : Entry = address_entry k index offset (payload_of x) in
      let (count, few) = grown b h.entries last index index' counted in
      record {
        entries = h.entries ++ cond b (last ∷ []) [];
        reached = entries_next list rest after h.entries index offset x h.reached split h.count place;
        count = omega (arith, h.count, count);
        last = e ∙ ap (λ f. cond b (cond (index == i) (Some last) f) f) h.last ∙ last_if b i h.entries last;
        room = omega (arith, split_less rest x after split, h.room, h.count, count, few);
      }

  -- the address at the index in a whole list
  pub address_found : (i : ℕ) (list rest : List ℕ) (index : ℕ) (found : Option Entry) → AddressTo i list rest index found → rest ≡ [] → (es : List Entry) × AreAddresses k at n list es × (found ≡ last_inner i es)
  address_found i list rest index found h end = (h.entries, (h.reached.items, record { rest = rest; walks = h.reached.walks; end = end }, h.reached.is), h.last)
