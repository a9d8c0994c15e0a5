-- What is written of a list whose attributes hold lists of other sets, by any kind of output: lines, JSON, or the lists.
use Rattle.std.specs.Prelude.{◌≡◌, ℕ, zero, suc, ◌+◌, Bool, true, false, ◌&&◌, List, [], ◌++◌, Option, Some, None, Err}
use Rattle.std.specs.List.{flat_map, list_all, AllZip}
use Rattle.link_base.specs.declared.wire.buffer.NlaBuffer.{NlaBuffer}
use Rattle.link_base.specs.declared.wire.fault.Cause.{Cause}
use Rattle.link_base.specs.declared.wire.fault.DecodeFault.{DecodeFault}
use Rattle.link_base.specs.declared.wire.fault.DecodeFault.TheVariants as faults
use Rattle.link_base.specs.declared.views.content.Content.{Content}
use Rattle.link_base.specs.declared.views.content.Content.TheVariants as contents
use Rattle.link_base.specs.declared.views.content.Known.{Known}
use Rattle.link_base.specs.Frame.{kind_of}
use Rattle.link_base.specs.Buffer.{kind_field_of, payload_of}
use Rattle.link_base.specs.Labels.{label_in}
use Rattle.link_base.specs.Table.{Label, Table, Gives, label_at}
use Rattle.link_base.specs.Borrowed.{HasContent, table_within}
use Rattle.netlink_packet_route.specs.declared.family.Family.{Family}
use Rattle.netlink_packet_route.specs.declared.opening.Context.{Context}
use Rattle.netlink_packet_route.specs.Family.{table_of}
use Rattle.netlink_packet_route.specs.Opening.{holding_at, IsOpened}
use Rattle.link_messages.specs.declared.header.LinkHeader.{LinkHeader}
use Rattle.link_messages.specs.declared.list_visitor.HeldList.{HeldList}
use Rattle.link_messages.specs.Finding.{Stretch, stretch_of}
use Rattle.link_messages.specs.Held.{Answers, IsContextIn, header_before, list_in, context_in}
use Rattle.link_messages.specs.Walk.{Item, Walk}

-- ---- outputs

-- the outputs for several items, in order, and whether all of them are well
pub record EachShown {X Y : Type 0} (shows : X → List Y → Bool → Type 0) (xs : List X) (out : List Y) (whole : Bool) : Type 0 where
  pub answers : List (List Y × Bool)
  pub each : AllZip (λ x answer. shows x answer.0 answer.1) xs answers
  pub joined : out ≡ flat_map (λ answer. answer.0) answers
  pub all : whole ≡ list_all (λ answer. answer.1) answers

abbrev pub is_well : Option (ℕ × Cause) → Bool
is_well None = true
is_well (Some fault) = false

-- the outputs for a list: those for its attributes, each shown so, in order, and one for the error of a header; and whether
-- none is an error
pub record ShowsEach {Y : Type 0} (shows : Item → List Y → Bool → Type 0) (ending : Option (ℕ × Cause) → List Y) (list : List ℕ) (out : List Y) (whole : Bool) : Type 0 where
  pub items : List Item
  pub fault : Option (ℕ × Cause)
  pub walk : Walk list items fault
  pub front : List Y
  pub well : Bool
  pub each : EachShown shows items front well
  pub joined : out ≡ front ++ ending fault
  pub all : whole ≡ (well && is_well fault)

-- an output was added, and whether it is well
abbrev pub Added : {W Y : Type 0} → (W → W → List Y → Type 0) → (List Y → Bool → Type 0) → W → W → Bool → Type 0
Added {Y = Y} adds shows old new well = (out : List Y) × shows out well × adds old new out

-- what ends an output: whatever was added since it was begun, the output around that was added since then
abbrev pub Ends : {W Y : Type 0} → (W → W → List Y → Type 0) → (W → W → Type 0) → (List Y → List Y → Bool → Type 0) → W → W → Bool → Type 0
Ends {W = W} {Y = Y} adds begun around old new well = (a b : W) (inner : List Y) → begun a b → adds b old inner → Added adds (around inner) a new well

-- ---- attributes

-- the rows of a set; or of the attributes in its nested lists of type k
abbrev pub rows_in : Family → Option ℕ → Table
rows_in family k = table_within (table_of family) k

-- what is known of the type of an attribute
abbrev pub label_for : Table → NlaBuffer → Option Label
label_for table b = label_at table (kind_of (kind_field_of b))

-- all that is known of an attribute
pub record IsKnown (table : Table) (b : NlaBuffer) (known : Known) : Type 0 where
  pub content : HasContent table b known.content
  pub label : label_in known.label ≡ label_for table b

-- an attribute that holds a list: a nest, as `nla_nest_start` has it
pub record Nest : Type 0 where
  -- what is known of its type
  pub label : Option Label
  -- the set that it belongs to
  pub family : Family
  -- the set that reads the list; none if the list is nested
  pub set : Option Family
  -- the header before the list, if it is a peer
  pub header : Option LinkHeader
  pub list : Stretch

abbrev pub nest_of : HeldList → Nest
nest_of held = record { label = label_in held.label.now; family = held.family; set = held.set; header = held.header; list = stretch_of held.list }

-- the attribute b of a set, or of its nested lists of type k, which starts at offset `at`, and whose list this set reads
abbrev pub nest_at : Family → Option ℕ → Option Family → ℕ → NlaBuffer → Content → Nest
nest_at family k set at b content = record {
  label = label_for (rows_in family k) b;
  family = family;
  set = set;
  header = header_before content (payload_of b);
  list = list_in content (at + 4, payload_of b);
}

-- ---- an output

-- a kind of output, of pieces such as bytes of lines: what it has of an attribute. `level` is how many lists the attribute is
-- in, below the one that is shown
pub record Display (Y : Type 0) : Type 1 where
  -- whether attributes of a type are left out, if they decode
  pub omits : Context → Family → ℕ → Bool
  -- an error at an offset
  pub error : ℕ → Family → ℕ → DecodeFault → List Y
  -- an attribute that holds no list, of a set, or of its nested lists of a type
  pub leaf : Context → ℕ → Family → Option ℕ → NlaBuffer → Content → List Y → Type 0
  -- one that holds a list, from what is shown of the list, and whether that is well
  pub around : ℕ → Nest → List Y → Bool → List Y → Bool → Type 0

-- what is shown for a list of a set: the context, the level, the offset and the bytes; and whether it is well
abbrev pub Shower : Type 0 → Type 1
Shower Y = Context → ℕ → Family → Stretch → List Y → Bool → Type 0

-- likewise, if it is not left out
abbrev pub shows_unless : {Y : Type 0} → Bool → (List Y → Bool → Type 0) → List Y → Bool → Type 0
shows_unless true shows out well = (out ≡ []) × (well ≡ true)
shows_unless false shows out well = shows out well

module _ {Y : Type 0} (d : Display Y) where
  -- an attribute that holds a list which is shown so
  abbrev pub ShowsHeld : ℕ → Nest → (List Y → Bool → Type 0) → List Y → Bool → Type 0
  ShowsHeld level h shows out well = (inner : List Y) × (whole : Bool) × shows inner whole × d.around level h inner whole out well

  -- the attribute b of a set, or of its nested lists of type k, by the set that reads its list
  abbrev pub ShowsAnswered : Shower Y → Context → ℕ → ℕ → Family → Option ℕ → NlaBuffer → Content → Option Family → List Y → Bool → Type 0
  ShowsAnswered shows context level at family k b content None out well = d.leaf context level family k b content out × (well ≡ true)
  ShowsAnswered shows context level at family k b content (Some set) out well =
      ShowsHeld level (nest_at family k (Some set) at b content)
      (shows (context_in (header_before content (payload_of b)) context) (level + 1) set (list_in content (at + 4, payload_of b))) out well

  -- one that is no nested list; n levels of lists may be opened
  abbrev pub ShowsSingle : ℕ → Shower Y → Context → ℕ → ℕ → Family → Option ℕ → NlaBuffer → Content → List Y → Bool → Type 0
  ShowsSingle n shows context level at family k b content out well =
      (answer : Option Family) × Answers n k (IsOpened (holding_at context family k (kind_field_of b))) content answer
      × ShowsAnswered shows context level at family k b content answer out well

  -- an element of a nested list of type k, which starts at offset `base`
  abbrev pub ShowsInner : ℕ → Shower Y → Context → ℕ → ℕ → Family → ℕ → Item → List Y → Bool → Type 0
  ShowsInner n shows context level base family k x out well =
      (content : Content) × HasContent (rows_in family (Some k)) x.1 content × ShowsSingle n shows context level (base + x.0) family (Some k) x.1 content out well

  -- all of them
  abbrev pub ShowsInners : ℕ → Shower Y → Context → ℕ → ℕ → Family → ℕ → List ℕ → List Y → Bool → Type 0
  ShowsInners n shows context level base family k list out well =
      (inner : Context) × IsContextIn context list inner × (items : List Item) × Walk list items None × EachShown (ShowsInner n shows inner level base family k) items out well

  -- the attribute b of a set, which decodes and starts at offset `at`
  abbrev pub ShowsKnown : ℕ → Shower Y → Context → ℕ → ℕ → Family → NlaBuffer → Content → List Y → Bool → Type 0
  ShowsKnown n shows context level at family b (contents.List list flagged) out well =
      ShowsHeld level (nest_at family None None at b (contents.List list flagged))
      (ShowsInners n shows context (level + 1) (at + 4) family (kind_of (kind_field_of b)) list.now) out well
  ShowsKnown n shows context level at family b content out well = ShowsSingle n shows context level at family None b content out well

  abbrev pub ShowsDecoded : ℕ → Shower Y → Context → ℕ → ℕ → Family → NlaBuffer → List Y → Bool → Type 0
  ShowsDecoded n shows context level at family b out well =
      (content : Content) × HasContent (table_of family) b content × ShowsKnown n shows context level at family b content out well

  -- an attribute of a list at offset `base`: what it decodes to, or its error
  pub data ShowsItem (n : ℕ) (shows : Shower Y) (context : Context) (level base : ℕ) (family : Family) (x : Item) (out : List Y) (well : Bool) : Type 0 where
    Decodes : shows_unless (d.omits context family (kind_of (kind_field_of x.1))) (ShowsDecoded n shows context level (base + x.0) family x.1) out well
        → ShowsItem n shows context level base family x out well
    Fails : (fault : DecodeFault) → Gives (table_of family) (kind_field_of x.1) (payload_of x.1) (Err fault) → out ≡ d.error level family (base + x.0) fault → well ≡ false
        → ShowsItem n shows context level base family x out well

  -- ---- lists

  -- what ends a list: nothing, or the error of a header
  abbrev pub end_of : ℕ → Family → ℕ → Option (ℕ × Cause) → List Y
  end_of level family base None = []
  end_of level family base (Some fault) = d.error level family (base + fault.0) (faults.Frame fault.1)

  abbrev pub ShowsItems : ℕ → Shower Y → Shower Y
  ShowsItems n shows context level family list = ShowsEach (ShowsItem n shows context level list.0 family) (end_of level family list.0) list.1

  abbrev pub shows_none : Shower Y
  shows_none context level family list out well = ⊥

  -- a list that is opened where n levels may be
  abbrev pub shows_in : ℕ → Shower Y
  shows_in zero = shows_none
  shows_in (suc n) = ShowsItems n (shows_in n)

  -- a list of a set, and in it the lists that its attributes hold, through n levels
  abbrev pub Shows : ℕ → Shower Y
  Shows n = shows_in (suc n)
