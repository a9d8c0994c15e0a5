-- What the bytes of an input have, if its parts have it too, is had by what its units tell.
use Rattle.std.proofs.Common.{◌≡◌, ◌+◌, ◌-◌, ◌==◌, ◌&&◌, ◌||◌, if◌then◌else◌, nat_lt, zero, suc, ℕ, Bool, true, false, List, [], ◌∷◌, ◌++◌, length, take, drop, slice_get, Option, Some, None, IfSome, Result, Ok, Err, sym, subst}
use Rattle.std.specs.List.{AllByRecursion}
use Rattle.link_capture.specs.declared.error.InputError.{InputError}
use Rattle.link_capture.specs.declared.event.Time.{Time}
use Rattle.link_capture.specs.declared.form.Form.{Form}
use Rattle.link_capture.specs.declared.form.Form.TheVariants as forms
use Rattle.link_capture.specs.declared.options.Clock.{Clock}
use Rattle.link_capture.specs.declared.order.Order.{Order}
use Rattle.link_capture.specs.declared.order.Order.TheVariants.{Little}
use Rattle.link_capture.specs.declared.pcapng.Interface.{Interface}
use Rattle.link_capture.specs.Block.{After, sectioned, with_clock, IsDescribed, Small, TooMany, Read, time_in, packet_from, packed, other, IsBlock, Unequal, Describes, Others}
use Rattle.link_capture.specs.Form.{section}
use Rattle.link_capture.specs.Front.{order_of}
use Rattle.link_capture.specs.Order.{number_at}
use Rattle.link_capture.specs.Pcap.{form_after, netlink}
use Rattle.link_capture.specs.Raw.{streamed}
use Rattle.link_capture.specs.Meaning.{UnitMeaning, Nothing, APacket, AMessage, ATime, Captured, State}
use Rattle.link_capture.specs.Unit.{after_pcap, IsBlockIn, IsTakenAs, Leads}

-- B says what bytes have, P what packets have, and I what interfaces have
module _ (B : List ℕ → Type 0) (P : Captured → Type 0) (I : Interface → Type 0) where
  -- parts of bytes have it too, and so have the packets and interfaces that are read from bytes
  pub record AreKept : Type 0 where
    pub taken : (n : ℕ) (s : List ℕ) → B s → B (take n s)
    pub dropped : (n : ℕ) (s : List ℕ) → B s → B (drop n s)
    pub described : (order : Order) (u : List ℕ) (clock : Clock) → B u → I (record { link_type = number_at order 2 8 u; clock = clock })
    pub packed : (time : Time) (order : Order) (u : List ℕ) (interface : Interface) (bytes : List ℕ) → B u → I interface → B bytes
        → P (record { time = time; original = number_at order 4 24 u; link_type = interface.link_type; bytes = bytes })
    pub recorded : (time : Time) (order : Order) (u bytes : List ℕ) → B u → B bytes → P (record { time = time; original = number_at order 4 12 u; link_type = netlink; bytes = bytes })

  abbrev pub Tells : UnitMeaning → Type 0
  Tells Nothing = Unit {0}
  Tells (APacket p) = P p
  Tells (AMessage bytes) = B bytes
  Tells (ATime time) = Unit {0}

  pub record HasAll (meaning : UnitMeaning) : Type 0 where
    pub all : Tells meaning

  -- likewise for what a unit means, if it is one, and for the interfaces that are known after it
  abbrev Knows : After → Type 0
  Knows (Ok known) = HasAll known.0 × AllByRecursion I known.1.interfaces
  Knows (Err error) = Unit {0}

  record Gives (after : After) : Type 0 where
    pub gives : Knows after

  either : (b : Bool) {s t : After} → Gives s → Gives t → Gives (if b then s else t)
  either true h k = h
  either false h k = k

  nothing : (state : State) → AllByRecursion I state.interfaces → Gives (Ok (Nothing, state))
  nothing state h = record { gives = (record { all = tt }, h) }

  failure : (error : InputError) → Gives (Err error)
  failure error = record { gives = tt }

  header : (is : List Interface) (form : Result Form InputError) → AllByRecursion I is → Gives (after_pcap is form)
  header is (Ok form) h = nothing _ h
  header is (Err error) h = failure error

  section_has : (order : Order) (u : List ℕ) → Gives (sectioned order u)
  section_has order u =
      either (nat_lt (length u) 28) (failure _)
      (either ((number_at order 2 12 u == 1) && ((number_at order 2 14 u == 0) || (number_at order 2 14 u == 2))) (nothing _ tt) (failure _))

  one_more : (is : List Interface) (interface : Interface) → AllByRecursion I is → I interface → AllByRecursion I (is ++ interface ∷ [])
  one_more [] interface h k = (k, tt)
  one_more (first ∷ is) interface h k = (h.0, one_more is interface h.1 k)

  at_place : (is : List Interface) (k : ℕ) → AllByRecursion I is → IfSome (slice_get is k) I
  at_place [] k h = tt
  at_place (interface ∷ is) zero h = h.0
  at_place (interface ∷ is) (suc k) h = at_place is k h.1

  module _ (kept : AreKept) where
    -- blocks
    clock_has : (order : Order) (is : List Interface) (u : List ℕ) (clock : Result Clock InputError) → AllByRecursion I is → B u → Gives (with_clock order is u clock)
    clock_has order is u (Ok clock) h b = nothing _ (one_more is _ h (kept.described order u clock b))
    clock_has order is u (Err error) h b = failure error

    described_has : (order : Order) (is : List Interface) (u : List ℕ) (after : After) → AllByRecursion I is → B u → IsDescribed order is u after → Gives after
    described_has order is u after h b (Small short e) = subst Gives (sym e) (failure _)
    described_has order is u after h b (TooMany long full e) = subst Gives (sym e) (failure _)
    described_has order is u after h b (Read long free clock read e) = subst Gives (sym e) (clock_has order is u clock h b)

    from_has : (order : Order) (is : List Interface) (u : List ℕ) (interface : Option Interface) → AllByRecursion I is → B u → IfSome interface I → Gives (packet_from order is u interface)
    from_has order is u None h b known = failure _
    from_has order is u (Some interface) h b known =
        let captured = number_at order 4 20 u in
        let bytes = kept.taken captured (drop 28 u) (kept.dropped 28 u b) in
        either (nat_lt (length u - 32) captured) (failure _)
        (record { gives = (record { all = kept.packed (time_in order interface.clock u) order u interface (take captured (drop 28 u)) b known bytes }, h) })

    packed_has : (order : Order) (is : List Interface) (u : List ℕ) → AllByRecursion I is → B u → Gives (packed order is u)
    packed_has order is u h b =
        either (nat_lt (length u) 32) (failure _) (from_has order is u (slice_get is (number_at order 4 8 u)) h b (at_place is (number_at order 4 8 u) h))

    other_has : (order : Order) (is : List Interface) (u : List ℕ) (kind : ℕ) → AllByRecursion I is → B u → Gives (other order is u kind)
    other_has order is u kind h b =
        either (kind == section) (section_has order u)
        (either (kind == 6) (packed_has order is u h b) (either ((kind == 2) || (kind == 3)) (failure _) (nothing _ h)))

    block_has : (order : Option Order) (is : List Interface) (u : List ℕ) (after : After) → AllByRecursion I is → B u → IsBlockIn order is u after → Gives after
    block_has None is u after h b e = subst Gives (sym e) (failure _)
    block_has (Some order) is u after h b (Unequal differ e) = subst Gives (sym e) (failure _)
    block_has (Some order) is u after h b (Describes equal kind described) = described_has order is u after h b described
    block_has (Some order) is u after h b (Others equal kind e) = subst Gives (sym e) (other_has order is u (number_at order 4 0 u) h b)

    -- units
    either_has : (x : Bool) {s t : UnitMeaning} → HasAll s → HasAll t → HasAll (if x then s else t)
    either_has true h k = h
    either_has false h k = k

    streamed_has : (u : List ℕ) → B u → HasAll (streamed u)
    streamed_has u b = either_has ((number_at Little 2 4 u == 15) && (length u == 24)) (record { all = tt }) (record { all = b })

    taken_gives : (form : Form) (is : List Interface) (u : List ℕ) (after : After) → AllByRecursion I is → B u → IsTakenAs form is u after → Gives after
    taken_gives (forms.Pcap order digits) is u after h b e = subst Gives (sym e) (header is (form_after order digits u) h)
    taken_gives (forms.Records order digits) is u after h b e =
        subst Gives (sym e) (record { gives = (record { all = kept.recorded _ order u (drop 16 u) b (kept.dropped 16 u b) }, h) })
    taken_gives (forms.Blocks order) is u after h b block = block_has (order_of order u) is u after h b block
    taken_gives forms.Messages is u after h b e = subst Gives (sym e) (record { gives = (streamed_has u b, h) })

    -- a unit, and what is known after it
    pub taken_has : (state next : State) (u : List ℕ) (meaning : UnitMeaning) → AllByRecursion I state.interfaces → B u → IsTakenAs state.form state.interfaces u (Ok (meaning, next))
        → HasAll meaning × AllByRecursion I next.interfaces
    taken_has state next u meaning h b taken = (taken_gives state.form state.interfaces u (Ok (meaning, next)) h b taken).gives

    -- all units of some bytes
    pub leads_has : (state : State) (at : ℕ) (s : List ℕ) (units : List UnitMeaning) (last : State) (end : ℕ) (left : List ℕ) → AllByRecursion I state.interfaces → B s → Leads state at s units last end left
        → AllByRecursion HasAll units
    leads_has state at s [] last end left h b leads = tt
    leads_has state at s (meaning ∷ units) last end left h b (next, (size, unit, leads)) =
        let here = taken_has state next (take unit.n s) meaning h (kept.taken unit.n s b) unit.taken in
        (here.0, leads_has next (at + size) (drop size s) units last end left here.1 (kept.dropped size s b) leads)
