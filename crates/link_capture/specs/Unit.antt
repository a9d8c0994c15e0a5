-- The units of an input.
use Rattle.std.specs.Prelude.{◌≡◌, ◌≢◌, ◌<◌, ◌≤◌, ℕ, ◌+◌, min, Bool, true, false, List, [], ◌∷◌, ◌++◌, length, take, drop, Option, Some, None, Result, Ok, Err}
use Rattle.link_capture.specs.declared.capture.Next.{Next}
use Rattle.link_capture.specs.declared.capture.Next.TheVariants as nexts
use Rattle.link_capture.specs.declared.error.InputError.{InputError}
use Rattle.link_capture.specs.declared.error.InputError.TheVariants as errors
use Rattle.link_capture.specs.declared.error.Size.TheVariants as sizes
use Rattle.link_capture.specs.declared.event.Event.{Event}
use Rattle.link_capture.specs.declared.form.Form.{Form}
use Rattle.link_capture.specs.declared.form.Form.TheVariants as forms
use Rattle.link_capture.specs.declared.front.Front.TheVariants as fronts
use Rattle.link_capture.specs.declared.order.Order.{Order}
use Rattle.link_capture.specs.declared.pcapng.Interface.{Interface}
use Rattle.link_capture.specs.Block.{After, IsBlock}
use Rattle.link_capture.specs.Front.{front_of, head_of, size_of, order_of}
use Rattle.link_capture.specs.Pcap.{form_after, recorded}
use Rattle.link_capture.specs.Raw.{streamed}
use Rattle.link_capture.specs.Meaning.{UnitMeaning, Nothing, State, meaning_of}

-- what is known after a unit, by what a function returns and the state then
abbrev pub after_unit : State → Result Event InputError → After
after_unit state (Ok event) = Ok (meaning_of event, state)
after_unit state (Err error) = Err error

-- ---- a whole unit

abbrev pub after_pcap : List Interface → Result Form InputError → After
after_pcap is (Ok form) = Ok (Nothing, record { form = form; interfaces = is })
after_pcap is (Err error) = Err error

-- a block in its order, which a section header may lack
abbrev pub IsBlockIn : Option Order → List Interface → List ℕ → After → Type 0
IsBlockIn None is u after = after ≡ Err errors.NoMagic
IsBlockIn (Some order) is u after = IsBlock order is u after

-- what a whole unit u means, in this form and with these interfaces
abbrev pub IsTakenAs : Form → List Interface → List ℕ → After → Type 0
IsTakenAs (forms.Pcap order digits) is u after = after ≡ after_pcap is (form_after order digits u)
IsTakenAs (forms.Records order digits) is u after = after ≡ Ok (recorded order digits u, record { form = forms.Records order digits; interfaces = is })
IsTakenAs (forms.Blocks order) is u after = IsBlockIn (order_of order u) is u after
IsTakenAs forms.Messages is u after = after ≡ Ok (streamed u, record { form = forms.Messages; interfaces = is })

abbrev pub IsTaken : State → List ℕ → After → Type 0
IsTaken state u after = IsTakenAs state.form state.interfaces u after

-- ---- the unit at the front of the bytes s

-- a unit, what it means, how many bytes it has with its padding, and what is known after it
pub record IsUnit (state : State) (s : List ℕ) (meaning : UnitMeaning) (size : ℕ) (next : State) : Type 0 where
  pub n : ℕ
  pub gap : ℕ
  pub front : front_of state.form s ≡ fronts.Sized n gap
  pub whole : n ≤ length s
  pub taken : IsTaken state (take n s) (Ok (meaning, next))
  pub all : size ≡ min (n + gap) (length s)

-- no unit, and why: the bytes end in the head of one, or after it; its start has an error; or the whole
pub data IsError (state : State) (s : List ℕ) (error : InputError) : Type 0 where
  Short : front_of state.form s ≡ fronts.Short → error ≡ errors.Short (head_of state.form) (length s) → IsError state s error
  Cut : (n gap : ℕ) → front_of state.form s ≡ fronts.Sized n gap → length s < n → error ≡ errors.Overrun (size_of state.form) n (length s) → IsError state s error
  Start : front_of state.form s ≡ fronts.Wrong error → IsError state s error
  Whole : (n gap : ℕ) → front_of state.form s ≡ fronts.Sized n gap → n ≤ length s → IsTaken state (take n s) (Err error) → IsError state s error

-- an error other than that the bytes end within a unit, in its head or after it
abbrev pub IsFinal : InputError → Type 0
IsFinal (errors.Short head left) = ⊥
IsFinal (errors.Overrun size n left) = size ≡ sizes.Captured
IsFinal error = Unit {0}

-- ---- an input

-- the units of s from offset `at` lead from one state to another, where the bytes `left` are left at offset `end`
abbrev pub Leads : State → ℕ → List ℕ → List UnitMeaning → State → ℕ → List ℕ → Type 0
Leads state at s [] last end left = (last ≡ state) × (end ≡ at) × (left ≡ s)
Leads state at s (meaning ∷ units) last end left = (next : State) × ((size : ℕ) × IsUnit state s meaning size next × Leads next (at + size) (drop size s) units last end left)

-- what ends an input, of which the bytes s are left at offset `at`: nothing, or an error
abbrev pub IsEnd : State → ℕ → List ℕ → Option (ℕ × InputError) → Type 0
IsEnd state at s None = s ≡ []
IsEnd state at s (Some fault) = (s ≢ []) × (fault.0 ≡ at) × IsError state s fault.1

-- what the units of an input in this form mean, and what ends it
pub record Reads (form : Form) (s : List ℕ) (units : List UnitMeaning) (fault : Option (ℕ × InputError)) : Type 0 where
  pub last : State
  pub end : ℕ
  pub left : List ℕ
  pub leads : Leads (record { form = form; interfaces = [] }) 0 s units last end left
  pub ends : IsEnd last end left fault

-- ---- a call

-- the bytes s are too few to say what is at the front: for the head of a unit, or for the whole
pub data IsTooShort (state : State) (s : List ℕ) : Type 0 where
  Head : front_of state.form s ≡ fronts.Short → IsTooShort state s
  Rest : (n gap : ℕ) → front_of state.form s ≡ fronts.Sized n gap → length s < n + gap → IsTooShort state s

-- `more` may follow some bytes: nothing does, if they are the last
abbrev pub Follows : Bool → List ℕ → Type 0
Follows is_last more = is_last ≡ true → more ≡ []

-- what is at the front of the bytes s, and what is known then, whatever follows s
abbrev pub IsNext : State → List ℕ → Bool → Next → State → Type 0
IsNext state s is_last nexts.More new = (new ≡ state) × (is_last ≡ false) × IsTooShort state s
IsNext state s is_last nexts.End new = (new ≡ state) × (is_last ≡ true) × (s ≡ [])
IsNext state s is_last (nexts.Unit event size) new = (0 < size) × (size ≤ length s) × ((more : List ℕ) → Follows is_last more → IsUnit state (s ++ more) (meaning_of event) size new)
IsNext state s is_last (nexts.Wrong error) new = (new ≡ state) × ((more : List ℕ) → Follows is_last more → ((s ++ more) ≢ []) × IsError state (s ++ more) error)
