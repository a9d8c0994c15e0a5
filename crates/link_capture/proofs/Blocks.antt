-- The blocks of a pcapng file.
use Rattle.std.proofs.Common.{◌≡◌, ℕ, ◌≤◌, List, length, Option, sym, ap, ◌∙◌, slice_get}
use Rattle.std.proofs.lemmas.Bool.{le-ltb, cond-false}
use Rattle.link_capture.specs.declared.order.Order.{Order}
use Rattle.link_capture.specs.declared.pcapng.Interface.{Interface}
use Rattle.link_capture.specs.Order.{number_at}
use Rattle.link_capture.specs.Block.{packed, packet_from}

-- a packet that is long enough
pub packed_by : (order : Order) (is : List Interface) (u : List ℕ) (i : ℕ) (found : Option Interface) → 32 ≤ length u → i ≡ number_at order 4 8 u → found ≡ slice_get is i → packet_from order is u found ≡ packed order is u
packed_by order is u i found long same e =
    ap (packet_from order is u) (e ∙ ap (slice_get is) same) ∙ sym (cond-false _ _ _ (le-ltb (length u) 32 long))
