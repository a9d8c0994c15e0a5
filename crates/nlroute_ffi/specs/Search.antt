-- The search for the last list of a set.
use Rattle.std.proofs.Common.{◌≡◌, List, [], ◌∷◌, ◌++◌, Option, refl, sym, ap₂, ◌∙◌}
use Rattle.netlink_packet_route.specs.declared.family.Family.{Family}
use Rattle.link_messages.specs.Finding.{Stretch}
use Rattle.link_messages.specs.Lists.{Listed}
use Rattle.nlroute_ffi.specs.declared.held.ByteRange.{ByteRange}
use Rattle.nlroute_ffi.specs.declared.held.Search.{Search}
use Rattle.nlroute_ffi.specs.Held.{last_list}

-- what a search has found behind some more lists
pub record Keeps (old new : Search) (lists : List Listed) : Type 0 where
  pub wanted : new.wanted ≡ old.wanted
  pub found : new.found ≡ last_list old.wanted old.found lists

-- ---- theorems

pub keeps_none : (a : Search) → Keeps a a []
keeps_none a = record { wanted = refl; found = refl }

last_two : (set : Family) (s : List Listed) (o : Option ByteRange) (t : List Listed) → last_list set o (s ++ t) ≡ last_list set (last_list set o s) t
last_two set [] o t = refl
last_two set (x ∷ s) o t = last_two set s _ t

pub keeps_both : (a b c : Search) (s t : List Listed) → Keeps a b s → Keeps b c t → Keeps a c (s ++ t)
keeps_both a b c s t h k = record {
  wanted = k.wanted ∙ h.wanted;
  found = k.found ∙ ap₂ (λ set o. last_list set o t) h.wanted h.found ∙ sym (last_two a.wanted s a.found t);
}

-- every list can be visited
abbrev pub any_list : Stretch → Type 0
any_list list = Unit {0}

pub always_reached : (list : Stretch) → any_list list
always_reached list = tt
