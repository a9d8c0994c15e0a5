-- The names of numbers in the attributes of TUN and TAP devices.
use Rattle.std.specs.Prelude.{ℕ, List, [], ◌∷◌, codes}

-- the numbers of TUN_TYPE_MASK, and their names without IFF_, as `ip` prints them
abbrev pub tun_type_names : List (ℕ × List ℕ)
tun_type_names = (1, codes "tun") ∷ (2, codes "tap") ∷ []
