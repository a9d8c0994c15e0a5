-- What the values of a request encode to: each list by the set that reads it, to any depth.
use Rattle.std.specs.Prelude.{ℕ, ◌+◌, ◌==◌, ◌&&◌, List, [], ◌∷◌, Option, Some, None, Result, Ok, Err, nat_lt, if◌then◌else◌}
use Rattle.std.specs.Option.{option_and_then}
use Rattle.netlink_packet_route.specs.Opening.{without_nul, port_kind_of}
use Rattle.link_entries.specs.declared.entry.Entry.{Entry}
use Rattle.link_entries.specs.declared.misfit.Misfit.{Misfit}
use Rattle.link_requests.specs.declared.level.Scope.{Scope}
use Rattle.link_requests.specs.declared.level.Scope.TheVariants.{Elements}
use Rattle.link_requests.specs.Opening.{Kinds}
use Rattle.link_entries.specs.Encoded.{Encoding, before}
use Rattle.link_requests.specs.Value.{value_bytes, value_of}

-- ---- the kinds beside a value

-- the last element of type k of a list at this depth, up to a value that is less deep
abbrev pub last_among : ℕ → ℕ → Option Entry → List Entry → Option Entry
last_among depth k found [] = found
last_among depth k found (e ∷ es) = if nat_lt e.depth depth then found else last_among depth k (if (e.depth == depth) && (e.inner == k) then Some e else found) es

-- its text, without a NUL at its end
abbrev pub text_in : Result (List ℕ) Misfit → Option (List ℕ)
text_in (Ok p) = Some (without_nul p)
text_in (Err misfit) = None

abbrev pub text_among : List ℕ → ℕ → ℕ → List Entry → Option (List ℕ)
text_among octets depth k es = option_and_then (λ e. text_in (value_bytes None e octets)) (last_among depth k None es)

-- the kinds among the elements of a nested list: IFLA_INFO_KIND (1) and IFLA_INFO_SLAVE_KIND (4), before or after the value
abbrev pub kinds_among : List ℕ → ℕ → ℕ → List Entry → Kinds
kinds_among octets depth address_family es =
    let kind = text_among octets depth 1 es in
    record { address_family = address_family; info_kind = kind; port_kind = port_kind_of kind (text_among octets depth 4 es) }

-- what decides which sets read the lists in a list
abbrev pub kinds_in : List ℕ → Scope → ℕ → Kinds → List Entry → Kinds
kinds_in octets (Elements set list) depth x es = kinds_among octets depth x.address_family es
kinds_in octets scope depth x es = x

-- ---- lists

-- the values of a list at this depth, up to one that is less deep. Deeper ones belong to the value before them. The first has
-- index i
abbrev pub values_of : List ℕ → Scope → ℕ → Kinds → ℕ → List Entry → Encoding
values_of octets scope depth x i [] = Ok []
values_of octets scope depth x i (e ∷ es) =
    if nat_lt e.depth depth then Ok []
    else before
    (if e.depth == depth
    then value_of octets scope depth x i e es (λ sub. values_of octets sub (depth + 1) (kinds_in octets sub (depth + 1) x es) 0 es)
    else Ok [])
    (values_of octets scope depth x (i + 1) es)

-- what the values that follow one encode to in a list one deeper
abbrev pub inner_of : List ℕ → ℕ → Kinds → List Entry → Scope → Encoding
inner_of octets depth x es sub = values_of octets sub (depth + 1) (kinds_in octets sub (depth + 1) x es) 0 es
