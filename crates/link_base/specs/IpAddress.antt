-- IP addresses: as payloads, and as the elements of a list.
use Rattle.std.specs.Prelude.{◌≡◌, ◌≢◌, ℕ, zero, suc, List, [], ◌∷◌, length, drop, slice_index, Result, Ok, Err}
use Rattle.std.specs.declared.net.ip_addr.IpAddr.{IpAddr}
use Rattle.std.specs.declared.net.ip_addr.IpAddr.TheVariants.{V4, V6}
use Rattle.std.specs.declared.net.ipv4_addr.Ipv4Addr.{Ipv4Addr}
use Rattle.std.specs.declared.net.ipv6_addr.Ipv6Addr.{Ipv6Addr}
use Rattle.std.specs.Net.Addr.{ipv4_octets, ipv6_octets}
use Rattle.link_base.specs.declared.wire.fault.Cause.TheVariants.{AddressLength}
use Rattle.link_base.specs.declared.wire.fault.DecodeError.{DecodeError}
use Rattle.link_base.specs.Answers.{refused}

-- the IP address with these octets, 4 or 16; or the error `AddressLength` for any other length
abbrev pub IsAddress : List ℕ → Result IpAddr DecodeError → Type 0
IsAddress p (Ok (V4 a)) = (length p ≡ 4) × (ipv4_octets a ≡ p)
IsAddress p (Ok (V6 a)) = (length p ≡ 16) × (ipv6_octets a ≡ p)
IsAddress p (Err e) = (length p ≢ 4) × (length p ≢ 16) × (e ≡ refused (AddressLength (length p)))

-- the first n octets of an address; an address never has others
abbrev pub sized : ℕ → List ℕ → List ℕ
sized zero octets = []
sized (suc n) octets = slice_index octets 0 ∷ sized n (drop 1 octets)

-- the four octets of an IPv4 address
abbrev pub four_octets : Ipv4Addr → List ℕ
four_octets a = sized 4 (ipv4_octets a)

-- the sixteen octets of an IPv6 address
abbrev pub sixteen_octets : Ipv6Addr → List ℕ
sixteen_octets a = sized 16 (ipv6_octets a)
