use Rattle.std.proofs.Common.{◌≡◌, ℕ, true, List, [], ◌∷◌, nat_lt, refl, sym, subst}
use Rattle.std.specs.List.{list_all}
use Rattle.std.specs.Str.{IsAscii, IsUtf8}
use Rattle.std.proofs.lemmas.Bool.{and_parts, ltb-true}
use Rattle.std.proofs.lemmas.Str.{IsUtf8-from_ascii}
use Rattle.std.proofs.lemmas.Str.Ascii.{IsAscii-nil, IsAscii-cons}
use Rattle.netlink_packet_route.specs.declared.family.Family.{Family}
use Rattle.netlink_packet_route.specs.Family.{family_name}
use Rattle.netlink_packet_route.proofs.Families.{each_family}
use Rattle.nlroute_ffi.proofs.lookup.family_of.Goals as goal

ascii : (bs : List ℕ) → list_all (λ b. nat_lt b 128) bs ≡ true → IsAscii bs
ascii [] h = IsAscii-nil
ascii (b ∷ bs) h = let both = and_parts (nat_lt b 128) (list_all (λ b. nat_lt b 128) bs) h in IsAscii-cons b bs (ltb-true b 128 both.0) (ascii bs both.1)

-- the name of each attribute set is UTF-8
name_utf8 : (family : Family) → IsUtf8 (family_name family)
name_utf8 family = IsUtf8-from_ascii (family_name family) (ascii (family_name family) (each_family (λ f. list_all (λ b. nat_lt b 128) (family_name f)) refl family))

pub returns-in-Err-clause-answer : goal.returns-in-Err-clause-answer
returns-in-Err-clause-answer c = λ family same. absurd (c.in-Err.ensures.cases.0 (subst IsUtf8 (sym same) (name_utf8 family)))
