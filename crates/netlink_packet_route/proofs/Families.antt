-- What holds of each attribute set, by a test of all of them.
use Rattle.std.proofs.Common.{◌≡◌, ℕ, zero, suc, Bool, true, List, [], ◌∷◌, Option, Some, None, refl, sym, ap, ◌∙◌}
use Rattle.std.specs.Prelude.{◌&&◌}
use Rattle.std.specs.List.{list_all}
use Rattle.std.proofs.lemmas.Bool.{and_parts}
use Rattle.link_base.specs.WellFormed.{is_table}
use Rattle.netlink_packet_route.specs.declared.family.Family.{Family}
use Rattle.netlink_packet_route.specs.declared.family.Family.TheVariants as sets
use Rattle.netlink_packet_route.specs.Family.{family_number, table_of}
use Rattle.netlink_packet_route.specs.Families.{all_families}

abbrev family_at : List Family → ℕ → Option Family
family_at [] n = None
family_at (x ∷ xs) zero = Some x
family_at (x ∷ xs) (suc n) = family_at xs n

-- each is at the place of its number. The first clause only splits the cases: the second holds for each of the others
place : (family : Family) → family_at all_families (family_number family) ≡ Some family
place sets.AfSpecBridge = refl
place family = refl

same_family : (x y : Family) → Some x ≡ Some y → x ≡ y
same_family x y is = cc

module _ (test : Family → Bool) where
  passes_at : (families : List Family) (n : ℕ) (family : Family) → list_all test families ≡ true → family_at families n ≡ Some family → test family ≡ true
  passes_at [] n family h is = absurd cc
  passes_at (x ∷ xs) zero family h is = ap test (sym (same_family x family is)) ∙ (and_parts (test x) (list_all test xs) h).0
  passes_at (x ∷ xs) (suc n) family h is = passes_at xs n family (and_parts (test x) (list_all test xs) h).1 is

  -- a test that all pass, each passes: `each_family test refl`
  pub each_family : list_all test all_families ≡ true → (family : Family) → test family ≡ true
  each_family h family = passes_at all_families (family_number family) family h (place family)

-- each table is well formed
pub families_formed : (family : Family) → is_table (table_of family) ≡ true
families_formed family = each_family (λ family. is_table (table_of family)) refl family
