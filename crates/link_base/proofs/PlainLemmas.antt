-- The laws of values that a program holds, from the laws of their table.
use Rattle.std.proofs.Common.{◌≡◌, ◌↔◌, List, map}
use Rattle.std.specs.List.{AllByRecursion}
use Rattle.link_base.specs.Wire.{Wire}
use Rattle.link_base.specs.Table.{Table, AttrValue, Gives, written_list, Fits, canon}
use Rattle.link_base.specs.Held.{IsInRange, HidesNone, AttrIsUncut, IsPlain}
use Rattle.link_base.specs.Lawful.{IsLawful}
use Rattle.link_base.proofs.Written.{all_each, plain_wire, same_bytes_iff}

module _ {table : Table} (law : IsLawful table) where
  -- what is written for plain values that fit decodes to their normal forms
  pub plain_back : (vs : List AttrValue) → AllByRecursion (IsPlain table) vs → AllByRecursion Fits vs → Wire (Gives table) (written_list vs) (map canon vs)
  plain_back vs h fit =
      plain_wire law.holding vs
      (all_each (IsPlain table) (IsInRange table) (λ v k. k.in_range) vs h)
      (all_each (IsPlain table) (HidesNone table) (λ v k. k.hides_none) vs h)
      (all_each (IsPlain table) AttrIsUncut (λ v k. k.uncut) vs h) fit

  -- plain values that fit are written as equal bytes if and only if their normal forms are equal
  pub plain_bytes : (vs ws : List AttrValue) → AllByRecursion (IsPlain table) vs → AllByRecursion Fits vs → AllByRecursion (IsPlain table) ws → AllByRecursion Fits ws
      → (written_list vs ≡ written_list ws) ↔ (map canon vs ≡ map canon ws)
  plain_bytes vs ws h fit k fits = same_bytes_iff law.holding law.reading vs ws (plain_back vs h fit) (plain_back ws k fits)
