-- Numbers that may have names, as payloads.
use Rattle.std.proofs.Common.{◌≡◌, ℕ, List, length, refl, sym, ap, ◌∙◌}
use Rattle.std.proofs.lemmas.Bool.{cond_both, cond-true, cond-false}
use Rattle.link_base.specs.Number.{bytes_of}
use Rattle.link_base.specs.Class.{Name, Unlisted, is_listed, named, written}
use Rattle.link_base.specs.Named.{Seen, Listed, Free, number_of, seen_of, seen_value}
use Rattle.link_base.proofs.Numbers.{length-bytes_of}

-- what is written is the number, named or not
written_seen : (n : ℕ) (listed : List ℕ) (s : Seen) → written (seen_value n listed s) ≡ bytes_of n (number_of s)
written_seen n listed (Listed d) = refl
written_seen n listed (Free d) = refl

pub length_seen : (n : ℕ) (listed : List ℕ) (s : Seen) → length (written (seen_value n listed s)) ≡ n
length_seen n listed s = ap length (written_seen n listed s) ∙ length-bytes_of n (number_of s)

-- a number of n bytes, as a value of the class
pub seen_named : (n : ℕ) (listed : List ℕ) (d : ℕ) → seen_value n listed (seen_of listed d) ≡ named n listed d
seen_named n listed d =
    cond_both (is_listed listed d) (Listed d) (Free d) (λ s. seen_value n listed s ≡ named n listed d)
    (λ e. sym (cond-true (is_listed listed d) (Name n d) (Unlisted n listed d) e))
    (λ e. sym (cond-false (is_listed listed d) (Name n d) (Unlisted n listed d) e))
