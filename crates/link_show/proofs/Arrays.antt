-- Arrays of numbers, from a number on.
use Rattle.std.proofs.Common.{◌≡◌, ℕ, suc, ◌+◌, ◌-◌, ◌*◌, ◌<◌, List, ◌∷◌, ap, ◌∙◌, arith}
use Rattle.link_base.specs.Layout.{number_at, numbers_at}

-- the numbers from an index on start with that of the index
pub numbers_more : (width n i : ℕ) (p : List ℕ) → i < n → numbers_at width (n - i) (i * width) p ≡ number_at width (i * width) p ∷ numbers_at width (n - (i + 1)) ((i + 1) * width) p
numbers_more width n i p h =
    let left : n - i ≡ suc (n - (i + 1)) = omega (arith, h) in
    let next : i * width + width ≡ (i + 1) * width = omega arith in
    ap (λ m. numbers_at width m (i * width) p) left ∙ ap (λ at. number_at width (i * width) p ∷ numbers_at width (n - (i + 1)) at p) next
