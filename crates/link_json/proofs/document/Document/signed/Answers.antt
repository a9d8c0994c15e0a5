use Rattle.std.proofs.Common.{◌≡◌, ◌++◌, ◌∷◌, [], ◌∙◌, ℤ, pos, negsuc, ◌%◌, ◌^◌, ◌<◌, ap, ap₂, arith, to_z, of_z, w32, w64}
use Rattle.std.proofs.lemmas.Int.{to_z-of_z, ints}
use Rattle.std.specs.Fmt.{signed_decimal}
use Rattle.std.specs.Int.Signed.{mag}
use Rattle.json.specs.Token.{number}
use Rattle.link_json.specs.Doc.{four_signed}
use Rattle.link_json.proofs.Loops.{on_ok}
use Rattle.link_json.proofs.document.Document.signed.Goals as goal

low : (z : ℤ) → mag z < 2 ^ 31 → z ≡ four_signed z
low (pos n) h = let e : n ≡ n % 2 ^ 31 = omega (arith, h) in ap pos e
low (negsuc n) h = let e : n ≡ n % 2 ^ 31 = omega (arith, h) in ap negsuc e

pub returns : goal.returns
returns c =
    let z = c.args.n in
    let small : to_z w32 (of_z w32 z) ≡ z = to_z-of_z w32 z (omega (arith, ints)) in
    let back : to_z w64 (of_z w64 c.into.result) ≡ c.into.result = to_z-of_z w64 c.into.result (omega (arith, ints)) in
    on_ok c.i64.result (λ e. e ∙ ap₂ (λ a z. a ++ number (signed_decimal z) ∷ []) c.self.view_is (back ∙ c.into.ensures ∙ small ∙ low z c.ranges.n.sfits)) c.i64.ensures.ok
