use Rattle.std.proofs.Common.{◌≡◌, ◌/◌, ◌%◌, ap₂, ap, ◌∙◌, arith, to_z, of_z}
use Rattle.std.specs.Int.{w128}
use Rattle.std.specs.Int.RustNames.{unsigned_abs}
use Rattle.std.proofs.lemmas.Int.{to_z-of_z, ints}
use Rattle.show_captures.specs.Time.{HasText, IsUtcText}
use Rattle.show_json.specs.Clock.{InRange, instant_json}
use Rattle.show_json.proofs.Instants.{nanoseconds_of}
use Rattle.show_json.proofs.clocks.clock_of.Goals as goal

pub returns : goal.returns
returns c =
    let z = c.args.time.nanosecond in
    let has : HasText z = c.in_ok-utc.ensures.0 in
    let text : IsUtcText c.args.time c.in_ok-utc.utc.bytes = c.in_ok-utc.ensures.1 in
    let signed : to_z w128 (of_z w128 z) ≡ z = to_z-of_z w128 z (omega (arith, ints, has.0, has.1)) in
    let same : c.unsigned_abs-nanosecond.result ≡ unsigned_abs z = c.unsigned_abs-nanosecond.ensures.value ∙ ap unsigned_abs signed in
    InRange (unsigned_abs z) (nanoseconds_of z has) has c.in_ok-utc.utc.bytes text
    (ap₂ (instant_json c.in_ok-utc.utc.bytes) (ap (λ n. n / 1_000_000_000) same) (ap (λ n. n % 1_000_000_000) same))
