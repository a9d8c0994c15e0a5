use Rattle.std.proofs.Common.{◌≡◌, List, length}
use Rattle.link_capture.specs.Options.{Coded, first_value, value_of}
use Rattle.link_capture.proofs.Passed.{Passed}
use Rattle.link_capture.proofs.options.read_values.Given as goal

abbrev pub invariant-loop-found : goal.invariant-loop-found
invariant-loop-found l =
    (options : List Coded) × Passed l.order l.options options l.rest × (value_of l.resolution ≡ first_value 9 options) × (value_of l.offset ≡ first_value 14 options)

abbrev pub decreases-loop-found : goal.decreases-loop-found
decreases-loop-found l = length l.rest
