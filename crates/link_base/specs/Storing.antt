-- Destinations for parsed values.
use Rattle.std.specs.Prelude.{◌≡◌, Result, Ok, Err}
use Rattle.link_base.specs.declared.wire.fault.DecodeFault.{DecodeFault}
use Rattle.link_base.specs.declared.wire.fault.DecodeError.{DecodeError}
use Rattle.link_base.specs.Answers.{Fails}

-- the place stored the parsed value; or the error is returned, and the place is unchanged
abbrev pub Hands : {X Y : Type 0} → (X → Type 0) → Type 0 → Result X DecodeError → Result Y DecodeError → Type 0
Hands takes unchanged (Ok x) (Ok done) = takes x
Hands takes unchanged (Err e) (Err returned) = (returned ≡ e) × unchanged
Hands takes unchanged (Ok x) (Err returned) = ⊥
Hands takes unchanged (Err e) (Ok done) = ⊥

-- the place stored a value that `given` allows; or the place is unchanged, and `given` allows the error, unless it is
-- `Memory`
abbrev pub Puts : {X Y V : Type 0} → (X → Type 0) → Type 0 → (X → V) → Result Y DecodeError → (Result V DecodeFault → Type 0) → Type 0
Puts {X} takes unchanged view (Ok done) given = (x : X) × takes x × given (Ok (view x))
Puts takes unchanged view (Err e) given = Fails e given × unchanged
