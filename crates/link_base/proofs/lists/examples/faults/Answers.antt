use Rattle.std.proofs.Common.{[], ◌∷◌, Err, refl, arith, inl, inr}
use Rattle.link_base.specs.declared.wire.fault.Cause.TheVariants.{ShortFrame, SmallLength, Overrun, WrongLength}
use Rattle.link_base.specs.declared.wire.fault.DecodeFault.TheVariants as faults
use Rattle.link_base.specs.Class.{Number}
use Rattle.link_base.specs.Table.{Case, Single}
use Rattle.link_base.proofs.lists.examples.faults.Goals as goal

pub returns-clause-address_overrun : goal.returns-clause-address_overrun
returns-clause-address_overrun c = record {
  front = [];
  rest = 0x0a ∷ 0 ∷ 8 ∷ 0 ∷ 9 ∷ 0 ∷ 0 ∷ 0 ∷ 0x0a ∷ 0 ∷ 0 ∷ 0 ∷ [];
  string = refl;
  complete = tt;
  values = tt;
  some = omega arith;
  offset = refl;
  here = inr (
    record { kind_field = 8; payload = 9 ∷ 0 ∷ 0 ∷ 0 ∷ 0x0a ∷ 0 ∷ []; padding = 0 ∷ 0 ∷ [] },
    record { rest = []; is = record { kind_field = omega arith; payload = omega arith; padding = omega arith }; string = refl },
    (
      Err (0, faults.Frame (Overrun 9 6)),
      record {
        front = [];
        rest = 9 ∷ 0 ∷ 0 ∷ 0 ∷ 0x0a ∷ 0 ∷ [];
        string = refl;
        complete = tt;
        values = tt;
        some = omega arith;
        offset = refl;
        here = inl (Overrun 9 6, refl, refl);
      },
      refl,
    ),
  );
}

pub returns-clause-value_before_frame : goal.returns-clause-value_before_frame
returns-clause-value_before_frame c = record {
  front = [];
  rest = 0x05 ∷ 0 ∷ 1 ∷ 0 ∷ 0x2a ∷ 0 ∷ 0 ∷ 0 ∷ 3 ∷ 0 ∷ [];
  string = refl;
  complete = tt;
  values = tt;
  some = omega arith;
  offset = refl;
  here = inr (record { kind_field = 1; payload = 0x2a ∷ []; padding = 0 ∷ 0 ∷ 0 ∷ [] }, record { rest = 3 ∷ 0 ∷ []; is = record { kind_field = omega arith; payload = omega arith; padding = omega arith }; string = refl }, refl);
}

pub returns-clause-short_frame : goal.returns-clause-short_frame
returns-clause-short_frame c = record {
  front = record { kind_field = 1; payload = 0x2a ∷ 0 ∷ 0 ∷ 0 ∷ []; padding = [] } ∷ [];
  rest = 0 ∷ [];
  string = refl;
  complete = (record { kind_field = omega arith; payload = omega arith; padding = refl }, tt);
  values = ((Case 1 (Single (Number 4 42)), refl), tt);
  some = omega arith;
  offset = refl;
  here = inl (ShortFrame 1, refl, refl);
}

pub returns-clause-small_length : goal.returns-clause-small_length
returns-clause-small_length c = record {
  front = [];
  rest = 0 ∷ 0 ∷ 1 ∷ 0 ∷ [];
  string = refl;
  complete = tt;
  values = tt;
  some = omega arith;
  offset = refl;
  here = inl (SmallLength 0, refl, refl);
}

pub returns-clause-overrun : goal.returns-clause-overrun
returns-clause-overrun c = record {
  front = [];
  rest = 0x09 ∷ 0 ∷ 1 ∷ 0 ∷ 0x2a ∷ 0 ∷ 0 ∷ 0 ∷ [];
  string = refl;
  complete = tt;
  values = tt;
  some = omega arith;
  offset = refl;
  here = inl (Overrun 9 8, refl, refl);
}

pub returns-clause-nested_value : goal.returns-clause-nested_value
returns-clause-nested_value c = record {
  front = [];
  rest = 0x0f ∷ 0 ∷ 3 ∷ 0 ∷ 0x0b ∷ 0 ∷ 1 ∷ 0 ∷ 1 ∷ 0 ∷ 0 ∷ 0 ∷ 2 ∷ 0 ∷ 0 ∷ 0 ∷ [];
  string = refl;
  complete = tt;
  values = tt;
  some = omega arith;
  offset = refl;
  here = inr (
    record { kind_field = 3; payload = 0x0b ∷ 0 ∷ 1 ∷ 0 ∷ 1 ∷ 0 ∷ 0 ∷ 0 ∷ 2 ∷ 0 ∷ 0 ∷ []; padding = 0 ∷ [] },
    record { rest = []; is = record { kind_field = omega arith; payload = omega arith; padding = omega arith }; string = refl },
    (
      Err (0, faults.Value 1 (WrongLength 8 7)),
      record {
        front = [];
        rest = 0x0b ∷ 0 ∷ 1 ∷ 0 ∷ 1 ∷ 0 ∷ 0 ∷ 0 ∷ 2 ∷ 0 ∷ 0 ∷ [];
        string = refl;
        complete = tt;
        values = tt;
        some = omega arith;
        offset = refl;
        here = inr (record { kind_field = 1; payload = 1 ∷ 0 ∷ 0 ∷ 0 ∷ 2 ∷ 0 ∷ 0 ∷ []; padding = [] }, record { rest = []; is = record { kind_field = omega arith; payload = omega arith; padding = omega arith }; string = refl }, refl);
      },
      refl,
    ),
  );
}

pub returns-clause-long_flag : goal.returns-clause-long_flag
returns-clause-long_flag c = record {
  front = [];
  rest = 0x06 ∷ 0 ∷ 5 ∷ 0 ∷ 1 ∷ 1 ∷ 0 ∷ 0 ∷ [];
  string = refl;
  complete = tt;
  values = tt;
  some = omega arith;
  offset = refl;
  here = inr (record { kind_field = 5; payload = 1 ∷ 1 ∷ []; padding = 0 ∷ 0 ∷ [] }, record { rest = []; is = record { kind_field = omega arith; payload = omega arith; padding = omega arith }; string = refl }, refl);
}
