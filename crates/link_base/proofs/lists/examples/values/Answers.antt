use Rattle.std.proofs.Common.{[], ◌∷◌, Ok, refl, arith}
use Rattle.link_base.proofs.lists.examples.values.Goals as goal

pub returns-clause-number : goal.returns-clause-number
returns-clause-number c = record {
  read = record {
    frames = record { kind_field = 1; payload = 0x2a ∷ 0 ∷ 0 ∷ 0 ∷ []; padding = [] } ∷ [];
    string = record { frames = record { kind_field = omega arith; payload = omega arith; padding = omega arith }; string = refl };
    values = (refl, tt);
  };
  written = refl;
}

pub returns-clause-unknown_kind : goal.returns-clause-unknown_kind
returns-clause-unknown_kind c = record {
  read = record {
    frames = record { kind_field = 0xC063; payload = 0xde ∷ 0xad ∷ []; padding = [] } ∷ [];
    string = record { frames = record { kind_field = omega arith; payload = omega arith; padding = omega arith }; string = refl };
    values = (refl, tt);
  };
  written = refl;
}

pub returns-clause-ignored_payload : goal.returns-clause-ignored_payload
returns-clause-ignored_payload c = record {
  read = record {
    frames = record { kind_field = 21; payload = 1 ∷ 2 ∷ 3 ∷ []; padding = 0 ∷ [] } ∷ [];
    string = record { frames = record { kind_field = omega arith; payload = omega arith; padding = omega arith }; string = refl };
    values = (refl, tt);
  };
  written = refl;
}

pub returns-clause-empty_list : goal.returns-clause-empty_list
returns-clause-empty_list c = record {
  read = record {
    frames = record { kind_field = 47; payload = []; padding = [] } ∷ [];
    string = record { frames = record { kind_field = omega arith; payload = omega arith; padding = omega arith }; string = refl };
    values = ((Ok [], record { frames = []; string = record { frames = tt; string = refl }; values = tt }, refl), tt);
  };
  written = refl;
}

pub returns-clause-flag : goal.returns-clause-flag
returns-clause-flag c = record {
  read = record {
    frames = record { kind_field = 5; payload = []; padding = [] } ∷ [];
    string = record { frames = record { kind_field = omega arith; payload = omega arith; padding = omega arith }; string = refl };
    values = (refl, tt);
  };
  written = refl;
}

pub returns-clause-flag_byte : goal.returns-clause-flag_byte
returns-clause-flag_byte c = record {
  read = record {
    frames = record { kind_field = 5; payload = 7 ∷ []; padding = 0 ∷ 0 ∷ 0 ∷ [] } ∷ [];
    string = record { frames = record { kind_field = omega arith; payload = omega arith; padding = omega arith }; string = refl };
    values = (refl, tt);
  };
  written = refl;
}

pub returns-clause-text : goal.returns-clause-text
returns-clause-text c = record {
  read = record {
    frames = record { kind_field = 6; payload = 0x67 ∷ 0x72 ∷ 0 ∷ []; padding = 0 ∷ [] } ∷ [];
    string = record { frames = record { kind_field = omega arith; payload = omega arith; padding = omega arith }; string = refl };
    values = (refl, tt);
  };
  written = refl;
}
