-- The errors of entries, in order.
use Rattle.std.proofs.Common.{◌≡◌, ℕ, ◌&&◌, Bool, true, false, cond, List, take, drop, nat_le, Some, None, Result, Ok, Err, refl, ◌∙◌}
use Rattle.link_entries.specs.declared.entry.Entry.{Entry}
use Rattle.link_entries.specs.declared.fields.Fields.{Fields}
use Rattle.link_entries.specs.declared.fields.Fields.TheVariants as fields
use Rattle.link_entries.specs.declared.misfit.Misfit.{Misfit}
use Rattle.link_entries.specs.declared.misfit.Misfit.TheVariants.{TooLong, BadForm, BadNumber, BadOctets}
use Rattle.link_entries.specs.Payload.{has_form, only_if, passed, rewritten, payload_of}
use Rattle.link_entries.specs.Order.{holds_numbers, is_passed, has_octets, is_short, first_of, first_misfit, misfit_in}

-- the first test that fails
of_tests : (h a b d : Bool) (p : List ℕ) → misfit_in (cond h (cond a (cond b (only_if d TooLong p) (Err BadOctets)) (Err BadNumber)) (Err BadForm)) ≡ first_of h a b d
of_tests true true true true p = refl
of_tests true true true false p = refl
of_tests true true false d p = refl
of_tests true false b d p = refl
of_tests false a b d p = refl

-- a test of the least length comes first
of_least : (h a b d : Bool) (p : List ℕ) → misfit_in (cond h (cond a (cond b (only_if d TooLong p) (Err BadOctets)) (Err BadOctets)) (Err BadForm)) ≡ first_of h true (a && b) d
of_least true true true true p = refl
of_least true true true false p = refl
of_least true true false d p = refl
of_least true false b d p = refl
of_least false a b d p = refl

-- what is written in place of bytes has their error
of_rewritten : (r : Result (List ℕ) Misfit) → misfit_in (rewritten r) ≡ misfit_in r
of_rewritten (Ok p) = refl
of_rewritten (Err m) = refl

same_error : (h : Bool) (r : Result (List ℕ) Misfit) → misfit_in (cond h (rewritten r) (Err BadForm)) ≡ misfit_in (cond h r (Err BadForm))
same_error true r = of_rewritten r
same_error false r = refl

pub in_order : (own : Fields) (e : Entry) (octets : List ℕ) → misfit_in (payload_of own e octets) ≡ first_misfit own e octets
in_order fields.Limits e octets =
    same_error (has_form fields.Limits e) (passed (Some 48) e octets)
    ∙ of_tests (has_form fields.Limits e) (holds_numbers fields.Limits e) (has_octets fields.Limits e octets) (is_short fields.Limits e) (take e.length (drop e.offset octets))
in_order fields.Peer e octets = of_least (has_form fields.Peer e) (nat_le 16 e.length) (is_passed None e octets) (is_short fields.Peer e) (take e.length (drop e.offset octets))
in_order own e octets = of_tests (has_form own e) (holds_numbers own e) (has_octets own e octets) (is_short own e) _
