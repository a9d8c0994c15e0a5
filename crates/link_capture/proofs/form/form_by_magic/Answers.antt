use Rattle.std.proofs.Common.{◌≡◌, ℕ, Bool, true, false, cond, List, [], ◌∷◌, map, Option, Some, Result, nat_eq, Bor, refl, ap, ◌∙◌}
use Rattle.std.specs.List.{find, starts_with}
use Rattle.std.specs.Option.{option_map, option_transpose}
use Rattle.link_capture.specs.declared.form.Form.{Form}
use Rattle.link_capture.specs.declared.other_format.OtherFormat.{OtherFormat}
use Rattle.link_capture.proofs.form.form_by_magic.Goals as goal

-- a magic number in a constant, and in a definition
abbrev Borrowed : Type 0
Borrowed = Bor (List ℕ) × Result Form OtherFormat

abbrev Magic : Type 0
Magic = List ℕ × Result Form OtherFormat

abbrev magic_of : Borrowed → Magic
magic_of m = (m.0.now, m.1)

-- what one of these tells
abbrev tells : List ℕ → List Borrowed → Option (Result Form OtherFormat)
tells s ms = option_map (λ m. m.1) (find (λ m. starts_with nat_eq s m.0.now) ms)

abbrev known : List ℕ → List Magic → Option (Result Form OtherFormat)
known s ms = option_map (λ m. m.1) (find (λ m. starts_with nat_eq s m.0) ms)

either_tells : (b : Bool) (m : Borrowed) (x : Option Borrowed) (y : Option Magic) → option_map (λ m. m.1) x ≡ option_map (λ m. m.1) y → option_map (λ m. m.1) (cond b (Some m) x) ≡ option_map (λ m. m.1) (cond b (Some (magic_of m)) y)
either_tells true m x y h = refl
either_tells false m x y h = h

same_known : (s : List ℕ) (ms : List Borrowed) → tells s ms ≡ known s (map magic_of ms)
same_known s [] = refl
same_known s (m ∷ ms) = either_tells (starts_with nat_eq s m.0.now) m (find (λ m. starts_with nat_eq s m.0.now) ms) (find (λ m. starts_with nat_eq s m.0) (map magic_of ms)) (same_known s ms)

pub returns : goal.returns
returns c = c.transpose.ensures ∙ ap option_transpose (c.found_in.ensures ∙ same_known c.args.bytes.now c.args.magics.now)
