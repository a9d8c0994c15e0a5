-- Documents that were written, each as a piece of the output.
use Rattle.std.proofs.Common.{◌≡◌, Bool, List, ℕ, [], ◌∷◌, Option, Result, Ok, Err, IfOk, OnOk, refl, sym, subst}
use Rattle.std.specs.List.{flat_map}
use Rattle.std.specs.Io.KnownBytes.{Appends, Keeps}
use Rattle.json.specs.Json.{Json}
use Rattle.link_json.specs.declared.messages.Failure.{Failure}
use Rattle.link_json.specs.declared.messages.Failure.TheVariants as failures
use Rattle.link_json.specs.Message as json
use Rattle.link_json.specs.Message.{AddsLines, WritesLines, document_line}
use Rattle.link_json.specs.Other.{WritesLine}
use Rattle.show_lines.specs.declared.running.Stop.{Stop}
use Rattle.show_lines.specs.declared.running.Stop.TheVariants as stops
use Rattle.show_lines.specs.Pieces.{ArePieces, NoPiece, Begins, AddsPieces, IfWritten}
use Rattle.show_lines.proofs.Pieces.{adds_one, kept_adds}
use Rattle.show_json.specs.Line.{IsDocument}
use Rattle.show_json.specs.Stop.{stopped}

are_pieces : (js : List Json) → ArePieces IsDocument (flat_map document_line js)
are_pieces [] = NoPiece [] refl
are_pieces (j ∷ js) = Begins (flat_map document_line (j ∷ js)) (document_line j) (flat_map document_line js) (j, refl) (are_pieces js) refl

-- one document, or nothing where memory ran out
pub of_line : {X : Type 0} (r : Result X Failure) (s : Result X Stop) (j : Json) (w v : Option (List ℕ)) → s ≡ stopped r → OnOk r (Appends w v (document_line j)) → json.OnMemory r (Keeps w v) → IfWritten s (AddsPieces IsDocument w v)
of_line (Ok x) s j w v e h k = subst (λ t. IfWritten t (AddsPieces IsDocument w v)) (sym e) (adds_one (document_line j) w v (j, refl) h)
of_line (Err failures.Memory) s j w v e h k = subst (λ t. IfWritten t (AddsPieces IsDocument w v)) (sym e) (kept_adds w v k)
of_line (Err failures.Writer) s j w v e h k = subst (λ t. IfWritten t (AddsPieces IsDocument w v)) (sym e) tt

pub of_one : (shows : Json → Bool → Type 0) (r : Result Bool Failure) (s : Result Bool Stop) (w v : Option (List ℕ)) → s ≡ stopped r → IfOk r (WritesLine shows w v) → json.OnMemory r (Keeps w v) → IfWritten s (AddsPieces IsDocument w v)
of_one shows (Ok x) s w v e (j, shown, h) k = subst (λ t. IfWritten t (AddsPieces IsDocument w v)) (sym e) (adds_one (document_line j) w v (j, refl) h)
of_one shows (Err failures.Memory) s w v e h k = subst (λ t. IfWritten t (AddsPieces IsDocument w v)) (sym e) (kept_adds w v k)
of_one shows (Err failures.Writer) s w v e h k = subst (λ t. IfWritten t (AddsPieces IsDocument w v)) (sym e) tt

-- several
pub of_lines : (shows : List Json → Bool → Type 0) (r : Result Bool Failure) (s : Result Bool Stop) (w v : Option (List ℕ)) → s ≡ stopped r → IfOk r (WritesLines shows w v) → json.OnMemory r (AddsLines w v) → IfWritten s (AddsPieces IsDocument w v)
of_lines shows (Ok x) s w v e (js, shown, h) k = subst (λ t. IfWritten t (AddsPieces IsDocument w v)) (sym e) (flat_map document_line js, are_pieces js, h)
of_lines shows (Err failures.Memory) s w v e h (js, k) = subst (λ t. IfWritten t (AddsPieces IsDocument w v)) (sym e) (flat_map document_line js, are_pieces js, k)
of_lines shows (Err failures.Writer) s w v e h k = subst (λ t. IfWritten t (AddsPieces IsDocument w v)) (sym e) tt

-- the same failure of a call that returns something else
pub again : (X Y P : Type 0) (stop : Stop) → IfWritten {X = X} (Err stop) P → IfWritten {X = Y} (Err stop) P
again X Y P stops.Memory h = h
again X Y P stops.Reader h = h
again X Y P stops.Writer h = h
