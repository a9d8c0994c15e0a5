-- Pieces that were written one after another.
use Rattle.std.proofs.Common.{ℕ, List, [], ◌++◌, Option, Result, Ok, Err, IfOk, refl, sym, ap, subst, ◌∙◌, append_assoc}
use Rattle.std.proofs.lemmas.List.{append-nil}
use Rattle.std.specs.Io.KnownBytes.{Appends, Keeps}
use Rattle.std.proofs.KnownBytes.{Appends-nil, Appends-trans, Appends-kept}
use Rattle.show_lines.specs.declared.running.Stop.{Stop}
use Rattle.show_lines.specs.declared.running.Stop.TheVariants.{Memory, Reader, Writer}
use Rattle.show_lines.specs.Pieces.{ArePieces, NoPiece, Begins, AddsPieces, Grows, IfWritten, OnStop}

module _ {piece : List ℕ → Type 0} where
  both_pieces : (a b : List ℕ) → ArePieces piece a → ArePieces piece b → ArePieces piece (a ++ b)
  both_pieces a b (NoPiece out e) more = subst (λ l. ArePieces piece (l ++ b)) (sym e) more
  both_pieces a b (Begins out first rest one all e) more = Begins (a ++ b) first (rest ++ b) one (both_pieces rest b all more) (ap (λ l. l ++ b) e ∙ append_assoc first rest b)

  -- nothing
  pub adds_none : (w : Option (List ℕ)) → AddsPieces piece w w
  adds_none w = ([], NoPiece [] refl, Appends-nil w)

  -- one piece
  pub adds_one : (out : List ℕ) (w v : Option (List ℕ)) → piece out → Appends w v out → AddsPieces piece w v
  adds_one out w v one h = (out, Begins out out [] one (NoPiece [] refl) (sym (append-nil out)), h)

  -- some, and then more
  pub adds_more : (w v u : Option (List ℕ)) → AddsPieces piece w v → AddsPieces piece v u → AddsPieces piece w u
  adds_more w v u (a, of_a, to_v) (b, of_b, to_u) = (a ++ b, both_pieces a b of_a of_b, Appends-trans w v u a b to_v to_u)

  -- nothing more
  pub adds_kept : (w v u : Option (List ℕ)) → AddsPieces piece w v → Keeps v u → AddsPieces piece w u
  adds_kept w v u (a, of_a, to_v) keeps = (a, of_a, Appends-kept w v u a to_v keeps)

  pub kept_adds : (w v : Option (List ℕ)) → Keeps w v → AddsPieces piece w v
  kept_adds w v keeps = adds_kept w w v (adds_none w) keeps

-- what holds unless the writer failed
pub if_written : {X : Type 0} (P Q : Type 0) (r : Result X Stop) → (P → Q) → IfWritten r P → IfWritten r Q
if_written P Q (Ok x) f h = f h
if_written P Q (Err Memory) f h = f h
if_written P Q (Err Reader) f h = f h
if_written P Q (Err Writer) f h = tt

pub always_written : {X P : Type 0} (r : Result X Stop) → P → IfWritten r P
always_written (Ok x) h = h
always_written (Err Memory) h = h
always_written (Err Reader) h = h
always_written (Err Writer) h = tt

-- bytes that were written, or nothing where a call stopped
pub grows_if : {X : Type 0} {Q : X → Type 0} (r : Result X Stop) (w v : Option (List ℕ)) → ((x : X) → Q x → Grows w v) → IfOk r Q → OnStop r (Keeps w v) → IfWritten r (Grows w v)
grows_if (Ok x) w v f h k = f x h
grows_if (Err Memory) w v f h k = kept_adds w v k
grows_if (Err Reader) w v f h k = kept_adds w v k
grows_if (Err Writer) w v f h k = tt
