-- Failures of documents, as those of a run.
use Rattle.std.proofs.Common.{◌≡◌, Result, Ok, Err, IfOk, OnOk}
use Rattle.link_json.specs.declared.messages.Failure.{Failure}
use Rattle.link_json.specs.declared.messages.Failure.TheVariants as failures
use Rattle.show_json.specs.Stop.{stopped}

pub if_ok : {X : Type 0} {P Q : X → Type 0} (r : Result X Failure) → ((x : X) → P x → Q x) → IfOk r P → IfOk (stopped r) Q
if_ok (Ok x) f h = f x h
if_ok (Err failures.Memory) f h = tt
if_ok (Err failures.Writer) f h = tt

pub on_ok : {X P Q : Type 0} (r : Result X Failure) → (P → Q) → OnOk r P → OnOk (stopped r) Q
on_ok (Ok x) f h = f h
on_ok (Err failures.Memory) f h = tt
on_ok (Err failures.Writer) f h = tt

-- what was written, if the call did not fail
pub given : {X P : Type 0} (r : Result X Failure) (x : X) → Ok x ≡ stopped r → OnOk r P → P
given (Ok y) x e h = h
given (Err failures.Memory) x e h = absurd cc
given (Err failures.Writer) x e h = absurd cc
