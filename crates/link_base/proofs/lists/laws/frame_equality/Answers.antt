use Rattle.std.proofs.Common.{rules, ◌≡◌, ◌==◌, ◌&&◌, ℕ, Bool, ap, ap₂}
use Rattle.std.specs.Bool.{Decides}
use Rattle.std.specs.Cmp.{unsigned_Decides}
use Rattle.std.specs.Cmp.Lexicographic.{pointwise_decides}
use Rattle.link_base.specs.declared.wire.fault.Cause.{Cause}
use Rattle.link_base.specs.contracts.wire.fault.CausePartialEq.TheImpl.{ghosts}
use Rattle.link_base.proofs.EqualityLemmas.{two, same}
use Rattle.link_base.proofs.lists.laws.frame_equality.Goals as goal

causes : (c d : Cause) → Decides (ghosts.eq c d) (c ≡ d)
causes c d = search rules

faults : (x y : ℕ × Cause) → Decides (x.0 == y.0 && ghosts.eq x.1 y.1) (x ≡ y)
faults x y = let d = two (x.0 == y.0) (ghosts.eq x.1 y.1) (unsigned_Decides x.0 y.0) (causes x.1 y.1) in
    (λ h. ap₂ (λ at cause. (at, cause)) (d.0 h).0 (d.0 h).1, λ h. d.1 (ap (λ z. z.0) h, ap (λ z. z.1) h))

three : {P Q R : Type 0} (r s t : Bool) → Decides r P → Decides s Q → Decides t R → Decides (r && (s && t)) (P × Q × R)
three r s t d e f = let h = two r (s && t) d (two s t e f) in
    (λ k. ((h.0 k).0, (h.0 k).1.0, (h.0 k).1.1), λ k. h.1 (k.0, (k.1, k.2)))

pub returns-clause-table : goal.returns-clause-table
returns-clause-table c = λ a b. three _ _ _ (pointwise_decides unsigned_Decides a.bytes.now b.bytes.now)
    (pointwise_decides unsigned_Decides a.offsets.items b.offsets.items) (same faults a.fault b.fault)
