use Rattle.std.proofs.Common.{◌≡◌, ℕ, List, true, subst}
use Rattle.std.specs.Prelude.{◌↔◌, IsTrue}
use Rattle.link_base.specs.declared.rows.form.Form.{Form}
use Rattle.link_base.specs.Payloads.{class_by, is_fixed}
use Rattle.link_base.specs.Table.{One}
use Rattle.link_base.specs.Buffer.{IsCanonicalAs}
use Rattle.link_base.proofs.classes.fixed_size.AnyPayloadClass.is_canonical.Goals as goal

pub returns : goal.returns
returns g c =
    subst (λ (form : Form). (names : List (ℕ × List ℕ)) → is_fixed form ≡ true → (IsTrue c.is_fixed.result ↔ IsCanonicalAs (One (class_by form names)) c.args.buffer.now))
    c.FORM.ensures c.is_fixed.ensures g.F.FixedSize.names g.F.FixedSize.fixed
