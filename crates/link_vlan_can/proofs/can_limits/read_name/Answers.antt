use Rattle.std.proofs.Common.{◌++◌, refl, ap, ◌∙◌, encode_utf8_all}
use Rattle.std.specs.Str.Lossy.{utf8_lossy}
use Rattle.bstr.specs.Utf8.{lossy_chars}
use Rattle.bstr.proofs.lemmas.LossyLemmas.{lossy_chars-utf8_lossy}
use Rattle.link_vlan_can.proofs.can_limits.read_name.Goals as goal

pub returns : goal.returns
returns c =
    let text = c.before_nul-text.result.now in
    c.in_ok-to_str_lossy_into.ensures.ok refl ∙ ap (λ t. t ++ encode_utf8_all (lossy_chars text)) c.new-name.ensures.bytes
    ∙ lossy_chars-utf8_lossy text ∙ ap utf8_lossy c.before_nul-text.ensures
