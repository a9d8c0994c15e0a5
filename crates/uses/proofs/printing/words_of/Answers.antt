use Rattle.std.proofs.Common.{◌≡◌, ◌≢◌, ◌==◌, not, filter, IfSome, rules}
use Rattle.std.proofs.lemmas.Fn.{All-from_retain}
use Rattle.std.proofs.lemmas.List.Elements.{filter_from_retain}
use Rattle.uses.proofs.Lines.{text_of}
use Rattle.uses.proofs.printing.words_of.Goals as goal

pub returns : goal.returns
returns g c =
    let kept : c.retain.new.self.items ≡ filter (λ b. not (b == 10)) c.into_bytes-words.result.items =
    filter_from_retain _ (λ b. not (b == 10)) (λ p x b q k. search rules) _ _ _ c.retain.ensures.filtered in
    let written : IfSome (g.F.Debug.debug_output c.args.value.now) (λ w. c.into_bytes-words.result.items ≡ w) = search rules in
    record {
      unbroken = λ h. All-from_retain _ (λ b. b ≢ 10) _ (λ x b f' k. search rules) _ _ c.retain.ensures.filtered h.0 10 h.1 h.2;
      same = text_of _ _ _ written kept;
    }
