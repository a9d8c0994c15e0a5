use Rattle.std.proofs.Common.{◌≡◌, ◌++◌, ◌∙◌, sym, ap, append_assoc, encode_utf8, encode_utf8_all}
use Rattle.std.proofs.lemmas.List.{append-nil}
use Rattle.std.specs.Str.Lossy.{utf8_lossy}
use Rattle.bstr.proofs.lemmas.LossyLemmas.{lossy_chars-utf8_lossy}
use Rattle.link_base.specs.Name.{before_nul, name_field}
use Rattle.link_entries.proofs.WrittenNames.{name_stored}
use Rattle.link_entries.proofs.name.written_name.Goals as goal

pub loop-character-preserved : goal.loop-character-preserved
loop-character-preserved c =
    let (done, name, end, said) = c.loop-character.invariant in
    let text = encode_utf8 c.in-Some.character in
    let is : c.as_bytes-text.result.now ≡ text = c.as_bytes-text.ensures.value ∙ c.encode_utf8.ensures.value in
    let stored = name_stored c.loop-character.name c.put_text-end.new.name done text c.as_bytes-text.result.now c.loop-character.end c.put_text-end.result name end is c.put_text-end.ensures.end c.put_text-end.ensures.name in (
      done ++ text,
      stored.0,
      stored.1,
      append_assoc done text (encode_utf8_all c.next.new.self) ∙ ap (λ l. done ++ encode_utf8_all l) (sym c.in-Some.ensures.steps) ∙ said,
    )

pub returns : goal.returns
returns c =
    let (done, name, end, said) = c.loop-character.invariant in
    let field = before_nul c.args.field.now in
    let all : done ≡ utf8_lossy field = sym (append-nil done) ∙ ap (λ l. done ++ encode_utf8_all l) (sym c.in_default.ensures.steps.0) ∙ said ∙ lossy_chars-utf8_lossy field in
    name ∙ ap name_field all
