use Rattle.std.proofs.Common.{rules, ◌≡◌, ◌∙◌, ℕ, ◌+◌, List, [], ◌∷◌, ◌++◌, map, take, Bor, string_bytes, unwrap_or, option_map, ap, sym, arith, take_all}
use Rattle.std.proofs.lemmas.Grind.{common_steps}
use Rattle.std.proofs.lemmas.List.{map-append}
use Rattle.show_lines.proofs.arguments.named.Goals.{in-Some+else-loop-name-test, in_default}
use Rattle.show_lines.proofs.arguments.named.Goals as goal

pub loop-name-preserved : goal.loop-name-preserved
loop-name-preserved c =
    let names = c.in-Some.names.now in
    let i = c.loop-name.name-index in
    let bytes : List (Bor (List ℕ)) → List (List ℕ) = map (λ s. s.now) in
    let file = c.in_ok-from_str.field-0 in
    let text : bytes (take (i + 1) names) ≡ bytes (take i names) ++ string_bytes file ∷ [] = search (rules, common_steps) in
    ap (map string_bytes) c.in_ok-push.ensures.items ∙ map-append string_bytes c.loop-name.files.items (file ∷ []) ∙ ap (λ l. l ++ string_bytes file ∷ []) c.loop-name.invariant ∙ sym text

pub returns : goal.returns
returns c = elim c.match-get_strs.branch [
  | in-Some+else-loop-name-test w ↦ ap (λ f. map string_bytes f.items) w.files-is ∙ w.loop-name.invariant ∙ ap (map (λ s. s.now)) (take_all w.loop-name.name-index w.in-Some.names.now w.loop-name-test.false) ∙ ap (λ o. unwrap_or o []) w.in-Some.ensures
  | in_default w ↦ ap (λ f. map string_bytes f.items) w.files-is ∙ ap (map string_bytes) c.new-files.ensures.items ∙ ap (λ o. unwrap_or o []) w.in_default.ensures
]
