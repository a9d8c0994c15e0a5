-- Texts on one line, and lines that are added to a text.
use Rattle.std.proofs.Common.{◌≡◌, ◌≢◌, ℕ, ◌+◌, ◌<◌, ◌==◌, Bool, true, false, List, [], ◌∷◌, ◌++◌, length, Result, Ok, Err, OnOk, if◌then◌else◌, arith, refl, sym, ap, ◌∙◌, append_assoc, length-append, codes}
use Rattle.std.specs.Prelude.{is_ok}
use Rattle.std.specs.List.{flat_map, before_first, after_first, position_or_len}
use Rattle.std.proofs.lemmas.Bool.{eqb-true, eqb-false}
use Rattle.std.proofs.lemmas.List.{append-nil}
use Rattle.std.proofs.lemmas.Grind.{flat_map-append}
use Rattle.netlink_packet_route.specs.Report.{line}
use Rattle.show_lines.specs.List.{AddsLines, IsUnbroken, unbroken}
use Rattle.show_lines.proofs.Cuts.{all_append, cut_lf, is_lf, unbroken_first, unbroken_whole}

-- a text without LF stays as it is
kept_byte : (b : ℕ) (t : Bool) → (b == 10) ≡ t → b ≢ 10 → (if t then codes "\\n" else b ∷ []) ≡ b ∷ []
kept_byte b true e other = absurd (other (eqb-true b 10 e))
kept_byte b false e other = refl

unbroken_kept : (text : List ℕ) → IsUnbroken text → unbroken text ≡ text
unbroken_kept [] h = refl
unbroken_kept (b ∷ text) h = ap (λ l. l ++ unbroken text) (kept_byte b (b == 10) refl h.0) ∙ ap (λ l. b ∷ l) (unbroken_kept text h.1)

-- no LF is left
left_byte : (b : ℕ) (t : Bool) → (b == 10) ≡ t → IsUnbroken (if t then codes "\\n" else b ∷ [])
left_byte b true e = (λ z. eqb-false 92 10 refl z, (λ z. eqb-false 110 10 refl z, tt))
left_byte b false e = (eqb-false b 10 e, tt)

pub is_unbroken : (text : List ℕ) → IsUnbroken (unbroken text)
is_unbroken [] = tt
is_unbroken (b ∷ text) = all_append (λ b. b ≢ 10) (if b == 10 then codes "\\n" else b ∷ []) (unbroken text) (left_byte b (b == 10) refl) (is_unbroken text)

-- ---- what was added to a text

-- up to the first LF, and what stands for it
pub front_added : (old words cur rest line after s t : List ℕ) → old ++ unbroken words ≡ cur ++ unbroken rest → position_or_len is_lf rest < length rest → line ≡ before_first is_lf rest → after ≡ after_first is_lf rest → s ≡ cur ++ line
    → t ≡ s ++ codes "\\n" → old ++ unbroken words ≡ t ++ unbroken after
front_added old words cur rest line after s t so_far some l a first second =
    let cut = ap unbroken (cut_lf rest line after some l a) ∙ flat_map-append (λ b. if b == 10 then codes "\\n" else b ∷ []) line (10 ∷ after) ∙ ap (λ x. x ++ (codes "\\n" ++ unbroken after)) (unbroken_kept line (unbroken_first rest line l)) in
    let shape = append_assoc (cur ++ line) (codes "\\n") (unbroken after) ∙ append_assoc cur line (codes "\\n" ++ unbroken after) in
    so_far ∙ ap (λ x. cur ++ x) cut ∙ sym (ap (λ x. x ++ unbroken after) (second ∙ ap (λ x. x ++ codes "\\n") first) ∙ shape)

-- the rest, which has no LF
pub rest_added : {X E : Type 0} (r : Result X E) (old words cur rest new : List ℕ) → old ++ unbroken words ≡ cur ++ unbroken rest → position_or_len is_lf rest ≡ length rest → new ≡ (if is_ok r then cur ++ rest else cur)
    → OnOk r (new ≡ old ++ unbroken words)
rest_added (Ok x) old words cur rest new so_far none h = h ∙ sym (so_far ∙ ap (λ l. cur ++ l) (unbroken_kept rest (unbroken_whole rest (sym none))))
rest_added (Err e) old words cur rest new so_far none h = tt

-- no lines, and one line more
pub lines_none : (indent old : List ℕ) → AddsLines indent 0 old old
lines_none indent old = ([], ([], refl, tt, refl), sym (append-nil old))

pub lines_more : (indent old a b c d e words : List ℕ) (n : ℕ) → AddsLines indent n old a → b ≡ a ++ indent → c ≡ b ++ codes "  " → d ≡ c ++ words → e ≡ d ++ 10 ∷ [] → IsUnbroken words → AddsLines indent (n + 1) old e
lines_more indent old a b c d e words n h eb ec ed ee solid =
    let lines : List ℕ → List ℕ = λ w. line (indent ++ (codes "  " ++ w)) in
    let one : List ℕ = lines words in
    let shift : (((a ++ indent) ++ codes "  ") ++ words) ++ 10 ∷ [] ≡ a ++ one = simp append_assoc in (
      h.0 ++ one,
      (
        h.1.0 ++ words ∷ [],
        omega (arith, length-append h.1.0 (words ∷ []), h.1.1),
        all_append IsUnbroken h.1.0 (words ∷ []) h.1.2 (solid, tt),
        ap (λ l. l ++ one) h.1.3 ∙ sym (flat_map-append lines h.1.0 (words ∷ []) ∙ ap (λ l. flat_map lines h.1.0 ++ l) (append-nil one)),
      ),
      ee ∙ ap (λ l. l ++ 10 ∷ []) (ed ∙ ap (λ l. l ++ words) (ec ∙ ap (λ l. l ++ codes "  ") eb)) ∙ shift ∙ ap (λ l. l ++ one) h.2 ∙ append_assoc old h.0 one,
    )
