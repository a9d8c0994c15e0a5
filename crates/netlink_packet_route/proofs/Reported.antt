-- The lines of a report, one after another.
use Rattle.std.proofs.Common.{◌≡◌, ℕ, ◌+◌, ◌<◌, List, [], ◌∷◌, ◌++◌, length, take, map, flat_map, get_or, refl, sym, ap, ap₂, subst, ◌∙◌, arith}
use Rattle.std.specs.List.{AllByRecursion}
use Rattle.std.proofs.lemmas.List.{take_more, map-append, append-nil}
use Rattle.std.proofs.lemmas.Grind.{flat_map-append}
use Rattle.link_base.specs.Table.{Table, AttrValue, written_kind, written_payload, Fits}
use Rattle.link_base.specs.Answers.{capped}
use Rattle.link_base.proofs.Emit.{all_at}
use Rattle.netlink_packet_route.specs.Rewrite.{WritesValues}
use Rattle.netlink_packet_route.specs.Report.{attr_line, attr_line_of, out_line, Verdict, Prints, Success}

-- one more line
pub attr_more : {X : Type 0} (means : X → AttrValue) (xs : List X) (i : ℕ) (x : X) (kind size : ℕ) (old new : List ℕ) → AllByRecursion Fits (map means xs) → i < length xs → x ≡ get_or xs i x
    → kind ≡ written_kind (means x) → size ≡ capped (length (written_payload (means x))) → old ≡ flat_map attr_line (map means (take i xs)) → new ≡ old ++ attr_line_of kind size
    → new ≡ flat_map attr_line (map means (take (i + 1) xs))
attr_more means xs i x kind size old new all lt is kind_is size_is so_far more =
    let fits : Fits (means x) = subst (λ y. Fits (means y)) (sym is) (all_at means Fits xs i x all lt) in
    let len : size ≡ length (written_payload (means x)) = omega (arith, size_is, fits) in
    let one : map means (take (i + 1) xs) ≡ map means (take i xs) ++ means x ∷ [] = ap (map means) (take_more xs i x lt ∙ ap (λ y. take i xs ++ y ∷ []) (sym is)) ∙ map-append means (take i xs) (x ∷ []) in
    more ∙ ap₂ (λ a b. a ++ b) so_far (ap₂ attr_line_of kind_is len)
    ∙ sym (ap (flat_map attr_line) one ∙ flat_map-append attr_line (map means (take i xs)) (means x ∷ []) ∙ ap (λ t. flat_map attr_line (map means (take i xs)) ++ t) (append-nil (attr_line (means x))))

-- the lines of values that were read and written
pub success : {X : Type 0} (table : Table) (means : X → AttrValue) (s : List ℕ) (xs zs : List X) (o o2 o3 text new verdict : List ℕ) → zs ≡ xs → o2 ≡ o → o3 ≡ o
    → WritesValues table s (map means xs) o → text ≡ flat_map attr_line (map means zs) ++ out_line o2 → Verdict o3 s verdict → new ≡ text ++ verdict → Prints table s new 0
success table means s xs zs o o2 o3 text new verdict ez e2 e3 w lines judged more =
    Success (map means xs) verdict w.wire w.fit (subst (λ t. Verdict t s verdict) (e3 ∙ w.written) judged)
    (more ∙ ap (λ t. t ++ verdict) (lines ∙ ap₂ (λ us t. flat_map attr_line (map means us) ++ out_line t) ez (e2 ∙ w.written))) refl
