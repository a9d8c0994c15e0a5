use Rattle.std.proofs.Common.{◌≡◌, ◌∙◌, ℕ, Bool, true, false, List, [], ◌∷◌, Some, unwrap_or, codes, map, string_bytes, refl, sym, ap, ap₂, subst}
use Rattle.std.specs.Borrow.{Bor}
use Rattle.clap.specs.Faults.{fault_of}
use Rattle.clap.specs.Simple.{App, matches_of, new_rule}
use Rattle.clap.specs.Walk.{Row, Rule, all_of, first_of, one_of, texts}
use Rattle.clap.specs.declared.builder.value_parser.ValueParser.TheVariants.{Names}
use Rattle.clap.proofs.OnLiterals.{clap_on_literals}
use Rattle.link_show.specs.declared.line_options.LineOptions.{LineOptions}
use Rattle.show_lines.specs.Arguments.{RunsOrClashes, output_of}
use Rattle.show_lines.specs.Command.{Asks, AsksBy, IsRun, RunsBy, app_with, files_rule, flag_rule, form_of}
use Rattle.show_lines.specs.declared.arguments.Form.{Form}
use Rattle.show_lines.specs.declared.arguments.Form.TheVariants as forms
use Rattle.show_lines.specs.declared.arguments.Format.TheVariants.{Plain}
use Rattle.show_lines.specs.declared.arguments.Request.{Request}
use Rattle.show_lines.specs.declared.arguments.Request.TheVariants.{Run}
use Rattle.show_lines.specs.declared.arguments.Task.{Task}
use Rattle.show_lines.proofs.laws.command_lines.Goals as goal

-- ---- what clap is told, by the names of forms

abbrev flags : List Rule
flags = flag_rule (codes "check") ∷ flag_rule (codes "brief") ∷ flag_rule (codes "raw") ∷ files_rule ∷ []

abbrev app : Bor (List (Bor (List ℕ))) → App
app names = app_with (record (new_rule (codes "format")) { long = Some (codes "format"); value_names = 1; parser = Some (Names names); defaults = codes "plain" ∷ [] } ∷ flags)

abbrev formats : List (List ℕ)
formats = codes "plain" ∷ codes "debug" ∷ codes "json" ∷ []

-- what holds of names that are written out
by_texts : (P : Bor (List (Bor (List ℕ))) → Type 0) → ((names : Bor (List (Bor (List ℕ)))) (a b c : Bor (List ℕ)) → P (record names { now = record a { now = codes "plain" } ∷ record b { now = codes "debug" } ∷ record c { now = codes "json" } ∷ [] }))
    → (names : Bor (List (Bor (List ℕ)))) (list : List (Bor (List ℕ))) → texts list ≡ formats → P (record names { now = list })
by_texts P each names [] e = cc
by_texts P each names (a ∷ []) e = cc
by_texts P each names (a ∷ b ∷ []) e = cc
by_texts P each names (a ∷ b ∷ c ∷ d ∷ list) e = cc
by_texts P each names (a ∷ b ∷ c ∷ []) e =
    let at : (List ℕ) → (List ℕ) → (List ℕ) → Type 0 = λ x y z. P (record names { now = record a { now = x } ∷ record b { now = y } ∷ record c { now = z } ∷ [] }) in
    let x : codes "plain" ≡ a.now = cc in
    let y : codes "debug" ≡ b.now = cc in
    let z : codes "json" ≡ c.now = cc in
    subst (λ t. at a.now b.now t) z (subst (λ t. at a.now t (codes "json")) y (subst (λ t. at t (codes "debug") (codes "json")) x (each names a b c)))

-- ---- what it finds

abbrev first : List (List ℕ)
first = codes "nlshow" ∷ codes "--raw" ∷ codes "--check" ∷ codes "x" ∷ codes "-" ∷ []

abbrev second : List (List ℕ)
second = codes "nlshow" ∷ codes "--format=json" ∷ []

first_faults : (names : Bor (List (Bor (List ℕ)))) (a b c : Bor (List ℕ)) → fault_of (app (record names { now = record a { now = codes "plain" } ∷ record b { now = codes "debug" } ∷ record c { now = codes "json" } ∷ [] })) first ≡ []
unfolding clap_on_literals
first_faults names a b c = refl

second_faults : (names : Bor (List (Bor (List ℕ)))) (a b c : Bor (List ℕ)) → fault_of (app (record names { now = record a { now = codes "plain" } ∷ record b { now = codes "debug" } ∷ record c { now = codes "json" } ∷ [] })) second ≡ []
unfolding clap_on_literals
second_faults names a b c = refl

-- the texts of the flags, the name of the form, and those of the files
abbrev Finds : List Row → List ℕ → List ℕ → List ℕ → List ℕ → List (List ℕ) → Type 0
Finds rows check brief raw form files =
    (one_of (codes "check") rows ≡ Some check) × (one_of (codes "brief") rows ≡ Some brief) × (one_of (codes "raw") rows ≡ Some raw) × (first_of (codes "format") rows ≡ Some form) × (unwrap_or (all_of (codes "FILE") rows) [] ≡ files)

first_finds : (names : Bor (List (Bor (List ℕ)))) → Finds (matches_of (app names) first) (codes "true") (codes "false") (codes "true") (codes "plain") (codes "x" ∷ codes "-" ∷ [])
unfolding clap_on_literals
first_finds names = (refl, refl, refl, refl, refl)

second_finds : (names : Bor (List (Bor (List ℕ)))) → Finds (matches_of (app names) second) (codes "false") (codes "false") (codes "false") (codes "json") []
unfolding clap_on_literals
second_finds names = (refl, refl, refl, refl, refl)

-- ---- the request

-- the request is a run by these rows, if there is no error
asked : (words : List (List ℕ)) (request : Request) → ((names : Bor (List (Bor (List ℕ)))) (a b c : Bor (List ℕ)) → fault_of (app (record names { now = record a { now = codes "plain" } ∷ record b { now = codes "debug" } ∷ record c { now = codes "json" } ∷ [] })) words ≡ [])
    → Asks words request → (names : Bor (List (Bor (List ℕ)))) × RunsBy (matches_of (app names) words) request
asked words request none (it, (format, (names, texts_are, rule_is), app_is), by) =
    let is : it ≡ app names = app_is ∙ ap (λ rule. app_with (rule ∷ flags)) rule_is in
    let faultless : fault_of (app names) words ≡ [] = by_texts (λ n. fault_of (app n) words ≡ []) none names names.now texts_are in
    (names, subst (λ kinds. AsksBy kinds (matches_of (app names) words) request) faultless (subst (λ a. AsksBy (fault_of a words) (matches_of a words) request) is by))

abbrev lines_of : Bool → Bool → LineOptions
lines_of check brief = record { check = check; brief = brief }

-- the task of a run in this form, with these options
runs_as : (form : Form) (lines : LineOptions) (rows : List Row) (request : Request) (r : RunsBy rows request) → form_of (first_of (codes "format") rows) ≡ form → r.lines ≡ lines → RunsOrClashes form lines r.raw r.files request
runs_as form lines rows request r is these = subst (λ l. RunsOrClashes form l r.raw r.files request) these (subst (λ f. RunsOrClashes f r.lines r.raw r.files request) is r.runs)

pub returns-clause-files : goal.returns-clause-files
returns-clause-files c request asks =
    let (names, r) = asked first request first_faults asks in
    let finds = first_finds names in
    let is = runs_as (forms.Text Plain) (lines_of true false) _ request r (ap form_of finds.3) (ap₂ lines_of (r.check.1 finds.0) (r.brief.2 finds.1)) in
    subst (IsRun _ true _) (sym is) (refl, r.is_raw.1 finds.2, r.named ∙ finds.4)

pub returns-clause-json : goal.returns-clause-json
returns-clause-json c request asks =
    let (names, r) = asked second request second_faults asks in
    let finds = second_finds names in
    let is = runs_as forms.Json (lines_of false false) _ request r (ap form_of finds.3) (ap₂ lines_of (r.check.2 finds.0) (r.brief.2 finds.1)) in
    subst (IsRun _ false _) (sym is) (refl, r.is_raw.2 finds.2, r.named ∙ finds.4)
