-- Requests that the arguments make.
use Rattle.std.proofs.Common.{◌≡◌, ◌∙◌, ◌||◌, if◌then◌else◌, Bool, true, false, List, ℕ, Some, None, Vec, String, Global, refl, sym, subst, codes}
use Rattle.link_show.specs.declared.line_options.LineOptions.{LineOptions}
use Rattle.show_lines.specs.Arguments.{IsRequest, IsWrong, clash_among, RunsUnless, RunsOrClashes}
use Rattle.show_lines.specs.declared.arguments.Task.{Task}
use Rattle.show_lines.specs.Show.{IsUnbroken}
use Rattle.show_lines.specs.declared.arguments.Form.{Form}
use Rattle.show_lines.specs.declared.arguments.Form.TheVariants as forms
use Rattle.show_lines.specs.declared.arguments.Format.TheVariants.{Plain, Debug}
use Rattle.show_lines.specs.declared.arguments.Request.{Request}
use Rattle.show_lines.specs.declared.arguments.Request.TheVariants.{Run, Print}
use Rattle.show_lines.specs.declared.replies.Reply.TheVariants.{Help, Version, Wrong}
use Rattle.show_lines.proofs.Cuts.{unbroken_first}

-- what is wrong, in one line
pub is_wrong : (line : List ℕ) (r : Request) → IsUnbroken line → IsWrong line r → IsRequest r
is_wrong line (Print (Wrong text)) solid h = (line, solid, h)
is_wrong line (Print Help) solid h = absurd h
is_wrong line (Print Version) solid h = absurd h
is_wrong line (Run task) solid h = absurd h

-- the clash of an option
clash_is : (lines : LineOptions) (check brief : List ℕ) (task : Task) (r : Request) → IsUnbroken check → IsUnbroken brief
    → ((lines.check || lines.brief) ≡ false → IsRequest (Run task)) → RunsUnless (clash_among lines check brief) task r → IsRequest r
clash_is lines check brief task r first second plain h = by_tests lines.check lines.brief plain h
  where
    by_tests : (c b : Bool) → ((c || b) ≡ false → IsRequest (Run task)) → RunsUnless (if c then Some check else (if b then Some brief else None)) task r → IsRequest r
    by_tests true b plain h = is_wrong check r first h
    by_tests false true plain h = is_wrong brief r second h
    by_tests false false plain h = subst IsRequest (sym h) (plain refl)

-- a run, or the clash of two options
pub is_run : (form : Form) (lines : LineOptions) (raw : Bool) (files : Vec (String Global) Global) (r : Request) → RunsOrClashes form lines raw files r → IsRequest r
is_run (forms.Text Plain) lines raw files r h = subst IsRequest (sym h) (λ both. let e : Plain ≡ Debug = both.0 in cc)
is_run (forms.Text Debug) lines raw files r h =
    let check = codes "error: the argument '--format debug' cannot be used with '--check'" in
    let brief = codes "error: the argument '--format debug' cannot be used with '--brief'" in
    clash_is lines check brief _ r (unbroken_first check check refl) (unbroken_first brief brief refl) (λ none both. let e : false ≡ true = sym none ∙ both.1 in cc) h
is_run forms.Json lines raw files r h =
    let check = codes "error: the argument '--format json' cannot be used with '--check'" in
    let brief = codes "error: the argument '--format json' cannot be used with '--brief'" in
    clash_is lines check brief _ r (unbroken_first check check refl) (unbroken_first brief brief refl) (λ none. tt) h
