-- What the words of the command line ask for.
use Rattle.std.proofs.Common.{◌≡◌, ◌≢◌, ◌∙◌, ℕ, Bool, true, List, [], ◌∷◌, map, inl, inr, Option, option_map, unwrap_or, Vec, String, Global, codes, string_bytes, refl, sym, ap, subst}
use Rattle.link_show.specs.declared.line_options.LineOptions.{LineOptions}
use Rattle.clap.specs.Faults.{fault_of, is_simple_and_free}
use Rattle.clap.specs.Kinds.{HasKind, IsAmong, Kinds}
use Rattle.clap.specs.Matches.{first_value, found_of, matched_of, one_text, raw_values}
use Rattle.clap.specs.Simple.{App, HasMatchesOf, is_simple, matches_of}
use Rattle.clap.specs.Values.{kind_of}
use Rattle.clap.specs.Walk.{Row, all_of, first_of, one_of, rows_of}
use Rattle.clap.specs.declared.error.Error.{Error}
use Rattle.clap.specs.declared.error.kind.ErrorKind.{ErrorKind}
use Rattle.clap.specs.declared.error.kind.ErrorKind.TheVariants.{DisplayHelp, DisplayVersion, OutOfMemory}
use Rattle.clap.specs.declared.parser.matches.ArgMatches.{ArgMatches}
use Rattle.clap.specs.declared.parser.matches.Found.{Found}
use Rattle.clap.proofs.WalkLemmas.{first_value-rows, one_text-rows, raw_values-rows}
use Rattle.show_lines.specs.Arguments.{IsAnyWrong, RunsOrClashes}
use Rattle.show_lines.specs.Command.{Asks, AsksBy, IsCommand, IsFlag, IsReplyTo, RunsBy, app_with, files_rule, flag_rule, form_of}
use Rattle.show_lines.specs.declared.arguments.Request.{Request}

-- an error that asks for no text
pub other_reply : (kind : ErrorKind) (r : Request) → kind ≢ DisplayHelp → kind ≢ DisplayVersion → kind ≢ OutOfMemory → IsAnyWrong r → IsReplyTo kind r
other_reply DisplayHelp r a b m h = absurd (a refl)
other_reply DisplayVersion r a b m h = absurd (b refl)
other_reply OutOfMemory r a b m h = absurd (m refl)
other_reply _ r a b m h = h

-- what the getters find, as a run
pub record Got (f : Found) (r : Request) : Type 0 where
  pub lines : LineOptions
  pub raw : Bool
  pub files : Vec (String Global) Global
  pub check : IsFlag (one_text f (codes "check")) lines.check
  pub brief : IsFlag (one_text f (codes "brief")) lines.brief
  pub is_raw : IsFlag (one_text f (codes "raw")) raw
  pub named : map string_bytes files.items ≡ unwrap_or (option_map raw_values (matched_of f (codes "FILE"))) []
  pub runs : RunsOrClashes (form_of (first_value f (codes "format"))) lines raw files r

-- it is what the rows have
by_rows : (f : Found) (rows : List Row) (r : Request) → rows_of f ≡ rows → Got f r → RunsBy rows r
by_rows f rows r is got =
    let one : (id : List ℕ) → one_text f id ≡ one_of id rows = λ id. one_text-rows f id ∙ ap (one_of id) is in
    record {
      lines = got.lines;
      raw = got.raw;
      files = got.files;
      check = subst (λ t. IsFlag t got.lines.check) (one (codes "check")) got.check;
      brief = subst (λ t. IsFlag t got.lines.brief) (one (codes "brief")) got.brief;
      is_raw = subst (λ t. IsFlag t got.raw) (one (codes "raw")) got.is_raw;
      named = got.named ∙ ap (λ o. unwrap_or o []) (raw_values-rows f (codes "FILE") ∙ ap (all_of (codes "FILE")) is);
      runs = subst (λ t. RunsOrClashes (form_of t) got.lines got.raw got.files r) (first_value-rows f (codes "format") ∙ ap (first_of (codes "format")) is) got.runs;
    }

module _ (app : App) (words all : List (List ℕ)) (r : Request) (is : IsCommand app) (same : words ≡ all) where
  pub found : (m : ArgMatches) → (is_simple_and_free app ≡ true → fault_of app words ≡ []) → HasMatchesOf app words m → Got (found_of m) r → Asks all r
  found m faultless has got =
      let whole = is.2 ∙ ap (λ format. app_with (format ∷ flag_rule (codes "check") ∷ flag_rule (codes "brief") ∷ flag_rule (codes "raw") ∷ files_rule ∷ [])) is.1.2 in
      let none : fault_of app all ≡ [] = ap (fault_of app) (sym same) ∙ faultless (ap is_simple_and_free whole) in
      let rows : rows_of (found_of m) ≡ matches_of app all = (has (ap is_simple whole)).0 ∙ ap (matches_of app) same in
      (app, is, subst (λ kinds. AsksBy kinds (matches_of app all) r) (sym none) (by_rows (found_of m) (matches_of app all) r rows got))

  among : (kinds : Kinds) (rows : List Row) (kind : ErrorKind) → IsAmong kind kinds → IsReplyTo kind r → AsksBy kinds rows r
  among [] rows kind h reply = absurd h
  among (k ∷ ks) rows kind h reply = (kind, h, reply)

  one_kind : (error : Error) → HasKind (fault_of app all) error → IsReplyTo (kind_of error) r → AsksBy (fault_of app all) (matches_of app all) r
  one_kind error (inl memory) reply = absurd (subst (λ k. IsReplyTo k r) memory reply)
  one_kind error (inr h) reply = among (fault_of app all) (matches_of app all) (kind_of error) h reply

  pub refused : (error : Error) → (is_simple_and_free app ≡ true → HasKind (fault_of app words) error) → IsReplyTo (kind_of error) r → Asks all r
  refused error has reply =
      let whole = is.2 ∙ ap (λ format. app_with (format ∷ flag_rule (codes "check") ∷ flag_rule (codes "brief") ∷ flag_rule (codes "raw") ∷ files_rule ∷ [])) is.1.2 in
      (app, is, one_kind error (subst (λ l. HasKind (fault_of app l) error) same (has (ap is_simple_and_free whole))) reply)
