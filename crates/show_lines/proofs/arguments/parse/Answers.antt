use Rattle.std.proofs.Common.{◌≡◌, map, ap, string_bytes}
use Rattle.std.proofs.lemmas.Result.{IfOk-weaker}
use Rattle.clap.specs.Simple.{app_of}
use Rattle.show_lines.proofs.Commands.{found, refused}
use Rattle.show_lines.proofs.Requests.{is_run}
use Rattle.show_lines.proofs.arguments.parse.Goals as goal

pub returns-in_ok-named-in-Ok-clause-request : goal.returns-in_ok-named-in-Ok-clause-request
returns-in_ok-named-in-Ok-clause-request c = IfOk-weaker c.request_for.result _ _ (is_run c.chosen.result c.lines_in.result _ _) c.request_for.ensures

pub returns-in_ok-named-in-Ok-clause-asked : goal.returns-in_ok-named-in-Ok-clause-asked
returns-in_ok-named-in-Ok-clause-asked c =
    IfOk-weaker c.request_for.result _ _ (λ r runs. found (app_of c.in_ok-command.field-0) (map string_bytes c.as_slice.result.now) (map string_bytes c.args.arguments.now.items) r c.in_ok-command.ensures (ap (map string_bytes) c.as_slice.ensures.value)
    c.in-Ok.matches c.in-Ok.ensures.kinds c.in-Ok.ensures.matches (record {
      lines = c.lines_in.result;
      raw = c.get_flag.result;
      files = c.in_ok-named-in-Ok.field-0;
      check = c.lines_in.ensures.check;
      brief = c.lines_in.ensures.brief;
      is_raw = (c.get_flag.ensures.none, c.get_flag.ensures.value, c.get_flag.ensures.other);
      named = c.in_ok-named-in-Ok.ensures;
      runs = rw (← c.chosen.ensures) runs;
    })) c.request_for.ensures

pub returns-in-Err-clause-asked : goal.returns-in-Err-clause-asked
returns-in-Err-clause-asked c =
    IfOk-weaker c.reported.result _ _ (λ r reply. refused (app_of c.in_ok-command.field-0) (map string_bytes c.as_slice.result.now) (map string_bytes c.args.arguments.now.items) r c.in_ok-command.ensures (ap (map string_bytes) c.as_slice.ensures.value)
    c.in-Err.error c.in-Err.ensures.kinds reply) c.reported.ensures.reply
