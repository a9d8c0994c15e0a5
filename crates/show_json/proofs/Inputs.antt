-- What is written for an input is documents.
use Rattle.std.proofs.Common.{ℕ, suc, Bool, true, false, List, [], Option, Some, None, Result, Ok, Err, refl}
use Rattle.link_capture.specs.declared.error.InputError.{InputError}
use Rattle.link_capture.specs.declared.form.Form.{Form as InputForm}
use Rattle.link_capture.specs.declared.other_format.OtherFormat.{OtherFormat}
use Rattle.link_capture.specs.Meaning.{UnitMeaning, Nothing, APacket, AMessage, ATime}
use Rattle.show_captures.specs.Event.{ShowsUnit, ShowsCapture, counted, end_line, is_well}
use Rattle.show_captures.specs.Run.{ShowsForm, ShowsFile, ShowsInput, input_form}
use Rattle.show_json.specs.declared.by_json.Json.{Json as Form}
use Rattle.show_json.specs.Form.{AreDocuments, by_json}
use Rattle.show_json.specs.Unit.{units_json}
use Rattle.show_json.proofs.Commands.{lines_are}
use Rattle.show_json.proofs.Joined.{none_are, both_are, equal_are, each_are}
use Rattle.show_json.proofs.Written.{packet_are, message_are, time_is, error_is, format_is}

module _ (json : Form) where
  unit_are : (x : ℕ × UnitMeaning) (out : List ℕ) (well : Bool) → ShowsUnit (units_json json) x out well → AreDocuments out well
  unit_are (n, Nothing) out well (e, good) = equal_are out [] well true e good none_are
  unit_are (n, APacket p) out well shown = packet_are json (suc n) p out well shown
  unit_are (n, AMessage bytes) out well shown = message_are json bytes out well shown
  unit_are (n, ATime time) out well (shown, good) = equal_are out out well true refl good (time_is json time out shown)

  end_are : (fault : Option (ℕ × InputError)) → AreDocuments (end_line (units_json json) fault) (is_well fault)
  end_are None = none_are
  end_are (Some fault) = error_is json fault.0 fault.1

  capture_are : (form : InputForm) (s out : List ℕ) (whole : Bool) → ShowsCapture (units_json json) form s out whole → AreDocuments out whole
  capture_are form s out whole shown =
      let each = shown.each in
      equal_are out _ whole _ shown.joined shown.all
      (both_are shown.lines (end_line (units_json json) shown.fault) shown.well (is_well shown.fault)
      (each_are (ShowsUnit (units_json json)) unit_are (counted 0 shown.units) each.answers shown.lines shown.well each.each each.joined each.all)
      (end_are shown.fault))

  form_are : (form : Option InputForm) (s out : List ℕ) (whole : Bool) → ShowsForm (by_json json) form s out whole → AreDocuments out whole
  form_are None s out whole shown = lines_are json s out whole shown
  form_are (Some form) s out whole shown = capture_are form s out whole shown

  file_are : (file : Result (Option InputForm) OtherFormat) (s out : List ℕ) (whole : Bool) → ShowsFile (by_json json) file s out whole → AreDocuments out whole
  file_are (Ok form) s out whole shown = form_are form s out whole shown
  file_are (Err format) s out whole (e, bad) = equal_are out _ whole false e bad (format_is json format)

pub input_are : (json : Form) (raw : Bool) (s out : List ℕ) (whole : Bool) → ShowsInput (by_json json) raw s out whole → AreDocuments out whole
input_are json raw s out whole shown = file_are json (input_form raw s) s out whole shown
