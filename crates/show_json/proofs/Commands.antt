-- What is written for lines is documents.
use Rattle.std.proofs.Common.{◌≡◌, ℕ, Bool, true, false, List, [], Option, Some, None, Result, Ok, Err, codes}
use Rattle.hex.specs.Hex.{decode_of}
use Rattle.hex.specs.declared.error.FromHexError.{FromHexError}
use Rattle.netlink_packet_route.specs.HexText.{digits_of}
use Rattle.show_lines.specs.declared.asking.Asked.{Asked}
use Rattle.show_lines.specs.Digits.{bad_column, bad_hex, without_marks}
use Rattle.show_lines.specs.Show.{ShowsDigits, ShowsLine, TooLong, PassedOver, Known, Unknown, numbered, ShowsAll}
use Rattle.show_json.specs.declared.by_json.Json.{Json as Form}
use Rattle.show_json.specs.Form.{AreDocuments, by_json}
use Rattle.show_json.specs.Line.{refused_json, answered_json}
use Rattle.show_json.proofs.Joined.{none_are, equal_are, each_are}
use Rattle.show_json.proofs.Written.{refused_is, answered_are}

module _ (json : Form) where
  refused_are : (n : ℕ) (text : Option (List ℕ)) (reason out : List ℕ) (well : Bool) → out ≡ refused_json json n text reason → well ≡ false → AreDocuments out well
  refused_are n text reason out well is bad = equal_are out (refused_json json n text reason) well false is bad (refused_is json n text reason)

  decoded_are : (x : ℕ × List ℕ) (asked : Asked) (column : ℕ) (r : Result (List ℕ) FromHexError) (out : List ℕ) (well : Bool) → ShowsDigits (refused_json json) (answered_json json) x asked column r out well → AreDocuments out well
  decoded_are x asked column (Ok s) out well shown = answered_are json x.0 x.1 asked s out well shown
  decoded_are x asked column (Err error) out well (is, bad) = refused_are x.0 (Some x.1) (bad_hex column) out well is bad

  line_are : (x : ℕ × List ℕ) (out : List ℕ) (well : Bool) → ShowsLine (refused_json json) (answered_json json) x out well → AreDocuments out well
  line_are x out well (TooLong long is bad) = refused_are x.0 None (codes "input too long") out well is bad
  line_are x out well (PassedOver short over is good) = equal_are out [] well true is good none_are
  line_are x out well (Known short over asked rest asks shown) = decoded_are x asked (bad_column x.1 rest) (decode_of (digits_of (without_marks rest))) out well shown
  line_are x out well (Unknown short over nothing is bad) = refused_are x.0 (Some x.1) (codes "no such family") out well is bad

pub lines_are : (json : Form) (s out : List ℕ) (whole : Bool) → ShowsAll (by_json json).lines s out whole → AreDocuments out whole
lines_are json s out whole shown =
    let each = shown.shown in
    each_are (ShowsLine (refused_json json) (answered_json json)) (line_are json) (numbered 1 shown.lines) each.answers out whole each.each each.joined each.all
