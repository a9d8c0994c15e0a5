-- What is written is documents.
use Rattle.std.proofs.Common.{◌≡◌, ℕ, Bool, true, false, List, [], ◌∷◌, ◌++◌, length, drop, Option, Some, None, refl, sym, subst, codes}
use Rattle.std.proofs.lemmas.List.{append-nil}
use Rattle.json.specs.Json.{Json}
use Rattle.link_capture.specs.declared.error.InputError.{InputError}
use Rattle.link_capture.specs.declared.event.Time.{Time}
use Rattle.link_capture.specs.declared.other_format.OtherFormat.{OtherFormat}
use Rattle.link_capture.specs.ErrorText.{bytes_text, error_text}
use Rattle.link_capture.specs.OtherFormat.{format_text}
use Rattle.link_capture.specs.Meaning.{Captured}
use Rattle.link_json.specs.Doc.{Field}
use Rattle.link_json.specs.Line.{IsPlace}
use Rattle.link_json.specs.Message.{document_line}
use Rattle.link_json.specs.Other.{place_document, ShowsListDocument, ShowsCheck}
use Rattle.link_json.proofs.Lines as documents
use Rattle.link_json.proofs.Lines.{IsDocument, says_ok, line, each_line}
use Rattle.link_json.proofs.Oks.{one_says}
use Rattle.show_captures.specs.Packet.{Other, Short, OtherProtocol, Route}
use Rattle.show_lines.specs.declared.asking.Asked.{Asked}
use Rattle.show_lines.specs.declared.asking.Asked.TheVariants.{Messages, Attributes, Verdict}
use Rattle.show_json.specs.declared.by_json.Json.{Json as Form}
use Rattle.show_json.specs.Form.{AreDocuments}
use Rattle.show_json.specs.Line.{ShowsOne, ShowsDocuments, ShowsAsked, fault_line, refused_json, answered_json}
use Rattle.show_json.specs.Place.{file_of, file_fields, line_fields, time_fields, packet_fields}
use Rattle.show_json.specs.Unit.{ShowsPacketAt, short_line, units_json}
use Rattle.show_json.proofs.Sources.{file_place, line_place, time_place, packet_place}

-- ---- documents from a place

-- one document
one : {place : List Field} {j : Json} {well : Bool} → IsPlace place → IsDocument place j well → AreDocuments (document_line j) well
one {j = j} {well = well} is h = record { documents = j ∷ []; each = (line is h, tt); oks = one_says j well (says_ok h); joined = sym (append-nil (document_line j)) }

one_shown : (place : List Field) (shows : Json → Bool → Type 0) (out : List ℕ) (well : Bool) → IsPlace place → ((j : Json) → shows j well → IsDocument place j well) → ShowsOne shows out well
    → AreDocuments out well
one_shown place shows out well is document (j, shown, e) = subst (λ o. AreDocuments o well) (sym e) (one is (document j shown))

module _ (place : List Field) (is : IsPlace place) where
  place_is : AreDocuments (document_line (place_document place)) true
  place_is = one is (documents.place_is place)

  fault_is : (at : Option ℕ) (text : List ℕ) → AreDocuments (fault_line place at text) false
  fault_is at text = one is (documents.fault_is place at text)

  messages_are : (bytes out : List ℕ) (well : Bool) → ShowsDocuments place bytes out well → AreDocuments out well
  messages_are bytes out well (js, shown, e) =
      let each = documents.messages_are place bytes js well shown in
      record { documents = js; each = each_line is js each.1; oks = each.0; joined = e }

  asked_are : (asked : Asked) (bytes out : List ℕ) (well : Bool) → ShowsAsked place asked bytes out well → AreDocuments out well
  asked_are Messages bytes out well shown = messages_are bytes out well shown
  asked_are (Attributes family) bytes out well shown =
      one_shown place (ShowsListDocument place family bytes) out well is (λ j s. documents.list_is place family bytes j well s) shown
  asked_are (Verdict family) bytes out well shown =
      one_shown place (ShowsCheck place family bytes) out well is (λ j s. documents.check_is place family bytes j well s) shown

  -- the output is that of the place, and the input has no error
  place_shown : (out : List ℕ) (well : Bool) → out ≡ document_line (place_document place) → well ≡ true → AreDocuments out well
  place_shown out well e good = subst (λ o. AreDocuments o well) (sym e) (subst (AreDocuments (document_line (place_document place))) (sym good) place_is)

  packet_is : (p : Captured) (out : List ℕ) (well : Bool) → ShowsPacketAt place p out well → AreDocuments out well
  packet_is p out well (Other type e good) = place_shown out well e good
  packet_is p out well (Short type short e bad) =
      subst (λ o. AreDocuments o well) (sym e) (subst (AreDocuments (short_line place (length p.bytes))) (sym bad) (fault_is (Some 0) (bytes_text (length p.bytes) ++ codes ", too few for a cooked header")))
  packet_is p out well (OtherProtocol type long protocol e good) = place_shown out well e good
  packet_is p out well (Route type long protocol shown) = messages_are (drop 16 p.bytes) out well shown

-- ---- lines

pub refused_is : (json : Form) (n : ℕ) (text : Option (List ℕ)) (reason : List ℕ) → AreDocuments (refused_json json n text reason) false
refused_is json n text reason = fault_is (line_fields (file_of json) n) (line_place (file_of json) n) None reason

pub answered_are : (json : Form) (n : ℕ) (text : List ℕ) (asked : Asked) (bytes out : List ℕ) (well : Bool)
    → answered_json json (n, text) asked bytes out well → AreDocuments out well
answered_are json n text asked bytes out well shown = asked_are (line_fields (file_of json) n) (line_place (file_of json) n) asked bytes out well shown

-- ---- units

pub packet_are : (json : Form) (n : ℕ) (p : Captured) (out : List ℕ) (well : Bool) → (units_json json).packets n p out well → AreDocuments out well
packet_are json n p out well (clock, is, shown) =
    packet_is (packet_fields (file_of json) n clock p) (packet_place (file_of json) n clock p is) p out well shown

pub message_are : (json : Form) (bytes out : List ℕ) (well : Bool) → (units_json json).messages bytes out well → AreDocuments out well
message_are json bytes out well shown = messages_are (file_fields (file_of json)) (file_place (file_of json)) bytes out well shown

pub time_is : (json : Form) (time : Time) (out : List ℕ) → (units_json json).times time out → AreDocuments out true
time_is json time out (clock, is, e) = place_shown (time_fields (file_of json) clock) (time_place (file_of json) time clock is) out true e refl

pub error_is : (json : Form) (at : ℕ) (error : InputError) → AreDocuments ((units_json json).errors at error) false
error_is json at error = fault_is (file_fields (file_of json)) (file_place (file_of json)) (Some at) (error_text error)

pub format_is : (json : Form) (format : OtherFormat) → AreDocuments ((units_json json).formats format) false
format_is json format = fault_is (file_fields (file_of json)) (file_place (file_of json)) None (format_text format)
