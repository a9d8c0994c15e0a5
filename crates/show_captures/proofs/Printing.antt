-- What is written for captures, in the plain form, is printable.
use Rattle.std.proofs.Common.{ℤ, pos, negsuc, ◌≡◌, ◌<◌, ◌≤◌, ◌+◌, ◌-◌, ◌*◌, ◌&&◌, ◌||◌, true, false, if◌then◌else◌, ◌/◌, ◌%◌, ◌^◌, ◌==◌, zero, suc, min, ℕ, Bool, List, [], ◌∷◌, ◌++◌, length, take, drop, slice_get, nat_lt, Option, Some, None, Result, Ok, Err, codes, refl, sym, subst, arith}
use Rattle.std.specs.Fmt.{decimal}
use Rattle.std.specs.List.{AllByRecursion}
use Rattle.std.proofs.lemmas.Bool.Decides.{nat_tests}
use Rattle.std.proofs.lemmas.Nat.{div_below}
use Rattle.std.proofs.Math.Nat.{mod-lt}
use Rattle.jiff_core.specs.Calendar.{IsYear}
use Rattle.jiff_core.specs.declared.civil.date.Date.{Date}
use Rattle.jiff_core.specs.declared.civil.time.Time.{Time as ClockTime}
use Rattle.jiff_core.proofs.SignedLemmas.{signed_arith}
use Rattle.jiff_core.proofs.CalendarLemmas.{days_in_month_bounds}
use Rattle.jiff_fmt.specs.Text.{pad2, pad4, year_text, date_text, time_text, fraction_part, places}
use Rattle.jiff_fmt.proofs.ReaderLemmas.{tenth, ten_pow-pos}
use Rattle.jiff_fmt.proofs.TextLemmas.{tenth_place, places-step, places-end}
use Rattle.link_base.specs.Number.{IsBytes}
use Rattle.link_base.specs.Labels.{name_in}
use Rattle.link_base.specs.WellFormed.{is_printable}
use Rattle.link_capture.specs.declared.error.Head.{Head}
use Rattle.link_capture.specs.declared.error.Head.TheVariants as heads
use Rattle.link_capture.specs.declared.error.InputError.{InputError}
use Rattle.link_capture.specs.declared.error.InputError.TheVariants as errors
use Rattle.link_capture.specs.declared.error.Size.{Size}
use Rattle.link_capture.specs.declared.error.Size.TheVariants as sizes
use Rattle.link_capture.specs.declared.event.Time.{Time}
use Rattle.link_capture.specs.declared.form.Form.{Form}
use Rattle.link_capture.specs.declared.form.Form.TheVariants as forms
use Rattle.link_capture.specs.declared.order.Order.{Order}
use Rattle.link_capture.specs.declared.order.Order.TheVariants.{Little}
use Rattle.link_capture.specs.declared.other_format.OtherFormat.{OtherFormat}
use Rattle.link_capture.specs.declared.other_format.OtherFormat.TheVariants as formats
use Rattle.link_capture.specs.ErrorText.{head_text, size_text, bytes_text, error_text}
use Rattle.link_capture.specs.Order.{number_at}
use Rattle.link_capture.specs.OtherFormat.{format_text}
use Rattle.link_capture.specs.Meaning.{UnitMeaning, Nothing, APacket, AMessage, ATime, Captured, State}
use Rattle.link_capture.specs.Unit.{Leads}
use Rattle.link_capture.proofs.Kept.{AreKept, HasAll, leads_has}
use Rattle.link_show.specs.Printable.{IsText, AreTexts}
use Rattle.link_base.proofs.Values.{bytes-take, bytes-drop}
use Rattle.link_show.proofs.Printing.{text, none, one, and, either, decimal_text}
use Rattle.link_show.proofs.LinePrinting.{no_texts, and_texts, IsLine, line_end, line_and, line_texts, each_texts}
use Rattle.link_show.proofs.ValuePrinting.{OnText, each_name, name_found}
use Rattle.link_show.proofs.MessagePrinting.{messages_texts}
use Rattle.show_lines.specs.declared.arguments.Options.{Options}
use Rattle.show_lines.specs.declared.arguments.Format.TheVariants.{Plain}
use Rattle.show_lines.specs.Show.{ShowsBare}
use Rattle.show_lines.proofs.Printed.{all_repeats}
use Rattle.show_captures.specs.Protocol.{protocols}
use Rattle.show_captures.specs.Time.{IsTimeText, InRange, OutOfRange}
use Rattle.show_captures.specs.Packet.{original_part, protocol_name, protocol_part, protocol_of, type_part, packet_line, short_line, ShowsBelow, Other, Short, OtherProtocol, Route, ShowsPacket}
use Rattle.show_captures.specs.ByOptions.{ShowsTime, units_by_options, by_options}
use Rattle.show_captures.specs.Event.{ShowsUnit, packets_to, counted, end_line, ShowsCapture}
use Rattle.show_captures.specs.Run.{ShowsForm, ShowsFile, PrintsForm, PrintsFile, ShowsInput, input_form}

-- ---- instants

digit : (d : ℕ) → d < 10 → is_printable (48 + d) ≡ true
digit d h = grind (arith, nat_tests, h)

pad2_text : (n : ℕ) → n < 100 → IsText (pad2 n)
pad2_text n h = one (digit (n / 10) (omega (arith, h))) (one (digit (n % 10) (omega arith)) none)

pad4_text : (n : ℕ) → n < 10_000 → IsText (pad4 n)
pad4_text n h = and (pad2_text (n / 100) (omega (arith, h))) (pad2_text (n % 100) (omega arith))

year_is_text : (y : ℤ) → IsYear y → IsText (year_text y)
year_is_text (pos n) h = pad4_text n (omega (arith, signed_arith, h.0, h.1))
year_is_text (negsuc n) h = and {s = codes "-00"} (text refl) (pad4_text (suc n) (omega (arith, signed_arith, h.0, h.1)))

date_is_text : (d : Date) → IsText (date_text d)
date_is_text d =
    let month = pad2_text d.month (omega (arith, d.month_in.1)) in
    let day = pad2_text d.day (omega (arith, d.day_in.1, (days_in_month_bounds d.year d.month).0)) in
    let dash : IsText (45 ∷ []) = text refl in
    and (and (and (and (year_is_text d.year d.year_in) dash) month) dash) day

places_text : (k j m : ℕ) → k ≤ j → m < 10 ^ j → IsText (places k (10 ^ j) m)
places_text zero j m h b = subst IsText (sym (places-end 0 (10 ^ j) m refl)) none
places_text (suc k) zero m h b = absurd (omega (arith, h))
places_text (suc k) (suc j) m h b =
    let power = 10 ^ j in
    let tens : 10 ^ suc j / 10 ≡ power = tenth_place (suc j) j refl in
    let whole : 10 ^ suc j ≡ 10 * power = tenth (suc j) j refl in
    let positive = ten_pow-pos j in
    let first : m / power < 10 = div_below m power 10 positive (omega (arith, whole, b)) in
    let step : places (suc k) (10 ^ suc j) m ≡ (48 + m / power) ∷ places k power (m % power) = rw (← tens) (places-step (suc k) k (10 ^ suc j) m refl) in
    subst IsText (sym step) (one (digit (m / power) first) (places_text k j (m % power) (omega (arith, h)) (mod-lt m positive)))

fraction_is_text : (digits n : ℕ) → n < 1_000_000_000 → IsText (fraction_part (Some digits) n)
fraction_is_text digits n h = either (digits == 0) none (one {b = 46} refl (places_text (min digits 9) 9 n (omega arith) h))

clock_is_text : (digits : ℕ) (t : ClockTime) → IsText (time_text (Some digits) t)
clock_is_text digits t =
    and (pad2_text t.hour (omega (arith, t.hour_in)))
    (one {b = 58} refl (and (pad2_text t.minute (omega (arith, t.minute_in))) (one {b = 58} refl (and (pad2_text t.second (omega (arith, t.second_in))) (fraction_is_text digits t.subsec_nanosecond t.subsec_in)))))

instant_is_text : (time : Time) (t : List ℕ) → IsTimeText time t → IsText t
instant_is_text time t (InRange has (clock, same, is)) = subst IsText (sym is) (and (and (date_is_text clock.date) (one {b = 84} refl (clock_is_text time.digits clock.time))) (one {b = 90} refl none))
instant_is_text time t (OutOfRange has is) = subst IsText (sym is) (text refl)

-- ---- errors that end an input

count_is_text : (n : ℕ) → IsText (bytes_text n)
count_is_text n = either (n == 1) (text refl) (and (decimal_text n) (text refl))

head_is_text : (head : Head) → IsText (head_text head)
head_is_text heads.Pcap = text refl
head_is_text heads.Record = text refl
head_is_text heads.Block = text refl
head_is_text heads.Message = text refl

size_is_text : (size : Size) → IsText (size_text size)
size_is_text sizes.Record = text refl
size_is_text sizes.Block = text refl
size_is_text sizes.Section = text refl
size_is_text sizes.Interface = text refl
size_is_text sizes.Packet = text refl
size_is_text sizes.Captured = text refl
size_is_text sizes.Message = text refl

-- two numbers, each after a text, and a text
two_numbers : (a b c : List ℕ) (m n : ℕ) → IsText a → IsText b → IsText c → IsText (a ++ (decimal m ++ (b ++ (decimal n ++ c))))
two_numbers a b c m n h k l = and h (and (decimal_text m) (and k (and (decimal_text n) l)))

-- a size and a number
sized : (size : Size) (n : ℕ) {more : List ℕ} → IsText more → IsText (size_text size ++ (codes " " ++ (decimal n ++ more)))
sized size n h = and (size_is_text size) (and {s = codes " "} (text refl) (and (decimal_text n) h))

error_is_text : (error : InputError) → IsText (error_text error)
error_is_text (errors.Short head left) = and (count_is_text left) (head_is_text head)
error_is_text (errors.Small size n least) = sized size n (and {s = codes " is below "} (text refl) (decimal_text least))
error_is_text (errors.Large size n) = sized size n (text refl)
error_is_text (errors.Overrun size n left) = sized size n (and {s = codes " exceeds the "} (text refl) (and (count_is_text left) (text refl)))
error_is_text (errors.Odd n) = and {s = codes "block length "} (text refl) (and (decimal_text n) (text refl))
error_is_text (errors.Unequal first last) = two_numbers (codes "block lengths ") (codes " and ") (codes " differ") first last (text refl) (text refl) (text refl)
error_is_text errors.NoMagic = text refl
error_is_text (errors.PcapVersion major minor) = two_numbers (codes "pcap version ") (codes ".") (codes ", expected 2.4") major minor (text refl) (text refl) (text refl)
error_is_text (errors.PcapngVersion major minor) = two_numbers (codes "pcapng version ") (codes ".") (codes ", expected 1.0") major minor (text refl) (text refl) (text refl)
error_is_text (errors.LinkType n) = and {s = codes "link type "} (text refl) (and (decimal_text n) (text refl))
error_is_text (errors.Unread kind) = and {s = codes "block type "} (text refl) (and (decimal_text kind) (text refl))
error_is_text errors.Interfaces = text refl
error_is_text (errors.OptionOverrun code n left) =
    and {s = codes "option "} (text refl) (and (decimal_text code) (and {s = codes " has "} (text refl) (and (count_is_text n) (and {s = codes ", but "} (text refl) (and (decimal_text left) (text refl))))))
error_is_text (errors.ResolutionLength n) = and {s = codes "if_tsresol has "} (text refl) (and (count_is_text n) (text refl))
error_is_text (errors.Resolution n) = and {s = codes "if_tsresol "} (text refl) (and (decimal_text n) (text refl))
error_is_text (errors.OffsetLength n) = and {s = codes "if_tsoffset has "} (text refl) (and (count_is_text n) (text refl))
error_is_text (errors.Interface n) = and {s = codes "interface "} (text refl) (and (decimal_text n) (text refl))

format_is_text : (format : OtherFormat) → IsText (format_text format)
format_is_text formats.Gzip = text refl
format_is_text formats.Xz = text refl
format_is_text formats.Zstd = text refl
format_is_text formats.Bzip2 = text refl
format_is_text formats.Lz4 = text refl
format_is_text formats.ModifiedPcap = text refl
format_is_text formats.Snoop = text refl
format_is_text formats.Messages = text refl

end_texts : (options : Options) (fault : Option (ℕ × InputError)) → AreTexts (end_line (units_by_options options) fault)
end_texts options None = no_texts
end_texts options (Some fault) = line_texts (line_and {t = codes "input error at "} (text refl) (line_and (decimal_text fault.0) (line_and {t = codes ": "} (text refl) (line_end (error_is_text fault.1)))))

-- ---- packets

named_protocol : (name : Option (List ℕ)) (n : ℕ) → OnText name → IsText (protocol_name name n)
named_protocol None n h = decimal_text n
named_protocol (Some name) n h = and h (and {s = codes " ("} (text refl) (and (decimal_text n) (text refl)))

protocol_is_text : (n : ℕ) → IsText (protocol_part n)
protocol_is_text n = either (n == 0) none (and {s = codes " protocol "} (text refl) (named_protocol (name_in protocols n) n (name_found protocols (each_name protocols refl) n)))

original_is_text : (captured original : ℕ) → IsText (original_part captured original)
original_is_text captured original = either (original == captured) none (and {s = codes " of "} (text refl) (decimal_text original))

type_is_text : (p : Captured) → IsText (type_part p)
type_is_text p = either (p.link_type == 253) (either (nat_lt (length p.bytes) 16) none (protocol_is_text (protocol_of p.bytes))) (and {s = codes " link type "} (text refl) (decimal_text p.link_type))

packet_is_line : (number : ℕ) (time : List ℕ) (p : Captured) → IsText time → IsLine (packet_line number time p)
packet_is_line number time p h =
    line_and {t = codes "packet "} (text refl)
    (line_and (decimal_text number) (line_and {t = codes " time "} (text refl) (line_and h (line_and {t = codes " len "} (text refl) (line_and (decimal_text (length p.bytes)) (line_and (original_is_text (length p.bytes) p.original) (line_end (type_is_text p))))))))

short_texts : (n : ℕ) → AreTexts (short_line n)
short_texts n = line_texts (line_and {t = codes "  error at 0: "} (text refl) (line_and (count_is_text n) (line_end {t = codes ", too few for a cooked header"} (text refl))))

-- ---- the bytes in units

abbrev OfBytes : Captured → Type 0
OfBytes p = IsBytes p.bytes

abbrev HasBytes : UnitMeaning → Type 0
HasBytes = HasAll IsBytes OfBytes (λ interface. Unit {0})

bytes_kept : AreKept IsBytes OfBytes (λ interface. Unit {0})
bytes_kept = record {
  taken = bytes-take;
  dropped = bytes-drop;
  described = λ order u clock h. tt;
  packed = λ time order u interface bytes h known k. k;
  recorded = λ time order u bytes h k. k;
}

-- those of all units, each with the number of packets before it
numbered : (k : ℕ) (units : List UnitMeaning) → AllByRecursion HasBytes units → AllByRecursion (λ x. HasBytes x.1) (counted k units)
numbered k [] h = tt
numbered k (meaning ∷ units) h = (h.0, numbered (packets_to k meaning) units h.1)

leads_bytes : (k : ℕ) (state : State) (at : ℕ) (s : List ℕ) (units : List UnitMeaning) (last : State) (end : ℕ) (left : List ℕ) → AllByRecursion (λ interface. Unit {0}) state.interfaces → IsBytes s → Leads state at s units last end left
    → AllByRecursion (λ x. HasBytes x.1) (counted k units)
leads_bytes k state at s units last end left known h leads = numbered k units (leads_has IsBytes OfBytes (λ interface. Unit {0}) bytes_kept state at s units last end left known h leads)

-- ---- an input

module _ (options : Options) (plain : options.format ≡ Plain) where
  bare_texts : (bytes out : List ℕ) (well : Bool) → IsBytes bytes → ShowsBare options bytes out well → AreTexts out
  bare_texts bytes out well h shown = messages_texts options.lines bytes out well h (subst (λ format. ShowsBare (record { format = format; lines = options.lines }) bytes out well) plain shown)

  shown_below : (p : Captured) (out : List ℕ) (well : Bool) → IsBytes p.bytes → ShowsBelow options p out well → AreTexts out
  shown_below p out well h (Other type is good) = subst AreTexts (sym is) no_texts
  shown_below p out well h (Short type short is bad) = subst AreTexts (sym is) (short_texts (length p.bytes))
  shown_below p out well h (OtherProtocol type long protocol is good) = subst AreTexts (sym is) no_texts
  shown_below p out well h (Route type long protocol shown) = bare_texts (drop 16 p.bytes) out well (bytes-drop 16 p.bytes h) shown

  packet_texts : (number : ℕ) (p : Captured) (out : List ℕ) (well : Bool) → IsBytes p.bytes → ShowsPacket options number p out well → AreTexts out
  packet_texts number p out well h shown =
      subst AreTexts (sym shown.joined) (and_texts (line_texts (packet_is_line number shown.time p (instant_is_text p.time shown.time shown.is_time))) (shown_below p shown.below well h shown.shown))

  time_texts : (time : Time) (out : List ℕ) → ShowsTime time out → AreTexts out
  time_texts time out (t, is_time, is) = subst AreTexts (sym is) (line_texts (line_end (and {s = codes "time "} (text refl) (instant_is_text time t is_time))))

  unit_texts : (x : ℕ × UnitMeaning) (out : List ℕ) (well : Bool) → HasBytes x.1 → ShowsUnit (units_by_options options) x out well → AreTexts out
  unit_texts (n, Nothing) out well h shown = subst AreTexts (sym shown.0) no_texts
  unit_texts (n, APacket p) out well h shown = packet_texts (suc n) p out well h.all shown
  unit_texts (n, AMessage bytes) out well h shown = bare_texts bytes out well h.all shown
  unit_texts (n, ATime time) out well h shown = time_texts time out shown.0

  capture_texts : (form : Form) (s out : List ℕ) (whole : Bool) → IsBytes s → ShowsCapture (units_by_options options) form s out whole → AreTexts out
  capture_texts form s out whole h shown =
      let units = leads_bytes 0 (record { form = form; interfaces = [] }) 0 s shown.units shown.reads.last shown.reads.end shown.reads.left tt h shown.reads.leads in
      subst AreTexts (sym shown.joined) (and_texts (each_texts (λ x. HasBytes x.1) (ShowsUnit (units_by_options options)) unit_texts (counted 0 shown.units) shown.lines shown.well units shown.each) (end_texts options shown.fault))

  form_prints : (form : Option Form) (s out : List ℕ) (whole : Bool) → ShowsForm (by_options options) form s out whole → PrintsForm form s out
  form_prints None s out whole shown = all_repeats options s out whole plain shown
  form_prints (Some form) s out whole shown = λ bytes. capture_texts form s out whole bytes shown

  file_prints : (file : Result (Option Form) OtherFormat) (s out : List ℕ) (whole : Bool) → ShowsFile (by_options options) file s out whole → PrintsFile file s out
  file_prints (Ok form) s out whole shown = form_prints form s out whole shown
  file_prints (Err format) s out whole shown = subst AreTexts (sym shown.0) (line_texts (line_end (format_is_text format)))

pub input_prints : (options : Options) (raw : Bool) (s out : List ℕ) (whole : Bool) → options.format ≡ Plain → ShowsInput (by_options options) raw s out whole → PrintsFile (input_form raw s) s out
input_prints options raw s out whole plain shown = file_prints options plain (input_form raw s) s out whole shown
