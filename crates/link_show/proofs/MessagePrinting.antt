-- The lines of messages are printable.
use Rattle.std.proofs.Common.{◌≡◌, ℕ, suc, ℤ, pos, negsuc, ◌==◌, ◌||◌, Bool, true, List, [], ◌++◌, Option, Some, None, unsigned_abs, refl, sym, subst, codes}
use Rattle.std.specs.Fmt.{signed_decimal}
use Rattle.link_base.specs.Number.{IsBytes}
use Rattle.link_base.specs.WellFormed.{are_names}
use Rattle.netlink_packet_route.specs.declared.family.Family.TheVariants as families
use Rattle.link_messages.specs.Finding.{Stretch}
use Rattle.link_messages.specs.Link.{attributes_of}
use Rattle.link_messages.specs.Message.{packet_of}
use Rattle.link_messages.specs.declared.buffer_parts.Message.{Message}
use Rattle.link_messages.specs.declared.message.MessageError.{MessageError}
use Rattle.link_messages.specs.declared.message.MessageError.TheVariants as errors
use Rattle.link_messages.specs.declared.header.LinkHeader.{LinkHeader}
use Rattle.link_messages.specs.declared.acknowledgement.Acknowledgement.{Acknowledgement}
use Rattle.link_show.specs.Fault.{byte_word}
use Rattle.link_show.specs.Errno.{errno_names}
use Rattle.link_show.specs.MessageNames.{message_types, common_flags, new_flags, get_flags, delete_flags, error_flags, flags_of}
use Rattle.link_show.specs.declared.line_options.LineOptions.{LineOptions}
use Rattle.link_messages.specs.Held.{context_of, levels}
use Rattle.link_show.specs.Message.{two, reason_text, offset_of, message_error_line, message_line, name_part, link_line, ShowsLink, number_after, error_number_line, errno_name, result_line, has_result, outcome_line, ShowsReply, ShowsBody, About, Reply, General, NoLink, NoReply, Other, ShowsMessage, zeros_line, ShowsEnd, Ended, Done, Zeros, Broken, ShowsMessages}
use Rattle.link_show.specs.Printable.{IsText, AreTexts}
use Rattle.link_show.proofs.Printing.{text, none, and, either, decimal_text, signed_text, quoted_text}
use Rattle.link_show.proofs.ValuePrinting.{EachName, OnText, choose, each_name, name_found, flags_is_text, field_is_text, bytes_is_text}
use Rattle.link_show.proofs.LinePrinting.{no_texts, and_texts, line_end, line_and, line_texts, indented_texts, error_texts, either_texts, all_texts, names_for, parts_text}
use Rattle.link_show.proofs.HeldPrinting.{set_texts}

-- ---- errors

pub reason_is_text : (error : MessageError) → IsText (reason_text error)
reason_is_text (errors.ShortHeader at left) = bytes_is_text left (text refl)
reason_is_text (errors.SmallLength at size) = and {s = codes "nlmsg_len "} (text refl) (and (decimal_text size) (text refl))
reason_is_text (errors.Overrun at size left) =
    and {s = codes "nlmsg_len "} (text refl) (and (decimal_text size) (and {s = codes " exceeds the "} (text refl) (bytes_is_text left (text refl))))
reason_is_text (errors.OtherType at kind) = and {s = codes "type "} (text refl) (and (decimal_text kind) (text refl))
reason_is_text (errors.ShortLink at size) = bytes_is_text size (text refl)
reason_is_text (errors.ShortError at size) = bytes_is_text size (text refl)

message_error_texts : (indent : List ℕ) (error : MessageError) → IsText indent → AreTexts (message_error_line indent error)
unfolding message_error_line
message_error_texts indent error h = error_texts indent (offset_of error) h (reason_is_text error)

-- ---- the header of a message

-- the names of the flags of every type
flags_of_text : (kind : ℕ) → EachName (flags_of kind)
flags_of_text kind =
    let more : (some : List (ℕ × List ℕ)) → are_names (common_flags ++ some) ≡ true → EachName (common_flags ++ some) = λ some h. each_name (common_flags ++ some) h in
    choose EachName ((kind == 16) || ((kind == 19) || (kind == 108))) _ _ (more new_flags refl)
    (choose EachName ((kind == 18) || (kind == 110)) _ _ (more get_flags refl)
    (choose EachName ((kind == 17) || (kind == 109)) _ _ (more delete_flags refl)
    (choose EachName ((kind == 2) || (kind == 3)) _ _ (more error_flags refl) (each_name common_flags refl))))

message_line_texts : (m : Message) → AreTexts (message_line m)
unfolding message_line
message_line_texts m =
    line_texts (
    line_and (names_for message_types (codes "type ") m.kind (each_name message_types refl) (text refl))
    (line_and {t = codes " len "} (text refl)
    (line_and (decimal_text _)
    (line_and {t = codes " flags "} (text refl)
    (line_and (flags_is_text (flags_of m.kind) 2 m.flags (flags_of_text m.kind))
    (line_and {t = codes " seq "} (text refl)
    (line_and (decimal_text m.sequence)
    (line_and {t = codes " pid "} (text refl) (line_end (decimal_text m.port)))))))))
    )

-- ---- the line of a link

name_text : (name : Option (List ℕ)) → IsText (name_part name)
name_text None = none
name_text (Some name) = and {s = codes " "} (text refl) (field_is_text (codes "name") (text refl) (quoted_text name))

link_line_texts : (h : LinkHeader) (name : Option (List ℕ)) → AreTexts (link_line h name)
unfolding link_line
link_line_texts h name = indented_texts two (text refl) (and {s = codes "ifindex "} (text refl) (and (signed_text h.index) (and (name_text name) (parts_text h))))

-- ---- a message about a link

link_texts : (o : LineOptions) (h : LinkHeader) (list : Stretch) (out : List ℕ) (well : Bool) → ShowsLink o h list out well → AreTexts out
link_texts o h list out well (name, of, lines, shown, is) =
    subst AreTexts (sym is) (and_texts (link_line_texts h name) (set_texts o levels (context_of h.family) two list.0 families.Link list.1 lines well (text refl) shown))

-- ---- replies

number_after_text : (name : Option (List ℕ)) (number : List ℕ) → OnText name → IsText number → IsText (number_after name number)
number_after_text None number h k = and {s = codes "("} (text refl) (and k (text refl))
number_after_text (Some name) number h k = and h (and {s = codes " ("} (text refl) (and k (text refl)))

error_number_texts : (name : Option (List ℕ)) (e : ℤ) → OnText name → AreTexts (error_number_line name e)
error_number_texts name e h = indented_texts two (text refl) (field_is_text (codes "error") (text refl) (number_after_text name (signed_decimal e) h (signed_text e)))

errno_text : (e : ℤ) → OnText (errno_name e)
errno_text (pos n) = tt
errno_text (negsuc n) = name_found errno_names (each_name errno_names refl) (suc n)

result_texts : (e : ℤ) → AreTexts (result_line e)
unfolding result_line
result_texts e =
    either_texts (unsigned_abs e == 0) (indented_texts two {t = codes "ack"} (text refl) (text refl))
    (error_number_texts (errno_name e) e (errno_text e))

outcome_texts : (a : Acknowledgement) → AreTexts (outcome_line a)
outcome_texts a = either_texts (has_result a) (result_texts a.error) no_texts

reply_texts : (o : LineOptions) (a : Acknowledgement) (out : List ℕ) (well : Bool) → ShowsReply o a out well → AreTexts out
reply_texts o a out well (lines, shown, is) =
    subst AreTexts (sym is) (and_texts (outcome_texts a) (set_texts o levels (context_of 0) two a.list.at families.Reply a.list.bytes.now lines well (text refl) shown))

-- ---- messages

body_texts : (o : LineOptions) (m : Message) (out : List ℕ) (well : Bool) → ShowsBody o m out well → AreTexts out
body_texts o m out well (About h plain has shown) = link_texts o h (attributes_of m.at (packet_of m)) out well shown
body_texts o m out well (Reply a has shown) = reply_texts o a out well shown
body_texts o m out well (General kind is e) = subst AreTexts (sym is) no_texts
body_texts o m out well (NoLink error kind other has is e) = subst AreTexts (sym is) (message_error_texts two error (text refl))
body_texts o m out well (NoReply error kind has is e) = subst AreTexts (sym is) (message_error_texts two error (text refl))
body_texts o m out well (Other u v is e) = subst AreTexts (sym is) no_texts

message_texts : (o : LineOptions) (m : Message) (out : List ℕ) (well : Bool) → ShowsMessage o m out well → AreTexts out
message_texts o m out well s = subst AreTexts (sym s.joined) (and_texts (message_line_texts m) (body_texts o m s.body well s.is_body))

zeros_texts : (at n : ℕ) → AreTexts (zeros_line at n)
zeros_texts at n =
    line_texts (
    line_and (decimal_text n)
    (line_and {t = codes " zero"} (text refl) (line_and {t = byte_word n} (either (n == 1) (text refl) (text refl)) (line_and {t = codes " at "} (text refl) (line_end (decimal_text at)))))
    )

end_texts : (o : LineOptions) (s : List ℕ) (at : ℕ) (out : List ℕ) (well : Bool) → ShowsEnd o s at out well → AreTexts out
end_texts o s at out well (Ended e is w) = subst AreTexts (sym is) no_texts
end_texts o s at out well (Done m is kind shown) = message_texts o m out well shown
end_texts o s at out well (Zeros some zeros is w) = subst AreTexts (sym is) (zeros_texts at _)
end_texts o s at out well (Broken error some other e is w) = subst AreTexts (sym is) (message_error_texts [] error none)

pub messages_texts : (o : LineOptions) (s out : List ℕ) (whole : Bool) → IsBytes s → ShowsMessages o s out whole → AreTexts out
messages_texts o s out whole h shown =
    subst AreTexts (sym shown.joined)
    (and_texts (all_texts (ShowsMessage o) (message_texts o) shown.messages shown.front shown.front_well shown.each) (end_texts o s shown.end shown.last shown.last_well shown.at_end))
