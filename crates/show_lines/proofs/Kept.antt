-- What is kept of a line tells what is written for it.
use Rattle.std.proofs.Common.{◌≡◌, ◌≤◌, ℕ, Bool, List, length, subst, arith, length-take}
use Rattle.std.proofs.lemmas.List.{take_all}
use Rattle.netlink_packet_route.specs.Report.{most_text}
use Rattle.show_lines.specs.Show.{Shower, Refused, Answered, ShowsLine, TooLong, PassedOver, Known, Unknown, shower_of}
use Rattle.show_lines.specs.Progress.{held_of, most_held}

-- what is kept of a line tells what is shown for it
abbrev pub DependsOnHeld : Shower → Type 0
DependsOnHeld shows = (n : ℕ) (text out : List ℕ) (read : Bool) → shows (n, held_of text) out read → shows (n, text) out read

-- a line that is not too long is kept whole
kept_whole : (text : List ℕ) → length (held_of text) ≤ most_text → held_of text ≡ text
kept_whole text le = take_all most_held text (omega (arith, length-take most_held text))

line_from_held : (refused : Refused) (answered : Answered) → DependsOnHeld (ShowsLine refused answered)
line_from_held refused answered n text out read (TooLong lt o r) = TooLong (omega (arith, length-take most_held text)) o r
line_from_held refused answered n text out read (PassedOver le h o r) = subst (λ t. ShowsLine refused answered (n, t) out read) (kept_whole text le) (PassedOver le h o r)
line_from_held refused answered n text out read (Known le h asked rest asks shown) = subst (λ t. ShowsLine refused answered (n, t) out read) (kept_whole text le) (Known le h asked rest asks shown)
line_from_held refused answered n text out read (Unknown le h nothing o r) = subst (λ t. ShowsLine refused answered (n, t) out read) (kept_whole text le) (Unknown le h nothing o r)

pub from_held : {A : Type 0} (refused : A → Refused) (answered : A → Answered) (a : A) → DependsOnHeld (shower_of refused answered a)
from_held refused answered a = line_from_held (refused a) (answered a)
