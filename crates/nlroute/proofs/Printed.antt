-- The end of a run: a printed report.
use Rattle.std.proofs.Common.{◌≡◌, inl, inr, ℕ, ◌<◌, List, Option, sym, subst, arith}
use Rattle.std.specs.Io.KnownBytes.{Appends}
use Rattle.netlink_packet_route.specs.Table.{Table}
use Rattle.netlink_packet_route.specs.Report.{Reports}
use Rattle.program.specs.Printing.{PrintsOrEnds}
use Rattle.nlroute.specs.Run.{RunsFor, IsRead, IsAllRead}

-- the report of what was read was printed
pub printed_report : (table : Table) (r t w below : Option (List ℕ)) (text given out shown : List ℕ) (status result : ℕ) → IsRead r t text → IsAllRead text t → given ≡ text → Reports table given out status
    → shown ≡ out → PrintsOrEnds w below shown status result → result < 4 → RunsFor table r t w below result
printed_report table r t w below text given out shown status result read all same reports whole (inl h) small =
    record {
      text = text;
      out = out;
      read = read;
      all = all;
      report = subst (λ s. Reports table text out s) (sym h.0) (subst (λ g. Reports table g out status) same reports);
      written = subst (Appends w below) whole h.1;
    }
printed_report table r t w below text given out shown status result read all same reports whole (inr h) small = absurd (omega (arith, h, small))
