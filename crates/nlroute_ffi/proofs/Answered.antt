-- Why a list is not re-encoded.
use Rattle.std.proofs.Common.{◌≡◌, ℕ, List, Option, None, Err}
use Rattle.netlink_packet_route.specs.Frame.{frame_fault}
use Rattle.netlink_packet_route.specs.Table.{Table}
use Rattle.netlink_packet_route.specs.Answers.{OnRewriteMemory}
use Rattle.netlink_packet_route.specs.Rewritten.{NeedsMemory}
use Rattle.netlink_packet_route.specs.Rewrite.{RewriteToSliceAnswers, RewriteStreamingAnswers}
use Rattle.netlink_packet_route.specs.declared.link.RewriteError.{RewriteError}
use Rattle.netlink_packet_route.specs.declared.link.RewriteError.TheVariants as errors
use Rattle.nlroute_ffi.specs.Calls.{RewriteAnswers, StreamingAnswers, refusal_of}

pub refused_to : (table : Table) (s old new : List ℕ) (e : RewriteError) → RewriteToSliceAnswers table s old new (Err e) → OnRewriteMemory {X = Option ℕ} (Err e) (frame_fault s ≡ None) → RewriteAnswers s old new table (Err (refusal_of e))
refused_to table s old new (errors.Fault at fault) why memory = (at, fault, why)
refused_to table s old new (errors.TooLong i) why memory = record { first = i; is = why }
refused_to table s old new (errors.Memory e) why memory = memory

pub refused_into : (table : Table) (s old new : List ℕ) (e : RewriteError) → RewriteStreamingAnswers table s old new (Err e) → OnRewriteMemory {X = ℕ} (Err e) (NeedsMemory table s) → StreamingAnswers s old new table (Err (refusal_of e))
refused_into table s old new (errors.Fault at fault) why memory = (at, fault, why)
refused_into table s old new (errors.TooLong i) why memory = record { first = i; is = why }
refused_into table s old new (errors.Memory e) why memory = memory
