use Rattle.std.proofs.Common.{subst}
use Rattle.netlink_packet_route.specs.Table.{Canonical}
use Rattle.netlink_packet_route.specs.Family.{table_of}
use Rattle.nlroute_ffi.proofs.nlroute_is_canonical.Goals as goal

pub returns-in-Some : goal.returns-in-Some
returns-in-Some c = (
  λ h. (c.in-Some.family, c.in-Some.ensures.found, c.is_canonical.ensures.0 h),
  λ (family, number, canonical). c.is_canonical.ensures.1 (subst (λ f. Canonical (table_of f) c.args.bytes.now) (c.in-Some.ensures.only family number) canonical),
)
