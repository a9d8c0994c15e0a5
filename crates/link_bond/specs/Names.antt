-- The enums of bonds and of bond ports.
-- Each has three definitions: `.._names`, the names; `.._seen`, the number of a value: `Listed` for a named variant,
-- `Free` for `Other`; `.._cases`, the lemma that every value is a named variant or `Other`.
use Rattle.std.specs.Prelude.{[], ◌∷◌, codes, refl}
use Rattle.link_base.specs.Named.{Naming, Seen, Listed, Free, IsSeen, label, Unknown, Bare, TextOrDigit, AnyCase}
use Rattle.link_bond.specs.declared.bond.mode.BondMode.{BondMode}
use Rattle.link_bond.specs.declared.bond.mode.BondMode.TheVariants as modes
use Rattle.link_bond.specs.declared.bond.arp_validate.BondArpValidate.{BondArpValidate}
use Rattle.link_bond.specs.declared.bond.arp_validate.BondArpValidate.TheVariants as validations
use Rattle.link_bond.specs.declared.bond.arp_all_targets.BondArpAllTargets.{BondArpAllTargets}
use Rattle.link_bond.specs.declared.bond.arp_all_targets.BondArpAllTargets.TheVariants as target_rules
use Rattle.link_bond.specs.declared.bond.primary_reselect.BondPrimaryReselect.{BondPrimaryReselect}
use Rattle.link_bond.specs.declared.bond.primary_reselect.BondPrimaryReselect.TheVariants as reselections
use Rattle.link_bond.specs.declared.bond.fail_over_mac.BondFailOverMac.{BondFailOverMac}
use Rattle.link_bond.specs.declared.bond.fail_over_mac.BondFailOverMac.TheVariants as fail_overs
use Rattle.link_bond.specs.declared.bond.xmit_hash_policy.BondXmitHashPolicy.{BondXmitHashPolicy}
use Rattle.link_bond.specs.declared.bond.xmit_hash_policy.BondXmitHashPolicy.TheVariants as policies
use Rattle.link_bond.specs.declared.bond.all_port_active.BondAllPortActive.{BondAllPortActive}
use Rattle.link_bond.specs.declared.bond.all_port_active.BondAllPortActive.TheVariants as port_rules
use Rattle.link_bond.specs.declared.bond.lacp_rate.BondLacpRate.{BondLacpRate}
use Rattle.link_bond.specs.declared.bond.lacp_rate.BondLacpRate.TheVariants as rates
use Rattle.link_bond.specs.declared.bond.ad_select.BondAdSelect.{BondAdSelect}
use Rattle.link_bond.specs.declared.bond.ad_select.BondAdSelect.TheVariants as selections
use Rattle.link_bond.specs.declared.bond_port.port_state.BondPortState.{BondPortState}
use Rattle.link_bond.specs.declared.bond_port.port_state.BondPortState.TheVariants as states
use Rattle.link_bond.specs.declared.bond_port.mii_status.MiiStatus.{MiiStatus}
use Rattle.link_bond.specs.declared.bond_port.mii_status.MiiStatus.TheVariants as statuses
use Rattle.link_bond.specs.declared.bond_port.churn_state.ChurnState.{ChurnState}
use Rattle.link_bond.specs.declared.bond_port.churn_state.ChurnState.TheVariants as churn_states

-- the modes of a bond
abbrev pub mode_names : Naming BondMode
mode_names = record {
  labels =
      label modes.BalanceRr (codes "balance-rr") 0 ∷
      label modes.ActiveBackup (codes "active-backup") 1 ∷
      label modes.BalanceXor (codes "balance-xor") 2 ∷
      label modes.Broadcast (codes "broadcast") 3 ∷
      label modes.Ieee8023Ad (codes "802.3ad") 4 ∷
      label modes.BalanceTlb (codes "balance-tlb") 5 ∷
      label modes.BalanceAlb (codes "balance-alb") 6 ∷ [];
  further = [];
  other = modes.Other;
  other_text = Unknown;
  accepted = TextOrDigit;
}

abbrev pub mode_seen : BondMode → Seen
mode_seen modes.BalanceRr = Listed 0
mode_seen modes.ActiveBackup = Listed 1
mode_seen modes.BalanceXor = Listed 2
mode_seen modes.Broadcast = Listed 3
mode_seen modes.Ieee8023Ad = Listed 4
mode_seen modes.BalanceTlb = Listed 5
mode_seen modes.BalanceAlb = Listed 6
mode_seen (modes.Other d) = Free d

pub mode_cases : (v : BondMode) → IsSeen mode_names v (mode_seen v)
mode_cases modes.BalanceRr = (refl, refl)
mode_cases modes.ActiveBackup = (refl, refl)
mode_cases modes.BalanceXor = (refl, refl)
mode_cases modes.Broadcast = (refl, refl)
mode_cases modes.Ieee8023Ad = (refl, refl)
mode_cases modes.BalanceTlb = (refl, refl)
mode_cases modes.BalanceAlb = (refl, refl)
mode_cases (modes.Other d) = refl

-- which ports validate the ARP and neighbor messages that they receive
abbrev pub arp_validate_names : Naming BondArpValidate
arp_validate_names = record {
  labels =
      label validations.None (codes "none") 0 ∷
      label validations.Active (codes "active") 1 ∷
      label validations.Backup (codes "backup") 2 ∷
      label validations.All (codes "all") 3 ∷
      label validations.Filter (codes "filter") 4 ∷
      label validations.FilterActive (codes "filter_active") 5 ∷
      label validations.FilterBackup (codes "filter_backup") 6 ∷ [];
  further = [];
  other = validations.Other;
  other_text = Unknown;
  accepted = TextOrDigit;
}

abbrev pub arp_validate_seen : BondArpValidate → Seen
arp_validate_seen validations.None = Listed 0
arp_validate_seen validations.Active = Listed 1
arp_validate_seen validations.Backup = Listed 2
arp_validate_seen validations.All = Listed 3
arp_validate_seen validations.Filter = Listed 4
arp_validate_seen validations.FilterActive = Listed 5
arp_validate_seen validations.FilterBackup = Listed 6
arp_validate_seen (validations.Other d) = Free d

pub arp_validate_cases : (v : BondArpValidate) → IsSeen arp_validate_names v (arp_validate_seen v)
arp_validate_cases validations.None = (refl, refl)
arp_validate_cases validations.Active = (refl, refl)
arp_validate_cases validations.Backup = (refl, refl)
arp_validate_cases validations.All = (refl, refl)
arp_validate_cases validations.Filter = (refl, refl)
arp_validate_cases validations.FilterActive = (refl, refl)
arp_validate_cases validations.FilterBackup = (refl, refl)
arp_validate_cases (validations.Other d) = refl

-- how many ARP targets a bond port must reach
abbrev pub arp_all_targets_names : Naming BondArpAllTargets
arp_all_targets_names = record {
  labels =
      label target_rules.Any (codes "any") 0 ∷
      label target_rules.All (codes "all") 1 ∷ [];
  further = [];
  other = target_rules.Other;
  other_text = Unknown;
  accepted = TextOrDigit;
}

abbrev pub arp_all_targets_seen : BondArpAllTargets → Seen
arp_all_targets_seen target_rules.Any = Listed 0
arp_all_targets_seen target_rules.All = Listed 1
arp_all_targets_seen (target_rules.Other d) = Free d

pub arp_all_targets_cases : (v : BondArpAllTargets) → IsSeen arp_all_targets_names v (arp_all_targets_seen v)
arp_all_targets_cases target_rules.Any = (refl, refl)
arp_all_targets_cases target_rules.All = (refl, refl)
arp_all_targets_cases (target_rules.Other d) = refl

-- when the primary port becomes active again
abbrev pub primary_reselect_names : Naming BondPrimaryReselect
primary_reselect_names = record {
  labels =
      label reselections.Always (codes "always") 0 ∷
      label reselections.Better (codes "better") 1 ∷
      label reselections.Failure (codes "failure") 2 ∷ [];
  further = [];
  other = reselections.Other;
  other_text = Unknown;
  accepted = TextOrDigit;
}

abbrev pub primary_reselect_seen : BondPrimaryReselect → Seen
primary_reselect_seen reselections.Always = Listed 0
primary_reselect_seen reselections.Better = Listed 1
primary_reselect_seen reselections.Failure = Listed 2
primary_reselect_seen (reselections.Other d) = Free d

pub primary_reselect_cases : (v : BondPrimaryReselect) → IsSeen primary_reselect_names v (primary_reselect_seen v)
primary_reselect_cases reselections.Always = (refl, refl)
primary_reselect_cases reselections.Better = (refl, refl)
primary_reselect_cases reselections.Failure = (refl, refl)
primary_reselect_cases (reselections.Other d) = refl

-- which hardware addresses ports have
abbrev pub fail_over_mac_names : Naming BondFailOverMac
fail_over_mac_names = record {
  labels =
      label fail_overs.None (codes "none") 0 ∷
      label fail_overs.Active (codes "active") 1 ∷
      label fail_overs.Follow (codes "follow") 2 ∷ [];
  further = [];
  other = fail_overs.Other;
  other_text = Unknown;
  accepted = TextOrDigit;
}

abbrev pub fail_over_mac_seen : BondFailOverMac → Seen
fail_over_mac_seen fail_overs.None = Listed 0
fail_over_mac_seen fail_overs.Active = Listed 1
fail_over_mac_seen fail_overs.Follow = Listed 2
fail_over_mac_seen (fail_overs.Other d) = Free d

pub fail_over_mac_cases : (v : BondFailOverMac) → IsSeen fail_over_mac_names v (fail_over_mac_seen v)
fail_over_mac_cases fail_overs.None = (refl, refl)
fail_over_mac_cases fail_overs.Active = (refl, refl)
fail_over_mac_cases fail_overs.Follow = (refl, refl)
fail_over_mac_cases (fail_overs.Other d) = refl

-- which fields of a packet are hashed
abbrev pub xmit_hash_policy_names : Naming BondXmitHashPolicy
xmit_hash_policy_names = record {
  labels =
      label policies.Layer2 (codes "layer2") 0 ∷
      label policies.Layer34 (codes "layer3+4") 1 ∷
      label policies.Layer23 (codes "layer2+3") 2 ∷
      label policies.Encap23 (codes "encap2+3") 3 ∷
      label policies.Encap34 (codes "encap3+4") 4 ∷
      label policies.VlanSrcMac (codes "vlan+srcmac") 5 ∷ [];
  further = [];
  other = policies.Other;
  other_text = Unknown;
  accepted = TextOrDigit;
}

abbrev pub xmit_hash_policy_seen : BondXmitHashPolicy → Seen
xmit_hash_policy_seen policies.Layer2 = Listed 0
xmit_hash_policy_seen policies.Layer34 = Listed 1
xmit_hash_policy_seen policies.Layer23 = Listed 2
xmit_hash_policy_seen policies.Encap23 = Listed 3
xmit_hash_policy_seen policies.Encap34 = Listed 4
xmit_hash_policy_seen policies.VlanSrcMac = Listed 5
xmit_hash_policy_seen (policies.Other d) = Free d

pub xmit_hash_policy_cases : (v : BondXmitHashPolicy) → IsSeen xmit_hash_policy_names v (xmit_hash_policy_seen v)
xmit_hash_policy_cases policies.Layer2 = (refl, refl)
xmit_hash_policy_cases policies.Layer34 = (refl, refl)
xmit_hash_policy_cases policies.Layer23 = (refl, refl)
xmit_hash_policy_cases policies.Encap23 = (refl, refl)
xmit_hash_policy_cases policies.Encap34 = (refl, refl)
xmit_hash_policy_cases policies.VlanSrcMac = (refl, refl)
xmit_hash_policy_cases (policies.Other d) = refl

-- what happens to frames received on inactive ports
abbrev pub all_port_active_names : Naming BondAllPortActive
all_port_active_names = record {
  labels =
      label port_rules.Dropped (codes "dropped") 0 ∷
      label port_rules.Delivered (codes "delivered") 1 ∷ [];
  further = [];
  other = port_rules.Other;
  other_text = Bare;
  accepted = TextOrDigit;
}

abbrev pub all_port_active_seen : BondAllPortActive → Seen
all_port_active_seen port_rules.Dropped = Listed 0
all_port_active_seen port_rules.Delivered = Listed 1
all_port_active_seen (port_rules.Other d) = Free d

pub all_port_active_cases : (v : BondAllPortActive) → IsSeen all_port_active_names v (all_port_active_seen v)
all_port_active_cases port_rules.Dropped = (refl, refl)
all_port_active_cases port_rules.Delivered = (refl, refl)
all_port_active_cases (port_rules.Other d) = refl

-- how often the LACP partner is asked to send LACPDUs
abbrev pub lacp_rate_names : Naming BondLacpRate
lacp_rate_names = record {
  labels =
      label rates.Slow (codes "slow") 0 ∷
      label rates.Fast (codes "fast") 1 ∷ [];
  further = [];
  other = rates.Other;
  other_text = Bare;
  accepted = TextOrDigit;
}

abbrev pub lacp_rate_seen : BondLacpRate → Seen
lacp_rate_seen rates.Slow = Listed 0
lacp_rate_seen rates.Fast = Listed 1
lacp_rate_seen (rates.Other d) = Free d

pub lacp_rate_cases : (v : BondLacpRate) → IsSeen lacp_rate_names v (lacp_rate_seen v)
lacp_rate_cases rates.Slow = (refl, refl)
lacp_rate_cases rates.Fast = (refl, refl)
lacp_rate_cases (rates.Other d) = refl

-- how the active aggregator is chosen
abbrev pub ad_select_names : Naming BondAdSelect
ad_select_names = record {
  labels =
      label selections.Stable (codes "stable") 0 ∷
      label selections.Bandwidth (codes "bandwidth") 1 ∷
      label selections.Count (codes "count") 2 ∷
      label selections.ActorPortPrio (codes "actor_port_prio") 3 ∷ [];
  further = [];
  other = selections.Other;
  other_text = Unknown;
  accepted = TextOrDigit;
}

abbrev pub ad_select_seen : BondAdSelect → Seen
ad_select_seen selections.Stable = Listed 0
ad_select_seen selections.Bandwidth = Listed 1
ad_select_seen selections.Count = Listed 2
ad_select_seen selections.ActorPortPrio = Listed 3
ad_select_seen (selections.Other d) = Free d

pub ad_select_cases : (v : BondAdSelect) → IsSeen ad_select_names v (ad_select_seen v)
ad_select_cases selections.Stable = (refl, refl)
ad_select_cases selections.Bandwidth = (refl, refl)
ad_select_cases selections.Count = (refl, refl)
ad_select_cases selections.ActorPortPrio = (refl, refl)
ad_select_cases (selections.Other d) = refl

-- the states of a bond port
abbrev pub port_state_names : Naming BondPortState
port_state_names = record {
  labels =
      label states.Active (codes "active") 0 ∷
      label states.Backup (codes "backup") 1 ∷ [];
  further = [];
  other = states.Other;
  other_text = Bare;
  accepted = AnyCase;
}

abbrev pub port_state_seen : BondPortState → Seen
port_state_seen states.Active = Listed 0
port_state_seen states.Backup = Listed 1
port_state_seen (states.Other d) = Free d

pub port_state_cases : (v : BondPortState) → IsSeen port_state_names v (port_state_seen v)
port_state_cases states.Active = (refl, refl)
port_state_cases states.Backup = (refl, refl)
port_state_cases (states.Other d) = refl

-- the link states of a bond port
abbrev pub mii_status_names : Naming MiiStatus
mii_status_names = record {
  labels =
      label statuses.Up (codes "up") 0 ∷
      label statuses.GoingDown (codes "going_down") 1 ∷
      label statuses.Down (codes "down") 2 ∷
      label statuses.GoingBack (codes "going_back") 3 ∷ [];
  further = [];
  other = statuses.Other;
  other_text = Bare;
  accepted = AnyCase;
}

abbrev pub mii_status_seen : MiiStatus → Seen
mii_status_seen statuses.Up = Listed 0
mii_status_seen statuses.GoingDown = Listed 1
mii_status_seen statuses.Down = Listed 2
mii_status_seen statuses.GoingBack = Listed 3
mii_status_seen (statuses.Other d) = Free d

pub mii_status_cases : (v : MiiStatus) → IsSeen mii_status_names v (mii_status_seen v)
mii_status_cases statuses.Up = (refl, refl)
mii_status_cases statuses.GoingDown = (refl, refl)
mii_status_cases statuses.Down = (refl, refl)
mii_status_cases statuses.GoingBack = (refl, refl)
mii_status_cases (statuses.Other d) = refl

-- whether one side of a link reaches synchronization in time
abbrev pub churn_state_names : Naming ChurnState
churn_state_names = record {
  labels =
      label churn_states.Monitor (codes "monitor") 0 ∷
      label churn_states.Churn (codes "churn") 1 ∷
      label churn_states.NoChurn (codes "no_churn") 2 ∷ [];
  further = [];
  other = churn_states.Other;
  other_text = Bare;
  accepted = AnyCase;
}

abbrev pub churn_state_seen : ChurnState → Seen
churn_state_seen churn_states.Monitor = Listed 0
churn_state_seen churn_states.Churn = Listed 1
churn_state_seen churn_states.NoChurn = Listed 2
churn_state_seen (churn_states.Other d) = Free d

pub churn_state_cases : (v : ChurnState) → IsSeen churn_state_names v (churn_state_seen v)
churn_state_cases churn_states.Monitor = (refl, refl)
churn_state_cases churn_states.Churn = (refl, refl)
churn_state_cases churn_states.NoChurn = (refl, refl)
churn_state_cases (churn_states.Other d) = refl
