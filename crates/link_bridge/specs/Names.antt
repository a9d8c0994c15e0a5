-- The enums of bridges, of bridge ports, and of IFLA_AF_SPEC in AF_BRIDGE messages.
-- Each has three definitions: `.._names`, the names; `.._seen`, the number of a value: `Listed` for a named variant,
-- `Free` for `Other`; `.._cases`, the lemma that every value is a named variant or `Other`.
use Rattle.std.specs.Prelude.{[], ◌∷◌, codes, refl}
use Rattle.link_base.specs.Named.{Naming, Seen, Listed, Free, IsSeen, label, Bare, TextOrNumber}
use Rattle.link_bridge.specs.declared.bridge.stp_state.BridgeStpState.{BridgeStpState}
use Rattle.link_bridge.specs.declared.bridge.stp_state.BridgeStpState.TheVariants as stp_states
use Rattle.link_bridge.specs.declared.bridge.stp_mode.BridgeStpMode.{BridgeStpMode}
use Rattle.link_bridge.specs.declared.bridge.stp_mode.BridgeStpMode.TheVariants as stp_modes
use Rattle.link_bridge.specs.declared.bridge.router_type.BridgeMulticastRouterType.{BridgeMulticastRouterType}
use Rattle.link_bridge.specs.declared.bridge.router_type.BridgeMulticastRouterType.TheVariants as routers
use Rattle.link_bridge.specs.declared.bridge_port.state.BridgePortState.{BridgePortState}
use Rattle.link_bridge.specs.declared.bridge_port.state.BridgePortState.TheVariants as port_states
use Rattle.link_bridge.specs.declared.af_spec.flag.BridgeFlag.{BridgeFlag}
use Rattle.link_bridge.specs.declared.af_spec.flag.BridgeFlag.TheVariants as flags
use Rattle.link_bridge.specs.declared.af_spec.mode.BridgeMode.{BridgeMode}
use Rattle.link_bridge.specs.declared.af_spec.mode.BridgeMode.TheVariants as modes

-- what runs the spanning tree protocol of a bridge
abbrev pub stp_state_names : Naming BridgeStpState
stp_state_names = record {
  labels =
      label stp_states.Disabled (codes "no") 0 ∷
      label stp_states.KernelStp (codes "kernel_stp") 1 ∷
      label stp_states.UserStp (codes "user_stp") 2 ∷ [];
  further = [];
  other = stp_states.Other;
  other_text = Bare;
  accepted = TextOrNumber 32;
}

abbrev pub stp_state_seen : BridgeStpState → Seen
stp_state_seen stp_states.Disabled = Listed 0
stp_state_seen stp_states.KernelStp = Listed 1
stp_state_seen stp_states.UserStp = Listed 2
stp_state_seen (stp_states.Other d) = Free d

pub stp_state_cases : (v : BridgeStpState) → IsSeen stp_state_names v (stp_state_seen v)
stp_state_cases stp_states.Disabled = (refl, refl)
stp_state_cases stp_states.KernelStp = (refl, refl)
stp_state_cases stp_states.UserStp = (refl, refl)
stp_state_cases (stp_states.Other d) = refl

-- what is to run the spanning tree protocol of a bridge
abbrev pub stp_mode_names : Naming BridgeStpMode
stp_mode_names = record {
  labels =
      label stp_modes.Auto (codes "auto") 0 ∷
      label stp_modes.User (codes "user") 1 ∷
      label stp_modes.Kernel (codes "kernel") 2 ∷ [];
  further = [];
  other = stp_modes.Other;
  other_text = Bare;
  accepted = TextOrNumber 32;
}

abbrev pub stp_mode_seen : BridgeStpMode → Seen
stp_mode_seen stp_modes.Auto = Listed 0
stp_mode_seen stp_modes.User = Listed 1
stp_mode_seen stp_modes.Kernel = Listed 2
stp_mode_seen (stp_modes.Other d) = Free d

pub stp_mode_cases : (v : BridgeStpMode) → IsSeen stp_mode_names v (stp_mode_seen v)
stp_mode_cases stp_modes.Auto = (refl, refl)
stp_mode_cases stp_modes.User = (refl, refl)
stp_mode_cases stp_modes.Kernel = (refl, refl)
stp_mode_cases (stp_modes.Other d) = refl

-- whether a port is considered to lead to a multicast router, or a bridge to be one.
-- MDB_RTR_TYPE_TEMP_QUERY is written as `auto`, and parsed from `auto` or `temp_query`
abbrev pub router_type_names : Naming BridgeMulticastRouterType
router_type_names = record {
  labels =
      label routers.Disabled (codes "disabled") 0 ∷
      label routers.TempQuery (codes "auto") 1 ∷
      label routers.Permanent (codes "permanent") 2 ∷
      label routers.Temp (codes "temp") 3 ∷ [];
  further = label routers.TempQuery (codes "temp_query") 1 ∷ [];
  other = routers.Other;
  other_text = Bare;
  accepted = TextOrNumber 8;
}

abbrev pub router_type_seen : BridgeMulticastRouterType → Seen
router_type_seen routers.Disabled = Listed 0
router_type_seen routers.TempQuery = Listed 1
router_type_seen routers.Permanent = Listed 2
router_type_seen routers.Temp = Listed 3
router_type_seen (routers.Other d) = Free d

pub router_type_cases : (v : BridgeMulticastRouterType) → IsSeen router_type_names v (router_type_seen v)
router_type_cases routers.Disabled = (refl, refl)
router_type_cases routers.TempQuery = (refl, refl)
router_type_cases routers.Permanent = (refl, refl)
router_type_cases routers.Temp = (refl, refl)
router_type_cases (routers.Other d) = refl

-- the state of a bridge port in the spanning tree protocol
abbrev pub port_state_names : Naming BridgePortState
port_state_names = record {
  labels =
      label port_states.Disabled (codes "disabled") 0 ∷
      label port_states.Listening (codes "listening") 1 ∷
      label port_states.Learning (codes "learning") 2 ∷
      label port_states.Forwarding (codes "forwarding") 3 ∷
      label port_states.Blocking (codes "blocking") 4 ∷ [];
  further = [];
  other = port_states.Other;
  other_text = Bare;
  accepted = TextOrNumber 8;
}

abbrev pub port_state_seen : BridgePortState → Seen
port_state_seen port_states.Disabled = Listed 0
port_state_seen port_states.Listening = Listed 1
port_state_seen port_states.Learning = Listed 2
port_state_seen port_states.Forwarding = Listed 3
port_state_seen port_states.Blocking = Listed 4
port_state_seen (port_states.Other d) = Free d

pub port_state_cases : (v : BridgePortState) → IsSeen port_state_names v (port_state_seen v)
port_state_cases port_states.Disabled = (refl, refl)
port_state_cases port_states.Listening = (refl, refl)
port_state_cases port_states.Learning = (refl, refl)
port_state_cases port_states.Forwarding = (refl, refl)
port_state_cases port_states.Blocking = (refl, refl)
port_state_cases (port_states.Other d) = refl

-- whose bridge port settings a message sets or reports
abbrev pub flag_names : Naming BridgeFlag
flag_names = record {
  labels =
      label flags.Controller (codes "master") 1 ∷
      label flags.LowerDev (codes "self") 2 ∷ [];
  further = [];
  other = flags.Other;
  other_text = Bare;
  accepted = TextOrNumber 16;
}

abbrev pub flag_seen : BridgeFlag → Seen
flag_seen flags.Controller = Listed 1
flag_seen flags.LowerDev = Listed 2
flag_seen (flags.Other d) = Free d

pub flag_cases : (v : BridgeFlag) → IsSeen flag_names v (flag_seen v)
flag_cases flags.Controller = (refl, refl)
flag_cases flags.LowerDev = (refl, refl)
flag_cases (flags.Other d) = refl

-- how a device with hardware bridging handles frames between its own ports
abbrev pub mode_names : Naming BridgeMode
mode_names = record {
  labels =
      label modes.Veb (codes "veb") 0 ∷
      label modes.Vepa (codes "vepa") 1 ∷ [];
  further = [];
  other = modes.Other;
  other_text = Bare;
  accepted = TextOrNumber 16;
}

abbrev pub mode_seen : BridgeMode → Seen
mode_seen modes.Veb = Listed 0
mode_seen modes.Vepa = Listed 1
mode_seen (modes.Other d) = Free d

pub mode_cases : (v : BridgeMode) → IsSeen mode_names v (mode_seen v)
mode_cases modes.Veb = (refl, refl)
mode_cases modes.Vepa = (refl, refl)
mode_cases (modes.Other d) = refl
