-- Peers: a header, and a list of attributes.
use Rattle.std.specs.Prelude.{ℕ, List, ◌++◌}
use Rattle.link_base.specs.declared.classes.peer.Peer.{Peer}

-- the bytes of the header, then those of the list
abbrev pub peer_octets : Peer → List ℕ
peer_octets peer = peer.header ++ peer.attributes.items
