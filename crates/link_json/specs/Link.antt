-- The JSON of a message about a link.
use Rattle.std.specs.Prelude.{◌≡◌, Bool, List}
use Rattle.json.specs.Json.{Json}
use Rattle.netlink_packet_route.specs.declared.family.Family.TheVariants.{Link}
use Rattle.link_messages.specs.declared.header.LinkHeader.{LinkHeader}
use Rattle.link_messages.specs.Finding.{Stretch}
use Rattle.link_json.specs.Value.{whole_link}
use Rattle.link_json.specs.List.{ShowsList}

abbrev pub ShowsLink : LinkHeader → Stretch → Json → Bool → Type 0
ShowsLink h list j well = (js : List Json) × ShowsList h.family Link list.0 list.1 js well × (j ≡ whole_link h js)
