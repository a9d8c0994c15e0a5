-- Attributes of the kernel's replies to requests.
use Rattle.std.specs.Prelude.{[], ◌∷◌}
use Rattle.link_base.specs.Class.{Number, Raw}
use Rattle.link_base.specs.Payloads.{u32, bytes, text, held}
use Rattle.link_base.specs.Table.{Table, AttrValue, Case, Single, row, prefixed}
use Rattle.link_base.specs.Default.{default_means}
use Rattle.link_common.specs.declared.reply.ReplyAttribute.{ReplyAttribute}
use Rattle.link_common.specs.declared.reply.ReplyAttribute.TheVariants as infos

-- one row for each attribute type
abbrev pub reply_table : Table
reply_table = prefixed "NLMSGERR_ATTR_" (
    row 1 "NLMSGERR_ATTR_MSG" text ∷
    row 2 "NLMSGERR_ATTR_OFFS" u32 ∷
    row 3 "NLMSGERR_ATTR_COOKIE" bytes ∷
    row 4 "NLMSGERR_ATTR_POLICY" held ∷
    row 5 "NLMSGERR_ATTR_MISS_TYPE" u32 ∷
    row 6 "NLMSGERR_ATTR_MISS_NEST" u32 ∷ [])

-- the attribute that a value represents
abbrev pub reply_means : ReplyAttribute → AttrValue
reply_means (infos.Msg message) = Case 1 (Single (Raw message.items))
reply_means (infos.Offs offset) = Case 2 (Single (Number 4 offset))
reply_means (infos.Cookie octets) = Case 3 (Single (Raw octets.items))
reply_means (infos.Policy list) = Case 4 (Single (Raw list.items))
reply_means (infos.MissType kind) = Case 5 (Single (Number 4 kind))
reply_means (infos.MissNest offset) = Case 6 (Single (Number 4 offset))
reply_means (infos.Other other) = default_means other
