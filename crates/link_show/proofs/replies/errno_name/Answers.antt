use Rattle.std.proofs.Common.{ap, sym, ◌∙◌}
use Rattle.link_base.specs.Labels.{name_in}
use Rattle.link_show.specs.Errno.{errno_names}
use Rattle.link_show.proofs.MessageLines.{errno_negative}
use Rattle.link_show.proofs.replies.errno_name.Goals as goal

pub returns-then-is_errno : goal.returns-then-is_errno
returns-then-is_errno c =
    c.name_of.ensures ∙ ap (name_in errno_names) (c.into.ensures ∙ c.errno_of.ensures) ∙ errno_negative c.args.reply.now.error (sym c.is_errno.ensures ∙ c.if-is_errno.true)
