use Rattle.std.proofs.Common.{refl}
use Rattle.std.specs.Char.{encode_utf8}
use Rattle.std.specs.Str.{is_utf8, chars}
use Rattle.std.specs.Str.Lossy.{utf8_lossy, utf8_valid_len, utf8_error_len}
use Rattle.link_base.proofs.lists.examples.cut_names.Goals as goal

pub returns : goal.returns
unfolding utf8_lossy utf8_valid_len utf8_error_len is_utf8 chars encode_utf8
returns c = record { first = refl; second = refl; third = refl }
