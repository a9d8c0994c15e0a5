-- The indents of lines.
use Rattle.std.specs.Prelude.{ℕ, List, ◌++◌, replicate}
use Rattle.link_show.specs.declared.indent.Indent.{Indent}

abbrev pub indent_text : Indent → List ℕ
indent_text i = i.text.now ++ replicate i.spaces 32
