-- Texts that are passed on in large parts.
use Rattle.std.specs.Prelude.{ℕ, List, Option}
use Rattle.std.specs.Io.KnownBytes.{append_known}
use Rattle.link_show.specs.declared.page.Page.{Page}
use Rattle.link_show.specs.Sink.{Output, Through}

-- what the writer has, and what is kept for it
abbrev pub through : {W : Type 0} → (W → Option (List ℕ)) → Page W → Output
through contents page = Through page.writer.ghost_name (append_known (contents page.writer.now) page.kept.items)
