-- Items that are shown, one after another: see `link_messages`.
pub use Rattle.link_messages.specs.Shown.{Added}
pub use Rattle.link_messages.proofs.Listing.{and_true, and_false, each_none, each_more, all_any, each_hold, ShownTo, shown_none, shown_more}
