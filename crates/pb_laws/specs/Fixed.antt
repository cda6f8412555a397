-- The words of runs under fixed outcomes, passed on so that a crate above names this one alone.
pub use Rattle.pb_confluence.specs.FromIndependence.{is_independent, are_linear}
pub use Rattle.pb_confluence.specs.Fixed.{Asked, Fixed, IsFixed, IsFixedAt, asked_of}
pub use Rattle.pb_confluence.specs.Confluence.{IsEnd, IsWhole, with_forks}
pub use Rattle.pb_confluence.specs.Ends.{EndsAsFixed}
