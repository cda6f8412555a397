-- The words of laws and of runs under fixed outcomes, passed on so that a crate above names this one alone.
pub use Rattle.pb_laws.specs.JobsOut.{IsOut, has_mail, one_out, outs, tasks}
pub use Rattle.pb_laws.specs.Kept.{KeepsLaws, RunsKeepLaws}
pub use Rattle.pb_laws.specs.Fixed.{is_independent, are_linear, Asked, Fixed, IsFixed, IsFixedAt, asked_of, IsEnd, IsWhole, with_forks, EndsAsFixed}
