-- The words of laws and of runs under fixed outcomes, passed on so that a crate above names this one alone.
pub use Rattle.pb_engine.specs.Laws.{KeepsLaws, RunsKeepLaws, is_independent, are_linear, Fixed, IsFixed, IsEnd, IsWhole, with_forks}
