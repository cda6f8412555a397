-- What is proved of runs under fixed outcomes, passed on so that a crate above names this one alone.
pub use Rattle.pb_engine.proofs.Laws.{end_alike, state_forks, whole_forks}
