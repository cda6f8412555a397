-- What is proved of runs under fixed outcomes, passed on so that a crate above names this one alone.
pub use Rattle.pb_confluence.proofs.Ends.{ends_together}
pub use Rattle.pb_confluence.proofs.Forks.{end_alike, state_forks, whole_forks}
