-- The engine's commands, passed on so that a crate above names this one alone.
pub use Rattle.pb_engine.specs.declared.command.Command.TheVariants.{Stop}
