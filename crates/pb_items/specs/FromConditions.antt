-- Words of pb_conditions, passed on so that a crate above needs not name it.
pub use Rattle.pb_conditions.specs.Attempts.{attempted, by_until, came, came_by, counted, is_enough}
pub use Rattle.pb_conditions.specs.Conditions.{holds}
pub use Rattle.pb_conditions.specs.ResultConditions.{Sees, by_condition, by_conditions, changed_to, failed_to, or_faulty, seen_as, seen_in, sees, with_conditions, with_conditions_by}
pub use Rattle.pb_conditions.specs.declared.attempt.Back.{Back}
pub use Rattle.pb_conditions.specs.declared.attempt.Back.TheVariants.{Ends}
