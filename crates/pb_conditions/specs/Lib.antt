pub mod Conditions
pub mod ResultConditions
pub mod Attempts
pub mod Rows
pub mod ResultConditionsRows
pub mod AttemptRows
pub mod FromExprEval
