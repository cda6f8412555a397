mod Fitting
mod Plans
pub mod OnePlan
