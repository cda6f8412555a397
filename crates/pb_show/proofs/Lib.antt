mod Fronts
mod Going
mod Joined
mod Lines
mod Rows
mod Seen
mod Standing
