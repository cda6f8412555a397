mod Combined
mod Counted
mod Lowest
mod Walked
mod Put
mod Sets
mod Spans
