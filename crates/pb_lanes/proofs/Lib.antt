mod Hits
mod Counted
mod Coded
mod Summed
