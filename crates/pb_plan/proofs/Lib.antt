mod Connected
mod Freed
mod Marks
