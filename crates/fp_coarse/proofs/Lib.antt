mod Bests
pub mod Halves
mod Hulls
pub mod KeptEnds
mod Laying
mod Picks
mod Roominess
mod Stretches
mod Taking
mod Widest
