mod Others
mod Pins
