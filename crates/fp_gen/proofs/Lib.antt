mod Growing
mod NetLines
mod Whole
