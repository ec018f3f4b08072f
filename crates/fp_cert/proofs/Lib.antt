mod ByCells
mod Pieces
mod ReadLoops
mod TrialRead
