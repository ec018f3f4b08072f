mod DrawingRead
mod LinesRead
mod Lists
mod Texts
