pub mod BenchFile
pub mod BenchLines
pub mod EitherDisks
