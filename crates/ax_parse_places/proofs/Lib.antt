pub mod Runs
pub mod ExpressionsRun
pub mod SimplesRun
pub mod DeclarationsRun
pub mod StatementsRun
pub mod SourcesRun
