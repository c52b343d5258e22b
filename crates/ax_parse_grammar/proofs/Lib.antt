pub mod Tools
pub mod ExpressionsRead
pub mod DeclarationsRead
pub mod SimplesRead
pub mod StatementsRead
pub mod SourcesRead
pub mod Rows
