mod Ends
mod Turns
pub mod Tools
pub mod ExpressionsSound
pub mod DeclarationsSound
pub mod StatementsSound
pub mod SourcesSound
