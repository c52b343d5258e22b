pub mod DeclarationsFound
pub mod HeadsFound
pub mod SimplesFound
pub mod ForsFound
pub mod StatementsFound
