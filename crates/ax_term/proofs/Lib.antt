pub mod KeyLemmas
pub mod BankLemmas
pub mod ValueLemmas
pub mod FoldLemmas
pub mod ValuationLemmas
pub mod Walks
pub mod Orders
