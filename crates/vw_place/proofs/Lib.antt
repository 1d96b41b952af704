pub mod SumsByNumbers
pub mod Renumbered
pub mod Exchanges
pub mod PairTables
pub mod Travels
