pub mod RisingPairs
pub mod ListedPairs
pub mod DepthTable
