pub mod Rule
pub mod Ends
pub mod Chains
pub mod Counts
pub mod Laid
