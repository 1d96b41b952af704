pub mod Pairs
pub mod Wires
pub mod Links
pub mod Leads
pub mod LeadTables
pub mod Steps
