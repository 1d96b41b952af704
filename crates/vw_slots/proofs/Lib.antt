pub mod WrittenPinUses
pub mod Chained
pub mod TakenSlots
pub mod Taking
pub mod KeptSlots
mod OneFirstFree
