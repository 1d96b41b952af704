mod BusySlots
mod FullPins
mod Tallies
mod Wirings
mod ShortPlans
mod PartLines
mod ChainNets
