pub mod Slots
pub mod ShortWires
pub mod PressedInlets
pub mod BitRows
pub mod NodeInlets
pub mod PlanFacts
pub mod InletTimes
pub mod SoonestNets
