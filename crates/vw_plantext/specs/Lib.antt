pub mod Content
pub mod Grammar
pub mod CanStand
pub mod PlanText
pub mod ChipsText
pub mod Messages
pub mod Steps
