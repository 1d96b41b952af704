pub mod ShortRoutes
pub mod GoodPlans
pub mod Fits
