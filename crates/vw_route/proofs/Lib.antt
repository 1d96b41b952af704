pub mod FirstSteps
mod OneRoute
