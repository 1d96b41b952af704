pub mod CalledWords
pub mod DemoRuns
pub mod GradedRows
pub mod LinkTraffic
pub mod StreamedTraces
mod WorkedRows
