pub mod SimulateStatuses
