pub mod FlatWave
