pub mod GraphTables
