pub mod WordParts
pub mod RuleSteps
pub mod ScriptLengths
pub mod Lifts
