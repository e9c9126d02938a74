pub mod Refused
pub mod Taken
pub mod RulesRead
pub mod Inserted
pub mod PrintedBack
pub mod OutcomeLaws
