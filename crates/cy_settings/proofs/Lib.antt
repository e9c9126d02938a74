pub mod RuleLists
pub mod SettingLaws
