pub mod Truth
pub mod Observed
pub mod States
pub mod Judgement
pub mod Reports
pub mod inner
