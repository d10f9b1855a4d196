-- Lemmas that other crates use: a set of outcomes determines its list of states and its report.
pub mod OneList
