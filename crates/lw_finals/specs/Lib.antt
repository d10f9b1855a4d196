pub mod OrderRuns
pub mod SourceRuns
pub mod X86Runs
pub mod inner
