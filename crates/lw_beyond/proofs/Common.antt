-- What proofs cite of std, of lower crates and of this crate's definitions, passed on from one place. Declares nothing.
pub use Rattle.std.proofs.Common.{All, Contains, Err, IfOk, List, Ok, Result, ap, length, subst, ◌↔◌, ◌∙◌}
pub use Rattle.std.proofs.Common.{◌≡◌}
pub use Rattle.std.proofs.lemmas.Result.{IfOk-weaker}
pub use Rattle.lw_base.proofs.Common.{ContainsWordsOf, FinalState, HasOutcomeShape, IsListedOutcome}
pub use Rattle.lw_base.specs.declared.head.Seen.{Seen}
pub use Rattle.lw_litmus.proofs.Common.{IsWellFormedProgram, IsWellFormedSource, SourceTest, X86Test}
pub use Rattle.lw_litmus.proofs.Common.{x86_language}
pub use Rattle.lw_litmus.proofs.api.WellScoped.{IsWellScoped-well_formed}
pub use Rattle.lw_interleaving.proofs.Common.{SourceOutcome}
pub use Rattle.lw_mesi.specs.declared.protocol.Protocol.{Protocol}
pub use Rattle.lw_mesi.specs.declared.protocol.Protocol.TheVariants.{Mesi}
pub use Rattle.lw_outcome_map.specs.Listings.{IsStrictlySorted, OutcomeEntries, OutcomesWith, outcomes_of}
pub use Rattle.lw_tso_caches.specs.CompleteLists.{ListsMachine}
pub use Rattle.lw_tso_caches.specs.OverCaches.{OutcomeOverCaches, ReplaysToOverCaches}
pub use Rattle.lw_report.proofs.Common.{observed}
pub use Rattle.lw_bench.proofs.Common.{AreObservedOutcomesOf, AreOutcomesOf, IsListOf, Of_source, Of_x86}
pub use Rattle.lw_bench.proofs.Common.{OutcomeOf}
pub use Rattle.lw_bench.proofs.Theorems.{CachesAreFlat}
pub use Rattle.lw_bench.proofs.api.TestLists.{AreObservedOutcomesOf-if_all, AreOutcomesOf-source_result}
pub use Rattle.lw_bench.proofs.api.TestLists.{AreOutcomesOf-x86_result, IsListOf-source_entries}
pub use Rattle.lw_bench.proofs.api.TestLists.{IsListOf-x86_entries}
