-- What proofs cite of std, of lower crates and of this crate's definitions, passed on from one place. Declares nothing.
pub use Rattle.std.proofs.Common.{Bool, Err, List, None, Ok, OnErr, OnOk, Option, Result, Some, Vec, [], ap}
pub use Rattle.std.proofs.Common.{append-nil, ap₂, arith, bit_and, bit_or, drop, eq-eqb, eqb, eqb-true, false}
pub use Rattle.std.proofs.Common.{get_or, get_or-set_other, get_or-set_same, if◌then◌else◌, inl, inr, is_ok}
pub use Rattle.std.proofs.Common.{length, length-set, map, ne_eqb, refl, replicate, set, slice_index_or}
pub use Rattle.std.proofs.Common.{subst, suc, sym, take, take_all, true, true≢false, vec_len, w8, zero}
pub use Rattle.std.proofs.Common.{zero-add, ℕ, ◌%◌, ◌*◌, ◌++◌, ◌-◌, ◌/◌, ◌<◌, ◌==◌, ◌^◌, ◌∙◌, ◌∷◌, ◌≡◌, ◌≢◌}
pub use Rattle.std.proofs.Common.{◌≤◌, ◌⊎◌}
pub use Rattle.std.proofs.lemmas.Bool.{cases_lt, eqb-false, or_from, or_left, or_right, true_from_ne_false}
pub use Rattle.std.proofs.lemmas.Grind.{common_steps}
pub use Rattle.std.proofs.lemmas.List.{drop_all, get_or-map, get_or_past, length-map, map_more, take_more_set}
pub use Rattle.std.proofs.lemmas.List.FromFn.{fill_by_all, get_or-map-range_with_len}
pub use Rattle.std.proofs.lemmas.List.FromFn.{length-map-range_with_len}
pub use Rattle.std.proofs.lemmas.Nat.{and_le_l, or_lt, pow_below}
pub use Rattle.std.proofs.lemmas.Nat.Bits.{bit_at_clear_other, bit_at_clear_same, bit_at_set_other}
pub use Rattle.std.proofs.lemmas.Nat.Bits.{bit_at_set_same, shr_and_one}
pub use Rattle.std.specs.Int.{bit_at}
pub use Rattle.lw_base.proofs.Common.{most_locations, most_threads}
pub use Rattle.lw_memory.proofs.Common.{is_held}
pub use Rattle.lw_memory.specs.declared.request.Access.{Access}
pub use Rattle.lw_memory.specs.declared.request.Access.TheVariants.{Load, Store, Update}
pub use Rattle.lw_memory.specs.declared.request.Request.TheVariants.{Ask}
pub use Rattle.lw_memory.specs.declared.system.LineState.{LineState}
pub use Rattle.lw_memory.specs.declared.system.LineState.TheVariants.{E, M, O, S}
pub use Rattle.lw_mesi.specs.CacheLines.{CacheLine, Caches, Copy, Exclusive, Invalid, Modified, Owned, Shared}
pub use Rattle.lw_mesi.specs.CacheLines.{cache_line_at, coherent_word, coherent_words, copy_of, copy_state}
pub use Rattle.lw_mesi.specs.CacheLines.{copy_word, empty_caches, unheld_cache_line}
pub use Rattle.lw_mesi.specs.Coherence.{HasProtocolStates, IsDirty, IsOnlyCopy, IsProtocolState}
pub use Rattle.lw_mesi.specs.Coherence.{LineSatisfiesProtocol, SatisfiesProtocol, caches_invariant}
pub use Rattle.lw_mesi.specs.Protocols.{caches_by, moesi_on_other_get_s, protocol_name, table_of}
pub use Rattle.lw_mesi.specs.Snooping.{ProtocolTable, ProtocolTransition, answer_to, cache_line_after_access}
pub use Rattle.lw_mesi.specs.Snooping.{cache_line_evicted, cache_line_to_read, cache_line_to_write}
pub use Rattle.lw_mesi.specs.Snooping.{cache_line_written, copy_from, is_held_anywhere, on_evict, on_load}
pub use Rattle.lw_mesi.specs.Snooping.{on_write}
pub use Rattle.lw_mesi.specs.declared.cache_line.PackedCacheLine.TheInside.{Inside}
pub use Rattle.lw_mesi.specs.declared.protocol.Protocol.{Protocol}
pub use Rattle.lw_mesi.specs.declared.protocol.Protocol.TheVariants.{Mesi, Moesi}
pub use Rattle.lw_mesi.specs.inner.EachIndex.{at_each, cpu_set_of_bits, empty_cpu_set, is_owner}
pub use Rattle.lw_mesi.specs.inner.Packed.{IsPacked, copy_at, owner_copy, sharer_copy, unpacked}
pub use Rattle.lw_mesi.specs.laws.Cases.{copy_in-invalid_if_none_held, copy_word-copy_from}
pub use Rattle.lw_mesi.specs.laws.Coherent.{at_index, copy_in, copy_in-map, copy_in-set_other}
pub use Rattle.lw_mesi.specs.laws.Coherent.{copy_in-set_same, copy_word-none_if_invalid}
pub use Rattle.lw_mesi.specs.laws.Coherent.{dirty_word_or-if_clean, dirty_word_or-if_dirty}
pub use Rattle.lw_mesi.specs.laws.ProtocolCases.{IsProtocolState-invalid, on_other_get_s-invalid}
pub use Rattle.lw_mesi.specs.laws.ProtocolLaws.{LineSatisfiesProtocol-after_eviction}
pub use Rattle.lw_mesi.specs.laws.ProtocolLaws.{LineSatisfiesProtocol-after_load}
pub use Rattle.lw_mesi.specs.laws.ProtocolLaws.{LineSatisfiesProtocol-after_write}
pub use Rattle.lw_mesi.specs.laws.ProtocolLaws.{LineSatisfiesProtocol-at_location, SatisfiesProtocol-set}
pub use Rattle.lw_mesi.specs.laws.ProtocolLaws.{protocol_lawful}
