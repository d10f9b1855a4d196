-- Proves `memory_number`, which returns the number of a memory and inserts the memory if it has none. A found
-- index has equal words (`slice_get-at_position`); an insertion keeps earlier numbers and makes no duplicate
-- (`HasUniqueIndices-insert`), since it happens only if no row compares equal.
use Rattle.lw_search.proofs.Common.{◌≡◌, ◌∙◌, Some, refl, sym, ap, slice_get, IfOk-weaker, unsigned_Decides}
use Rattle.lw_search.proofs.Common.{pointwise, pointwise_decides, nat_eq, Components}
use Rattle.lw_search.proofs.Rows.{slice_get-at_position, IsPrefix-insert_if, IsPrefix-refl}
use Rattle.lw_search.proofs.Rows.{HasUniqueIndices-insert, Extends-refl}
use Rattle.lw_search.proofs.tables.Tables.memory_number.Goals as goal

pub returns-in-Some-clause-found : goal.returns-in-Some-clause-found
returns-in-Some-clause-found g c =
    let at =
    slice_get-at_position (pointwise nat_eq) (λ x y. (pointwise_decides unsigned_Decides x y).0) c.self.inside.memories.keys
    c.args.words.now c.get_index_of.result c.in-Some.index c.get_index_of.ensures.index c.in-Some.is in
    IfOk-weaker c.row_number.result _ _ (λ n is.
    ap (λ (t : Components). slice_get t.memories n) (sym c.self.view_is) ∙ ap (slice_get c.self.inside.memories.keys) is ∙ at)
    c.row_number.ensures

-- If the memory has no number, its row is appended, and numbers remain unique.
pub returns-in_ok-index-in-None-clause-extended : goal.returns-in_ok-index-in-None-clause-extended
returns-in_ok-index-in-None-clause-extended g c =
    rw (← c.self.view_is)
    (IfOk-weaker c.row_number-in-None.result _ _ (λ n is. record {
      program = refl;
      threads = IsPrefix-refl _;
      memories = IsPrefix-insert_if _ _ _ _ c.in_ok-index-in-None.ensures.keys;
      distinct_threads = λ d. d;
      distinct_memories =
          HasUniqueIndices-insert (pointwise nat_eq) (pointwise_decides unsigned_Decides) _ _ _
          c.in_ok-index-in-None.ensures.keys;
    }) c.row_number-in-None.ensures)

pub returns-in_ok-index-in-None-clause-found : goal.returns-in_ok-index-in-None-clause-found
returns-in_ok-index-in-None-clause-found g c =
    let keys = c.insert_full.new.self.keys in
    let stored = c.in_ok-index-in-None.ensures.stored in
    let same : stored.0 ≡ c.args.words.now =
    sym ((pointwise_decides unsigned_Decides _ _).0 stored.2) ∙ c.in_ok-copy-in-None.ensures in
    IfOk-weaker c.row_number-in-None.result _ _ (λ n is. ap (slice_get keys) is ∙ stored.1 ∙ ap Some same)
    c.row_number-in-None.ensures

pub returns-in-Some-clause-extended : goal.returns-in-Some-clause-extended
returns-in-Some-clause-extended g c =
    IfOk-weaker c.row_number.result _ _ (λ n is. Extends-refl c.args.self.now) c.row_number.ensures
