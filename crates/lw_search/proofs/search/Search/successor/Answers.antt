-- Proves `successor`, which looks into the cache, and takes the event if the cache does not hold the transition. What the cache holds
-- are transitions of the program, and rows that are appended preserve them.
use Rattle.lw_search.proofs.Common.{◌∙◌, inl, inr, sym, subst, Transition, IsTransition}
use Rattle.lw_search.proofs.ThreadTransitions.{AppendsRows-refl, AreTransitions-extended}
use Rattle.lw_search.proofs.ThreadTransitions.{IsTransition-extended}
use Rattle.lw_search.proofs.search.Search.successor.Goals as goal

pub returns-in-Some-clause-appended : goal.returns-in-Some-clause-appended
returns-in-Some-clause-appended g c = AppendsRows-refl c.args.self.now.tables c.args.self.now.states

pub returns-in-Some-clause-taken : goal.returns-in-Some-clause-taken
returns-in-Some-clause-taken g c =
    rw c.index.ensures.value at (c.requires.kept.each _ (c.get.ensures c.in-Some.next c.in-Some.is))

pub returns-in_default-2-clause-kept : goal.returns-in_default-2-clause-kept
returns-in_default-2-clause-kept g c =
    let rows = c.in_ok-next.ensures.appended in
    rw c.in_ok-next.ensures.transitions
    (AreTransitions-extended c.args.self.now.program.now.threads c.args.self.now.transitions rows.extended rows.runs
    c.requires.kept)

-- The cache holds the new transition, and those from before, which larger tables preserve.
pub returns-clause-kept : goal.returns-clause-kept
returns-clause-kept g c =
    let program = c.args.self.now.program.now.threads in
    let rows = c.in_ok-next.ensures.appended in
    let tables = c.compute_successor.new.self.tables in
    let runs = c.compute_successor.new.self.states.runs in
    let taken = rw (← c.index.ensures.value) at (rw c.in-Some-2.is at c.in_ok-next.ensures.taken) in
    record {
      of_program = rows.extended.program ∙ c.requires.kept.of_program;
      each = λ t held. elim ((rw c.in_ok-next.ensures.transitions at c.insert.ensures) t held) [
        | inl same ↦ subst (λ (u : Transition). IsTransition program tables runs u) (sym same) taken
        | inr old ↦ IsTransition-extended program t rows.extended rows.runs (c.requires.kept.each t old)
      ];
    }
