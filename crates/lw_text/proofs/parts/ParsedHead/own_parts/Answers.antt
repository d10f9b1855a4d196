-- `own_parts` promises the name, the initial words and the listed sites of a head. Only the premises of the
-- calls are answered by hand: a test has at most four threads and eight locations.
use Rattle.lw_text.proofs.Common.{most_locations, ℕ, ◌≤◌, subst, sym}
use Rattle.lw_text.proofs.parts.ParsedHead.own_parts.Goals as goal

pub initial_registers-requires : goal.initial_registers-requires
initial_registers-requires g c = c.args.self.now.bounded

pub initial_words-requires : goal.initial_words-requires
initial_words-requires g c = subst (λ (n : ℕ). n ≤ most_locations) (sym c.len-len.ensures.len) c.len-len.ensures.table.bounded

pub listed_in_order-requires-clause-threads : goal.listed_in_order-requires-clause-threads
listed_in_order-requires-clause-threads g c = c.args.self.now.bounded

pub listed_in_order-requires-clause-len : goal.listed_in_order-requires-clause-len
listed_in_order-requires-clause-len g c =
    subst (λ (n : ℕ). n ≤ most_locations) (sym c.len-len.ensures.len) c.len-len.ensures.table.bounded
