-- `parse_next_terminal` promises the next terminal and the reader's state after it, or that no terminal fits, and
-- where it fails. The interesting exits are the two that refuse a terminal that could be read: it would be one
-- node too many (`no_room_for_node`), or the state does not allow it, which is so only of a `)` that closes
-- nothing (`closes_nothing`). Each exit with a fault shows two things, in this order: that there is no such
-- reading, and where it fails (`Fails-later`).
use Rattle.lw_text.proofs.Common.{◌∙◌, [], refl, sym, ap, subst, remaining_texts, state_of, FailsInTerminal}
use Rattle.lw_text.proofs.Common.{unopened, too_many_nodes, in_terminal}
use Rattle.lw_text.proofs.Failures.{Fails-here, Fails-later}
use Rattle.lw_text.proofs.PropositionPlaces.{closes_nothing, wants_part-place}
use Rattle.lw_text.proofs.PropositionPlaces.{node_limit_reached-no_parenthesis, HasRoomForNode-by_test}
use Rattle.lw_text.proofs.PropositionCases.{no_next_state-if_refused, no_room_for_node}
use Rattle.lw_text.proofs.PropositionCases.{begins_part-if_allowed}
use Rattle.lw_text.proofs.Faults.{MatchResult-Memory_error, Err-clause_known}
use Rattle.lw_text.proofs.cursor.Cursor.parse_next_terminal.Goals as goal

-- If the terminal is not possible in the reader's state, it is a `)` that closes nothing, and the proposition fails there.
pub returns-then-not-branch : goal.returns-then-not-branch
returns-then-not-branch g c =
    let refused = rw c.if-not-branch.true at c.in_ok-take.ensures in
    λ ne. (
      λ s rest is left few fits.
          left (no_next_state-if_refused c.in_ok-terminal.ensures.0 c.args.reader.now c.requires.once refused s rest is),
      Fails-here c.args.self.now _ c.refusal-misfit.ensures.place
          (let closes =
          closes_nothing (state_of c.args.reader.now) c.in_ok-terminal.terminal refused
          (c.in_ok-terminal.ensures.1 ∙ sym (wants_part-place c.args.reader.now _ c.wants_part.ensures)) in
          unopened closes.0 (rw closes.1 at c.in_ok-terminal.ensures.0.parsed) refl c.refusal-misfit.ensures.cause),
    )

pub returns-then-not-has_room : goal.returns-then-not-has_room
returns-then-not-has_room g c =
    let full = sym c.has_room.ensures ∙ c.if-not-has_room.true in
    let room = node_limit_reached-no_parenthesis c.args.nodes _ full in
    λ ne. (
      λ s rest is left few fits. no_room_for_node c.args.arch c.args.threads c.args.nodes _ rest s full is fits,
      Fails-here c.args.self.now _ c.refusal-misfit.ensures.place
          (too_many_nodes c.requires.some room.0 refl room.1 c.refusal-misfit.ensures.cause),
    )

-- If no terminal can be read, none is possible next, and the proposition fails where the terminal does.
pub returns-in_err-terminal : goal.returns-in_err-terminal
returns-in_err-terminal g c = Err-clause_known _ _ _ c.from_residual.ensures.1 (λ ne.
    let lost = c.in_err-terminal.ensures ne in (
      λ s rest is left few fits. lost.0 s rest is (begins_part-if_allowed c.args.reader.now _ c.wants_part.ensures _ s left) few,
      Fails-later ([], refl) (λ rest cause w.
          in_terminal c.requires.some (HasRoomForNode-by_test _ _ (sym c.has_room.ensures ∙ c.if-not-has_room.false))
          (subst
          (λ part. FailsInTerminal c.args.arch c.args.threads part c.args.locs.now (remaining_texts c.args.self.now) rest cause)
          (sym (wants_part-place c.args.reader.now _ c.wants_part.ensures)) w)) lost.1,
    ))

pub returns-in_err-take : goal.returns-in_err-take
returns-in_err-take g c = MatchResult-Memory_error _ _ _ c.from_residual-in_err-take.ensures.1

pub returns : goal.returns
returns g c = (
  c.in_ok-terminal.ensures.0,
  rw c.if-not-branch.false at c.in_ok-take.ensures,
  c.len-known.ensures.table.bounded,
  sym c.has_room.ensures ∙ c.if-not-has_room.false,
)
