-- `parse_proposition` promises the proposition that all remaining tokens are, or that they are none, and where
-- they fail. Each round adds a terminal (`TerminalsRead-push`). At the end the state has a result or is incomplete
-- (`ParsedProposition-at_end`, `NoProposition-if_incomplete`). If no terminal fits, the tokens are no proposition, whatever
-- follows (`NoProposition-if_no_terminal`). Each exit with a fault shows two things, in this order: that there is no
-- such reading, and where it fails (`Fails-later`).
use Rattle.lw_text.proofs.Common.{most_nodes, ℕ, ◌+◌, ◌≤◌, ◌∙◌, [], append-nil, drop_all, refl, sym, ap}
use Rattle.lw_text.proofs.Common.{subst, arith, MatchResult-weaker, IsParserCause, remaining, remaining_texts}
use Rattle.lw_text.proofs.Common.{state_of, FailsInProposition, incomplete, BeginsAt, place_of, Unterminated}
use Rattle.lw_text.proofs.Lists.{IsSuffix-join}
use Rattle.lw_text.proofs.Failures.{Fails-later}
use Rattle.lw_text.proofs.PropositionPlaces.{incomplete_place, HasRoomForNode-by_test}
use Rattle.lw_text.proofs.Texts.{no_tokens-if_past_last, tokens_remain-before_last}
use Rattle.lw_text.proofs.TerminalLists.{IsTerminal-shorter}
use Rattle.lw_text.proofs.PropositionCases.{TerminalsRead-none, ParsedProposition-at_end}
use Rattle.lw_text.proofs.PropositionCases.{NoProposition-if_incomplete, NoProposition-if_no_terminal}
use Rattle.lw_text.proofs.PropositionCases.{TerminalsRead-push, IsDuplicateFree-names, node_count_at_most}
use Rattle.lw_text.proofs.PropositionCases.{FailsInProposition-after_terminal}
use Rattle.lw_text.proofs.cursor.Cursor.parse_proposition.Goals as goal

-- A reader of tokens may report that they end too early.
IsParserCause-unterminated : IsParserCause Unterminated
IsParserCause-unterminated = (λ e. cc, λ e. cc)

pub refusal-requires : goal.refusal-requires
refusal-requires g c = IsParserCause-unterminated

-- At the end of the tokens they are the proposition of the reader's state, or none if it has no result.
pub returns-then-self : goal.returns-then-self
returns-then-self g c =
    let read = c.terminals.invariant.read in
    let gone = no_tokens-if_past_last c.terminals.self.tokens.now c.terminals.self.next (omega (arith, c.if-self.true)) in
    MatchResult-weaker c.finish-prop.result c.finish-prop.ensures (λ prop is. ParsedProposition-at_end read gone prop is)
    (λ f lost ne.
    let none = lost ne in
    let nothing = drop_all c.terminals.self.next c.terminals.self.tokens.now (omega (arith, c.if-self.true)) in (
      NoProposition-if_incomplete read gone none.0,
      record {
        rest = [];
        suffix =
            IsSuffix-join c.terminals.invariant.advances
            (remaining c.terminals.self, sym (append-nil (remaining c.terminals.self)));
        place = none.1 ∙ subst (λ x. BeginsAt x c.refusal.result.at) nothing c.refusal.ensures.place;
        way = c.terminals.invariant.fails [] _ (incomplete (incomplete_place (state_of c.terminals.reader) none.0) gone refl);
      },
    ))

pub parse_next_terminal-requires-clause-once : goal.parse_next_terminal-requires-clause-once
parse_next_terminal-requires-clause-once g c = IsDuplicateFree-names c.terminals.invariant.read c.requires.once

pub returns-in-Err : goal.returns-in-Err
returns-in-Err g c = λ ne.
    let lost = c.in-Err.ensures ne in (
      NoProposition-if_no_terminal c.terminals.invariant.read
          (tokens_remain-before_last c.terminals.self.tokens.now c.terminals.self.next c.terminals.self.within c.if-self.false)
          lost.0,
      Fails-later c.terminals.invariant.advances (λ rest cause w. c.terminals.invariant.fails rest cause w) lost.1,
    )

pub terminals-init : goal.terminals-init
terminals-init g c = record {
  read = TerminalsRead-none c.args.arch c.args.threads c.args.locs.now _ c.new-reader.result c.new-reader.ensures;
  advances = ([], refl);
  fails = λ rest cause w.
      subst (λ state.
      FailsInProposition c.args.arch c.args.threads rest cause (place_of state) 0 c.args.locs.now
      (remaining_texts c.args.self.now)) c.new-reader.ensures w;
}

-- A terminal that is possible is one more terminal read.
pub terminals-preserved : goal.terminals-preserved
terminals-preserved g c =
    let counts = ap (λ (n : ℕ). c.terminals.nodes + n) c.nodes-nodes.ensures in
    let room =
    node_count_at_most c.in-Ok.ensures.0 c.terminals.nodes c.terminals.invariant.read.within_node_limit c.in-Ok.ensures.3 in
    record {
      read =
          TerminalsRead-push c.in-Ok.ensures.0 c.terminals.invariant.read c.requires.once c.in-Ok.ensures.1 _ counts
          (subst (λ (n : ℕ). n ≤ most_nodes) (sym counts) room);
      advances = IsSuffix-join c.terminals.invariant.advances c.in-Ok.ensures.0.advances;
      fails = λ rest cause w.
          c.terminals.invariant.fails rest cause
          (FailsInProposition-after_terminal c.in-Ok.ensures.0 c.terminals.reader c.parse_next_terminal.new.reader
          (HasRoomForNode-by_test _ _ c.in-Ok.ensures.3) c.in-Ok.ensures.1 counts c.in-Ok.ensures.2 w);
    }

pub overflow_add-nodes : goal.overflow_add-nodes
overflow_add-nodes g c =
    let room = node_count_at_most c.in-Ok.ensures.0 _ c.terminals.invariant.read.within_node_limit c.in-Ok.ensures.3 in
    omega (arith, (ap (λ (n : ℕ). c.terminals.nodes + n) c.nodes-nodes.ensures), room)

pub terminals-smaller : goal.terminals-smaller
terminals-smaller g c = IsTerminal-shorter c.args.arch c.args.threads _ _ _ c.in-Ok.ensures.0.parsed

pub parse_next_terminal-requires-clause-some : goal.parse_next_terminal-requires-clause-some
parse_next_terminal-requires-clause-some g c =
    tokens_remain-before_last c.terminals.self.tokens.now c.terminals.self.next c.terminals.self.within c.if-self.false
