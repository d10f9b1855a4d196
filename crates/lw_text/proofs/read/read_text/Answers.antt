-- `read_text` promises the frame of a short UTF-8 text, or that it has none and where it fails. Each exit with a fault gives three things,
-- in this order: the text has no frame; the place is within the text; the text fails there, for this cause (`in_preamble`, or
-- `in_body` with `FailsInBody-StreamFails`). At `in_err-stream` and at `in_err-finish` memory ran out, and there is nothing more to show
-- (`MatchResult-out_of_memory`). If the tokens end early or are no test, the text has no frame by `no_frame-if_no_test` and
-- `HasNoTest-if_no_tokens_or_no_parse`. Where an answer has `whole`, it says that the lexer's text is the argument. The head computed in memory is
-- the head that the text says (`resolved_head-head_of_syntax`).
use Rattle.lw_text.proofs.Common.{◌≡◌, ◌≢◌, ℕ, ◌≤◌, length, sym, ap, ◌∙◌, subst, arith, All, IfSome, Option}
use Rattle.lw_text.proofs.Common.{None, Some, MatchOption, Result, IsErrAnd, MatchResult, Fault, Memory}
use Rattle.lw_text.proofs.Common.{MatchOption-at_none, token_texts, PlacedTokens, head_of, columns, Preamble}
use Rattle.lw_text.proofs.Common.{formula_of, head_of_syntax, syntax_of, cell_texts, all_texts, with_spans}
use Rattle.lw_text.proofs.Common.{placed_cells, CellGrid, TestFrame, TestHead, HoldsOfNothing, Tokens}
use Rattle.lw_text.proofs.Common.{FailsInPreamble, in_preamble, in_body, FailsFrom, StopsAt}
use Rattle.lw_text.proofs.StreamFailures.{FailsInBody-StreamFails}
use Rattle.lw_text.proofs.TokenRows.{Tokens-with_spans}
use Rattle.lw_text.proofs.CellPlaces.{EndsBefore-HasRows}
use Rattle.lw_text.proofs.RowColumns.{map-columns}
use Rattle.lw_text.proofs.WellFormedHeads.{resolved_head-head_of_syntax, body_proposition}
use Rattle.lw_text.proofs.Whole.{no_frame-if_no_test, HasNoTest-if_no_tokens_or_no_parse}
use Rattle.lw_text.proofs.Faults.{MatchResult-weakened_error, Err-clause_known}
use Rattle.lw_text.proofs.read.read_text.Goals as goal

-- If an option satisfies `MatchOption` with Q of its value, and Q implies R, the value, if there is one, has R.
IfSome-of_match : {F : Type 0} (P : Type 0) (Q R : F → Type 0) (o : Option F)
    → MatchOption o P Q
    → ((f : F) → Q f → R f)
    → IfSome o R
IfSome-of_match P Q R None p h = tt
IfSome-of_match P Q R (Some f) q h = h f q

-- If an option satisfies `MatchOption` with A, B and C of its value, it does with A and B.
MatchOption-first_two : {F : Type 0} (P : Type 0) (A B C : F → Type 0) (o : Option F)
    → MatchOption o P (λ f. A f × B f × C f)
    → MatchOption o P (λ f. A f × B f)
MatchOption-first_two P A B C None p = p
MatchOption-first_two P A B C (Some f) p = (p.0, p.1)

-- A result that fails for lack of memory, at position 0, promises nothing else.
MatchResult-out_of_memory : {T : Type 0} (P : T → Type 0) (X : Type 0) (Y : Fault → Type 0) (len : ℕ) (r : Result T Fault)
    → IsErrAnd r (λ f. (f.at ≡ 0) × (f.cause ≡ Memory))
    → MatchResult r P (λ f. (f.cause ≢ Memory → X) × (f.at ≤ len) × (f.cause ≢ Memory → Y f))
MatchResult-out_of_memory P X Y len r h =
    MatchResult-weakened_error P _ r h (λ f k. (λ other. absurd (other k.1), omega (arith, k.0), λ other. absurd (other k.1)))

-- If the preamble fails, the text has no frame and fails where the preamble does.
pub returns-in_err-preamble : goal.returns-in_err-preamble
returns-in_err-preamble g c = Err-clause_known _ _ _ c.from_residual.ensures.1 (
  λ _ frame h.
      c.in_err-preamble.ensures.reads.0 h.arch h.name h.rest
      (subst (λ t. Preamble t h.arch h.name h.rest) (sym c.new-lexer.ensures.rest) h.preamble),
  omega (arith, c.in_err-preamble.ensures.reads.1, ap length c.new-lexer.ensures.text),
  λ ne.
      let fails =
      subst (λ t.
      FailsFrom (length c.new-lexer.result.text.now) t FailsInPreamble c.in_err-preamble.field-0.0.at
      c.in_err-preamble.field-0.0.cause) c.new-lexer.ensures.rest c.in_err-preamble.ensures.reads.2 in
      in_preamble fails.rest fails.way (fails.place ∙ ap length c.new-lexer.ensures.text),
)

pub body-read-requires-clause-places : goal.body-read-requires-clause-places
body-read-requires-clause-places g c =
    let whole = c.in_ok-preamble.ensures.same ∙ c.new-lexer.ensures.text in
    subst (λ t. All (λ token. token.at ≤ length t) c.in_ok-stream.stream.tokens) whole c.in_ok-stream.ensures.1

pub body-read-requires-clause-fault : goal.body-read-requires-clause-fault
body-read-requires-clause-fault g c =
    let whole = c.in_ok-preamble.ensures.same ∙ c.new-lexer.ensures.text in
    IfSome-of_match _ _ _ c.in_ok-stream.stream.fault c.in_ok-stream.ensures.0 (λ f h. omega (arith, h.1, ap length whole))

-- If the body fails, the text has no frame and fails where the body does.
pub returns-in_err-body : goal.returns-in_err-body
returns-in_err-body g c =
    let arch = c.in_ok-preamble.preamble.arch in
    let name = c.in_ok-preamble.preamble.name.now in
    let rest = c.parse_preamble.new.self.rest.now in
    let stream = c.in_ok-stream.stream in
    let whole = c.in_ok-preamble.ensures.same ∙ c.new-lexer.ensures.text in
    let preamble = subst (λ t. Preamble t arch name rest) c.new-lexer.ensures.rest c.in_ok-preamble.ensures.reads in
    let tokens_or_stop =
    subst (λ t.
    MatchOption stream.fault (PlacedTokens (length t) rest (with_spans stream.tokens))
    (λ g. HoldsOfNothing (Tokens rest) × (g.at ≤ length t) × StopsAt (length t) rest (with_spans stream.tokens) g.at g.cause))
    whole c.in_ok-stream.ensures.0 in
    Err-clause_known _ _ _ c.from_residual-in_err-body.ensures.1 (
      λ ne.
          no_frame-if_no_test c.args.text.now arch name rest preamble
          (HasNoTest-if_no_tokens_or_no_parse arch stream.fault _ _ rest stream.tokens
          (MatchOption-first_two _ _ _ _ stream.fault c.in_ok-stream.ensures.0) (c.in_err-body.ensures.0 ne)),
      c.in_err-body.ensures.1,
      λ ne. in_body arch name rest preamble (FailsInBody-StreamFails tokens_or_stop (c.in_err-body.ensures.2 ne)),
    )

pub finish-requires-clause-within : goal.finish-requires-clause-within
finish-requires-clause-within g c =
    let body = c.in_ok-body.body in
    let len = length c.args.text.now in
    let within = rw (c.in_ok-preamble.ensures.same ∙ c.new-lexer.ensures.text) at c.in_ok-stream.ensures.1 in
    EndsBefore-HasRows len _ c.in_ok-stream.stream.tokens body.parts.threads body.rows c.in_ok-body.ensures.2 within

-- A frame is its head and its cells.
TestFrame-eq : (f : TestFrame) {h : TestHead} {a : CellGrid} → f.head ≡ h → f.cells ≡ a → f ≡ record { head = h; cells = a }
TestFrame-eq f p q = rw (← p, ← q)

-- The parts that were read are the frame of the text, and its cells those of the token stream.
pub returns : goal.returns
returns g c =
    let arch = c.in_ok-preamble.preamble.arch in
    let name = c.in_ok-preamble.preamble.name.now in
    let rest = c.parse_preamble.new.self.rest.now in
    let body = c.in_ok-body.body in
    let all = c.in_ok-stream.stream in
    let frame = c.in_ok-finish.field-0 in
    let says = c.in_ok-body.ensures.1 in
    let preamble = subst (λ t. Preamble t arch name rest) c.new-lexer.ensures.rest c.in_ok-preamble.ensures.reads in
    let head : head_of frame.head ≡ head_of_syntax arch name (syntax_of body says.terminals) (formula_of body.parts.prop) =
    c.in_ok-finish.ensures.head ∙ resolved_head-head_of_syntax arch name _ body says in
    let cells : all_texts frame.cells ≡ columns body.parts.threads (all_texts body.rows) =
    ap all_texts c.in_ok-finish.ensures.cells ∙ map-columns cell_texts body.parts.threads body.rows in
    let whole = c.in_ok-preamble.ensures.same ∙ c.new-lexer.ensures.text in
    let stream =
    subst (λ t. PlacedTokens (length t) rest (with_spans all.tokens)) whole
    (MatchOption-at_none _ _ c.in_ok-body.ensures.0 c.in_ok-stream.ensures.0) in (
      record {
        short = c.requires.short;
        utf8 = c.requires.utf8;
        arch = arch;
        name = name;
        rest = rest;
        tokens = token_texts all.tokens;
        syntax = syntax_of body says.terminals;
        proposition = formula_of body.parts.prop;
        preamble = preamble;
        stream = Tokens-with_spans (length c.args.text.now) rest all.tokens stream;
        parts = says.parts;
        is_proposition = body_proposition arch (token_texts all.tokens) body says;
        frame_is = TestFrame-eq _ head cells;
      },
      record {
        arch = arch;
        name = name;
        rest = rest;
        preamble = preamble;
        tokens = with_spans all.tokens;
        stream = stream;
        threads = body.parts.threads;
        rows = placed_cells body.rows;
        has_rows = c.in_ok-body.ensures.2;
        cells_are = ap placed_cells c.in_ok-finish.ensures.cells ∙ map-columns _ body.parts.threads body.rows;
      },
      c.in_ok-finish.ensures.len,
    )

pub returns-in_err-stream : goal.returns-in_err-stream
returns-in_err-stream g c = MatchResult-out_of_memory _ _ _ _ _ c.from_residual-in_err-stream.ensures.1

pub returns-in_err-finish : goal.returns-in_err-finish
returns-in_err-finish g c = MatchResult-out_of_memory _ _ _ _ _ c.from_residual-in_err-finish.ensures.1

pub finish-requires-clause-name : goal.finish-requires-clause-name
finish-requires-clause-name g c = c.in_ok-preamble.ensures.reads.3.is_name

pub finish-requires-clause-says : goal.finish-requires-clause-says
finish-requires-clause-says g c = (token_texts c.in_ok-stream.stream.tokens, c.in_ok-body.ensures.1)
