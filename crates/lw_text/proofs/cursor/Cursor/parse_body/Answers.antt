-- `parse_body` promises the parts of a test that the tokens say, or that they say none, and where they fail.
-- Success puts the parts together (`HasSyntax-of_parts`). For each part that fails, the tokens are no test, since
-- what precedes it is read in one way only (`no_test-if_no_header`, `no_test-if_thread_is_missing`,
-- `no_test-if_no_rows`, `no_test-if_no_question`). Each exit with a fault shows two things, in this order: that
-- there is no such reading, and where it fails (`Fails-later`).
use Rattle.lw_text.proofs.Common.{[], refl, sym, map, arith, subst, length-map, Header, Block}
use Rattle.lw_text.proofs.Common.{named_initializer, cells_texts, with_spans, remaining, remaining_texts}
use Rattle.lw_text.proofs.Common.{FailsInQuestion, in_block, in_header, no_such_thread, in_rows, in_question}
use Rattle.lw_text.proofs.Common.{BeginsAt, ReadsHeader}
use Rattle.lw_text.proofs.CellPlaces.{Rows-with_spans, with_spans-of_suffix}
use Rattle.lw_text.proofs.Lists.{IsSuffix-join}
use Rattle.lw_text.proofs.api.Places.{texts_placed}
use Rattle.lw_text.proofs.Bodies.{HasSyntax-of_parts}
use Rattle.lw_text.proofs.Whole.{names_of_initializers, HasRoomFor-initial_block, no_test-if_no_header}
use Rattle.lw_text.proofs.Whole.{no_test-if_thread_is_missing, no_test-if_no_rows, no_test-if_no_question}
use Rattle.lw_text.proofs.Whole.{header_has_thread, row_lengths-Rows, ThreadExists-all_initializers}
use Rattle.lw_text.proofs.Whole.{site_is_register-missing_thread, ReadsBlock-ParsedBlock}
use Rattle.lw_text.proofs.Failures.{Fails-later, BeginsInitializer-at}
use Rattle.lw_text.proofs.Faults.{Err-clause_known}
use Rattle.lw_text.proofs.cursor.Cursor.parse_body.Given.{Over}
use Rattle.lw_text.proofs.cursor.Cursor.parse_body.Goals.{In_ok-threads}
use Rattle.lw_text.proofs.cursor.Cursor.parse_body.Goals as goal

pub returns-in_err-initializers : goal.returns-in_err-initializers
returns-in_err-initializers g c = Err-clause_known _ _ _ c.from_residual.ensures.1 (λ ne.
    let lost = rw c.new-locs.ensures at (c.in_err-initializers.ensures ne) in (
      λ s f p whole.
          lost.0 s.initializers p.after_block p.block
          (HasRoomFor-initial_block c.args.arch (remaining_texts c.args.self.now) s p),
      Fails-later ([], refl) (λ rest cause w. in_block w) lost.1,
    ))

pub returns-in_err-threads : goal.returns-in_err-threads
returns-in_err-threads g c = Err-clause_known _ _ _ c.from_residual-in_err-threads.ensures.1 (λ ne. (
  λ s f p whole.
      no_test-if_no_header c.args.arch (remaining_texts c.args.self.now) _ _ c.in_ok-initializers.ensures.parsed
      c.in_err-threads.ensures.0 s p,
  Fails-later c.in_ok-initializers.ensures.advances
      (λ rest cause w. in_header _ _ (ReadsBlock-ParsedBlock c.new-locs.ensures c.in_ok-initializers.ensures) w)
      c.in_err-threads.ensures.1,
))

-- The block and the header were read.
abbrev reads_header : (g : Over) (c : In_ok-threads g) → ReadsHeader c.args.arch (remaining_texts c.args.self.now)
reads_header g c = record {
  initializers = _;
  after_block = _;
  threads = c.in_ok-threads.threads;
  after_header = _;
  block = ReadsBlock-ParsedBlock c.new-locs.ensures c.in_ok-initializers.ensures;
  header = c.in_ok-threads.ensures.0;
}

-- If the thread of an initializer does not exist, the tokens are no test, and they fail at the first such initializer.
pub returns-in_err-check_threads : goal.returns-in_err-check_threads
returns-in_err-check_threads g c =
    let lost = rw c.as_slice.ensures at c.in_err-check_threads.ensures.place in
    let begins =
    BeginsInitializer-at c.args.arch c.args.self.now [] c.in_ok-initializers.initializers lost.0 lost.1
    c.in_ok-initializers.ensures.places lost.2 in
    let thread = site_is_register-missing_thread lost.1.site c.in_ok-threads.threads lost.4 in
    Err-clause_known _ _ _ c.from_residual-in_err-check_threads.ensures.1 (λ ne. (
      λ s f p whole.
          no_test-if_thread_is_missing c.args.arch _ _ _ c.in_ok-initializers.ensures.parsed _ _ c.in_ok-threads.ensures.0
          c.parse_block.new.locs _ refl (rw c.as_slice.ensures at c.in_err-check_threads.ensures.err) s p,
      record {
        rest = begins.rest;
        suffix = begins.suffix;
        place = subst (BeginsAt begins.rest) (sym lost.5) begins.place;
        way =
            no_such_thread (reads_header g (goal.at.returns-in_err-check_threads g c).In_ok-threads) (record {
              inside = _;
              earlier = _;
              thread = thread.0;
              register = thread.1;
              word = lost.1.word;
              after = _;
              opens = begins.opens;
              read = begins.read;
              earlier_exist = ThreadExists-all_initializers _ begins.names _ lost.3;
              first = begins.parsed thread.0 thread.1 thread.2;
              missing = thread.3;
            }) lost.6;
      },
    ))

pub returns-in_err-rows : goal.returns-in_err-rows
returns-in_err-rows g c = Err-clause_known _ _ _ c.from_residual-in_err-rows.ensures.1 (λ ne.
    let lost = c.in_err-rows.ensures ne in (
      λ s f p whole.
          no_test-if_no_rows c.args.arch _ _ _ c.in_ok-initializers.ensures.parsed _ _ c.in_ok-threads.ensures.0 lost.0 s p,
      Fails-later (IsSuffix-join c.in_ok-initializers.ensures.advances c.in_ok-threads.ensures.1) (λ rest cause w.
          in_rows (reads_header g (goal.at.returns-in_err-rows g c).In_ok-threads)
          (ThreadExists-all_initializers _ _ _ (rw c.as_slice.ensures at c.in_ok-check_threads.ensures.ok)) w) lost.1,
    ))

-- If there is no question, the tokens are no test, and they fail where the question does.
pub returns : goal.returns
returns g c = λ ne.
    let lost = c.in-Err.ensures ne in
    let names =
    names_of_initializers c.parse_block.new.locs c.in_ok-initializers.initializers
    (rw c.new-locs.ensures at c.in_ok-initializers.ensures.names_are) in (
      no_test-if_no_question c.args.arch (remaining_texts c.args.self.now) (remaining_texts c.parse_block.new.self) _
          c.in_ok-initializers.ensures.parsed c.in_ok-threads.threads (remaining_texts c.parse_header.new.self)
          c.in_ok-threads.ensures.0 _ _ c.in_ok-rows.ensures.0 c.parse_block.new.locs names lost.0,
      Fails-later
          (IsSuffix-join c.in_ok-initializers.ensures.advances (IsSuffix-join c.in_ok-threads.ensures.1 c.in_ok-rows.ensures.2))
          (λ rest cause w.
          in_question (reads_header g (goal.at.returns g c).In_ok-threads) _ _
          (ThreadExists-all_initializers _ _ _ (rw c.as_slice.ensures at c.in_ok-check_threads.ensures.ok)) c.in_ok-rows.ensures.0
          (subst
          (λ table. FailsInQuestion c.args.arch c.in_ok-threads.threads table (remaining_texts c.parse_rows.new.self) rest cause)
          names w)) lost.1,
    )

pub invariant_of-result : goal.invariant_of-result
invariant_of-result g c =
    let rows = c.in_ok-rows.rows in
    record {
      some = header_has_thread _ _ c.in_ok-threads.threads c.in_ok-threads.ensures.0;
      even = row_lengths-Rows c.in_ok-threads.threads rows _ _ c.in_ok-rows.ensures.0;
      low = omega (arith, length-map rows cells_texts, c.in_ok-rows.ensures.0.1);
    }

-- If all parts were read, the body has the syntax of the tokens, and its rows are parts of them.
pub returns-in-Ok : goal.returns-in-Ok
returns-in-Ok g c =
    let threads = c.in_ok-threads.threads in
    let block = rw c.new-locs.ensures at c.in_ok-initializers.ensures in
    let advances = IsSuffix-join block.advances c.in_ok-threads.ensures.1 in
    let whole = remaining c.args.self.now in
    let later = remaining c.parse_header.new.self in (
      HasSyntax-of_parts block (remaining_texts c.parse_header.new.self) (remaining_texts c.parse_rows.new.self)
          c.in_ok-threads.ensures.0 (rw c.as_slice.ensures at c.in_ok-check_threads.ensures.ok) c.in_ok-rows.ensures.0
          c.in-Ok.ensures c.len-len.ensures.table.bounded,
      record {
        initializers = map (named_initializer c.parse_block.new.locs) c.in_ok-initializers.initializers;
        after_block = remaining_texts c.parse_block.new.self;
        front = with_spans advances.0;
        after_header = with_spans later;
        after_rows = with_spans (remaining c.parse_rows.new.self);
        block =
            subst (λ ts.
            Block c.args.arch ts (map (named_initializer c.parse_block.new.locs) c.in_ok-initializers.initializers)
            (remaining_texts c.parse_block.new.self)) (sym (texts_placed whole)) block.parsed;
        header =
            subst (λ ts. Header (remaining_texts c.parse_block.new.self) threads ts) (sym (texts_placed later))
            c.in_ok-threads.ensures.0;
        parts = with_spans-of_suffix whole later advances;
        says = Rows-with_spans _ later (remaining c.parse_rows.new.self) c.in_ok-rows.rows c.in_ok-rows.ensures.0;
        cut = c.in_ok-rows.ensures.1;
      },
    )

pub parse_question-requires-clause-threads : goal.parse_question-requires-clause-threads
parse_question-requires-clause-threads g c = c.in_ok-threads.ensures.0.1

pub invariant_of-parts : goal.invariant_of-parts
invariant_of-parts g c = record { bounded = c.in_ok-threads.ensures.0.1 }
