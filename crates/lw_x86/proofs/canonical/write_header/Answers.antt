-- `write_header` promises the line of the threads' names. Each round writes a separator and a name
-- (`joined_prefix-push`), and at the end all names are written (`joined_prefix-whole`). There are at most four threads, so the
-- number is the digit of the name.
use Rattle.lw_x86.proofs.Common.{map, codes, arith, append-nil, sym, range_with_len, decimal_digit}
use Rattle.lw_x86.proofs.Common.{get_or-map-range_with_len, length-map-range_with_len, slice_get_read}
use Rattle.lw_x86.proofs.Common.{thread_name, written-append}
use Rattle.lw_x86.proofs.SeparatedTexts.{joined_prefix-push, joined_prefix-whole, OnOk-line_written}
use Rattle.lw_x86.proofs.canonical.write_header.Goals as goal

pub loop-thread-init : goal.loop-thread-init
loop-thread-init g c = sym (append-nil _)

pub loop-thread-preserved : goal.loop-thread-preserved
loop-thread-preserved g c =
    let names = map thread_name (range_with_len 0 c.args.threads) in
    let k = c.loop-thread.thread-counter in
    let name = rw (decimal_digit k (omega (arith, c.loop-thread-test.true, c.requires))) at c.in_ok-write.ensures.bytes in
    joined_prefix-push _ _ k _ _ c.loop-thread.invariant _ _
    (slice_get_read _ _ k _ (sym (length-map-range_with_len thread_name 0 _)) c.loop-thread-test.true
    (sym (get_or-map-range_with_len thread_name 0 _ k k _ c.loop-thread-test.true (omega arith))))
    (written-append _ _ _ _ _ c.in_ok-write_separator.ensures name)

pub returns : goal.returns
returns g c =
    let names = map thread_name (range_with_len 0 c.args.threads) in
    let written =
    joined_prefix-whole (codes " | ") names c.loop-thread.thread-counter _ _ c.loop-thread.invariant
    (omega (arith, length-map-range_with_len thread_name 0 c.args.threads, c.loop-thread-test.false)) in
    OnOk-line_written _ _ (codes " ") _ _ c.in_ok-push_str.ensures.bytes written c.push_str-2.ensures.bytes
