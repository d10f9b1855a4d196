-- `listed_in_order` promises the registers and locations among the listed sites, in order, without duplicates.
-- Each round appends the registers of one thread (`registers-push`), and then the locations follow.
use Rattle.lw_text.proofs.Common.{sym, refl, arith, ap, length, length-take, is_listed, most_threads, ℕ, ◌≡◌}
use Rattle.lw_text.proofs.Common.{◌≤◌, List, filter-append, length-range_with_len, range_with_len, take}
use Rattle.lw_text.proofs.Starts.{registers-push}
use Rattle.lw_text.proofs.api.Indices.{is_index}
use Rattle.lw_text.proofs.seen.listed_in_order.Goals as goal

pub bounds-cpu-items-cpu-index : goal.bounds-cpu-items-cpu-index
bounds-cpu-items-cpu-index g c = c.loop-cpu-test.true

pub loop-cpu-init : goal.loop-cpu-init
loop-cpu-init g c = c.new-seen.ensures

pub loop-cpu-preserved : goal.loop-cpu-preserved
loop-cpu-preserved g c =
    let seen = is_listed c.args.sites.now in
    let at : c.cpu-item.result ≡ c.loop-cpu.cpu-index =
    is_index most_threads c.args.threads c.all.ensures refl c.loop-cpu-test.true c.cpu-item.is in
    registers-push seen c.loop-cpu.seen c.push_listed_registers.new.seen c.loop-cpu.cpu-index c.loop-cpu.invariant
    (rw at at c.in_ok-push_listed_registers.ensures)

-- An index past the first `len` numbers is `len`.
index-at_end : (n len i : ℕ) {all xs : List ℕ}
    → all ≡ range_with_len 0 n
    → xs ≡ take len all
    → len ≤ n
    → i ≤ length xs
    → length xs ≤ i
    → i ≡ len
index-at_end n len i {all = all} e f few at_most at_least =
    omega (arith, at_most, at_least, ap length f, length-take len all, ap length e, length-range_with_len 0 n)

pub returns : goal.returns
returns g c =
    let all =
    index-at_end most_threads c.args.threads _ c.all.ensures refl c.requires.threads c.loop-cpu.auto.cpu-index-end
    c.loop-cpu-test.false in
    rw (c.in_ok-push_listed_locations.ensures, c.loop-cpu.invariant, all) (sym (filter-append (is_listed c.args.sites.now) _ _))
