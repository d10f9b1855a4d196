-- `push_if_listed` promises that the item is appended if its site is listed, and that nothing changes otherwise. The
-- loop's end says that no site is the wanted one; the early exit finds it.
use Rattle.lw_text.proofs.Common.{◌≡◌, ℕ, Bool, true, false, List, length, ◌+◌, ◌<◌, append-nil, get_or}
use Rattle.lw_text.proofs.Common.{is_listed, list_any, list_any_at, list_any_more, seen_of, sym, take}
use Rattle.lw_text.proofs.Common.{take_all, ◌∙◌}
use Rattle.lw_text.proofs.seen.push_if_listed.Goals as goal

-- If neither an element before index i nor the one at i passes the test, none before `i + 1` does.
list_any-take_next : {X : Type 0} (p : X → Bool) (xs : List X) (i : ℕ) (x : X)
    → list_any p (take i xs) ≡ false
    → i < length xs
    → x ≡ get_or xs i x
    → false ≡ p x
    → list_any p (take (i + 1) xs) ≡ false
list_any-take_next p xs i x none here at fails = rw (list_any_more p xs i x here, none, ← at) (sym fails)

pub loop-listed-preserved : goal.loop-listed-preserved
loop-listed-preserved g c = record {
  same = c.loop-listed.invariant.same;
  none = list_any-take_next _ _ _ _ c.loop-listed.invariant.none c.loop-listed-test.true c.listed-item.is c.if-is_same.ensures;
}

pub returns-then-is_same : goal.returns-then-is_same
returns-then-is_same g c =
    let listed : is_listed c.args.sites.now (seen_of c.args.site) ≡ true =
    list_any_at _ c.args.sites.now c.loop-listed.listed-index c.listed-item.result c.loop-listed-test.true
    (rw (← c.listed-item.is) (sym c.if-is_same.ensures)) in
    rw (listed, c.requires, ← c.loop-listed.invariant.same) c.push.ensures.ok

pub returns : goal.returns
returns g c =
    let none : is_listed c.args.sites.now (seen_of c.args.site) ≡ false =
    rw (take_all c.loop-listed.listed-index c.args.sites.now c.loop-listed-test.false) at c.loop-listed.invariant.none in
    rw none (c.loop-listed.invariant.same ∙ sym (append-nil _))
