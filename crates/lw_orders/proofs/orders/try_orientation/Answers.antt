-- Proves `try_orientation`, which tries the current orientation of a level's pair. If it closes a cycle, the
-- last pair that can be is reversed. Otherwise it is chosen: the pair is recorded, reachability with it is
-- saved, and the next pair is not reversed (`reversal_reset-at_index`).
use Rattle.lw_orders.proofs.Common.{◌≡◌, ℕ, List, ◌+◌, ◌<◌, ◌≤◌, Bool, true, false, ◌⊎◌, inl, inr, Option}
use Rattle.lw_orders.proofs.Common.{length, get_or, set, take, ap, sym, ◌∙◌, subst, refl, arith}
use Rattle.lw_orders.proofs.Common.{get_or-set_same, length-set, take-set, get_or_past, has, reach}
use Rattle.lw_orders.proofs.Common.{SearchState, TriedAs, TriesOrientation, pair_at}
use Rattle.lw_orders.proofs.orders.try_orientation.Goals.{then-level-unordered, else-level-unordered}
use Rattle.lw_orders.proofs.orders.try_orientation.Goals as goal

-- To prove `TriesOrientation` in one case: q is the level's pair in its current orientation, `closes_cycle` says whether q closes a cycle,
-- and the search changes as `TriedAs closes_cycle` says.
TriesOrientation-of_case : (len level : ℕ) (unordered : List (ℕ × ℕ)) (old new : SearchState) (next_level : Option ℕ) (q : ℕ × ℕ)
    (closes_cycle : Bool)
    → q ≡ pair_at unordered old.reversals level
    → reach old.saved level q.1 q.0 ≡ closes_cycle
    → TriedAs closes_cycle len q level old new next_level
    → TriesOrientation len unordered level old new next_level
TriesOrientation-of_case len level unordered old new next_level q closes_cycle is_pair reached_back tried =
    subst (λ (p : ℕ × ℕ). TriedAs (reach old.saved level p.1 p.0) len p level old new next_level) is_pair
    (subst (λ (c : Bool). TriedAs c len q level old new next_level) (sym reached_back) tried)

-- If `now` is `reversals` with the one at index k reset, or is `reversals` and k is out of range, then the length and the first k
-- reversals are unchanged, and the one at k is not set.
reversal_reset-at_index : (reversals now : List Bool) (k : ℕ)
    → ((k < length reversals) × (now ≡ set reversals k false)) ⊎ ((length reversals ≤ k) × (now ≡ reversals))
    → (length now ≡ length reversals) × (take k now ≡ take k reversals) × (get_or now k false ≡ false)
reversal_reset-at_index reversals now k (inl (l, e)) = (
  ap length e ∙ length-set reversals k false,
  ap (take k) e ∙ take-set reversals k false,
  ap (λ ws. get_or ws k false) e ∙ get_or-set_same reversals k false false l,
)
reversal_reset-at_index reversals now k (inr (l, e)) =
    (ap length e, ap (take k) e, ap (λ ws. get_or ws k false) e ∙ get_or_past reversals k false l)

-- The pair closes a cycle: `contains` found its first item among those that are reachable from its second.
pub returns-then-contains : goal.returns-then-contains
returns-then-contains c =
    TriesOrientation-of_case c.args.len c.args.level c.args.unordered.now _ _ _ c.reverse_if-pair.result true
    c.reverse_if-pair.ensures
    (sym (c.contains.ensures ∙ ap (λ set. has set c.reverse_if-pair.result.0) c.set_of.ensures) ∙ c.if-contains.true)
    (c.reverse_last.ensures, refl, refl)

-- The pair closes no cycle, and is chosen.
pub returns : goal.returns
returns c =
    let reversals = reversal_reset-at_index c.args.reversals.now _ (c.args.level + 1) (elim c.if-level-unordered.branch [
      | then-level-unordered w ↦ inl (omega (arith, w.if-level-unordered.true, c.requires.reversals), w.reversals-is)
      | else-level-unordered w ↦ inr (omega (arith, w.if-level-unordered.false, c.requires.reversals), w.reversals-is)
    ]) in
    TriesOrientation-of_case c.args.len c.args.level c.args.unordered.now _ _ _ c.reverse_if-pair.result false
    c.reverse_if-pair.ensures
    (sym (c.contains.ensures ∙ ap (λ set. has set c.reverse_if-pair.result.0) c.set_of.ensures) ∙ c.if-contains.false) (
      record {
        chosen = refl;
        saved = c.reach_next.ensures.others;
        reached = c.reach_next.ensures.more;
        as_long = reversals.0;
        before = reversals.1;
        next_unreversed = reversals.2;
      },
      refl,
    )
