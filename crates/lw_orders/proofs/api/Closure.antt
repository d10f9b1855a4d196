-- Two lists of pairs order the same items if each pair of one is a walk along the other; then they leave the same conflicts unordered. So
-- the reduced pairs of lw_paths have the same orders.
use Rattle.lw_orders.proofs.Common.{◌≡◌, ℕ, zero, suc, ◌^◌, Bool, true, false, not, List, length, filter}
use Rattle.lw_orders.proofs.Common.{refl, sym, ap, ◌∙◌, All, get_or, Contains-get_or, All-contains}
use Rattle.lw_orders.proofs.Common.{Constraints, Walk, IsOrderedByPath, is_ordered, unordered_conflicts}
use Rattle.lw_orders.proofs.Common.{orientation_count, AreAscending, filter_agree}
use Rattle.lw_orders.proofs.Walks.{Walk-trans, IsOrderedByPath-if_ordered, is_ordered-if_path}

-- A walk of at least one step leads from i to j.
abbrev pub Leads : List (ℕ × ℕ) → ℕ → ℕ → Type 0
Leads pairs i j = (n : ℕ) × Walk pairs (suc n) i j

-- Each pair of `others` is a walk along `pairs`.
abbrev pub LeadsAlong : List (ℕ × ℕ) → List (ℕ × ℕ) → Type 0
LeadsAlong pairs others = All (λ p. Leads pairs p.0 p.1) others

-- If walks of at least one step lead from i to j and from j to k, one leads from i to k.
pub Leads-trans : (pairs : List (ℕ × ℕ)) (i j k : ℕ) → Leads pairs i j → Leads pairs j k → Leads pairs i k
Leads-trans pairs i j k (n, (h, c, w)) (m, v) = (let (l, u) = Walk-trans pairs n h j w k (suc m) v in (l, (h, c, u)))

-- Each pair of a list is a walk along the list.
pub LeadsAlong-refl : (pairs : List (ℕ × ℕ)) → LeadsAlong pairs pairs
LeadsAlong-refl pairs k d l = (0, ((get_or pairs k d).1, Contains-get_or pairs k d l, refl))

-- If each pair of the others is a walk along `pairs`, each walk along the others has a walk along `pairs` with the same ends.
Walk-along : (pairs others : List (ℕ × ℕ))
    → LeadsAlong pairs others
    → (n i j : ℕ)
    → Walk others n i j
    → (m : ℕ) × Walk pairs m i j
Walk-along pairs others along zero i j e = (0, e)
Walk-along pairs others along (suc n) i j (k, c, w) =
    let (m, v) = All-contains (λ p. Leads pairs p.0 p.1) others (i, k) along c in
    let (l, u) = Walk-along pairs others along n k j w in
    Walk-trans pairs (suc m) i k v j l u

-- If each pair of the others is a walk along `pairs`, then `pairs` orders what the others order.
pub IsOrderedByPath-along : (pairs others : List (ℕ × ℕ))
    → LeadsAlong pairs others
    → (p : ℕ × ℕ)
    → IsOrderedByPath others p
    → IsOrderedByPath pairs p
IsOrderedByPath-along pairs others along p (n, w) = Walk-along pairs others along n p.0 p.1 w

-- Two truth values of which each implies the other are equal.
bool-ext : (a b : Bool) → (a ≡ true → b ≡ true) → (b ≡ true → a ≡ true) → a ≡ b
bool-ext true b forth back = sym (forth refl)
bool-ext false true forth back = back refl
bool-ext false false forth back = refl

-- Two constraints with the same conflicts, and preserved pairs of the same closure, have the same number of orientations.
module _ (t u : Constraints) (t_up : AreAscending t.len t.preserved) (u_up : AreAscending u.len u.preserved)
    (forth : LeadsAlong u.preserved t.preserved) (back : LeadsAlong t.preserved u.preserved) where
  -- If two lists of pairs have the same closure, a pair is ordered by both or by neither.
  is_ordered-same_closure : (p : ℕ × ℕ) → is_ordered t.preserved p ≡ is_ordered u.preserved p
  is_ordered-same_closure p =
      bool-ext (is_ordered t.preserved p) (is_ordered u.preserved p) (λ e.
      is_ordered-if_path u.len u.preserved p u_up
      (IsOrderedByPath-along u.preserved t.preserved forth p (IsOrderedByPath-if_ordered t.preserved p e))) (λ e.
      is_ordered-if_path t.len t.preserved p t_up
      (IsOrderedByPath-along t.preserved u.preserved back p (IsOrderedByPath-if_ordered u.preserved p e)))

  -- If the preserved pairs of t and u have the same closure, and both have the same conflicts, they leave the same conflicts
  -- unordered.
  pub unordered_conflicts-same_closure : t.conflicts ≡ u.conflicts → unordered_conflicts t ≡ unordered_conflicts u
  unordered_conflicts-same_closure same =
      filter_agree (λ p. not (is_ordered t.preserved p)) (λ p. not (is_ordered u.preserved p))
      (λ p. ap not (is_ordered-same_closure p)) t.conflicts
      ∙ ap (filter (λ p. not (is_ordered u.preserved p))) same

  -- If the preserved pairs of t and u have the same closure, and both have the same conflicts, they have the same number of
  -- orientations.
  pub orientation_count-same_closure : t.conflicts ≡ u.conflicts → orientation_count t ≡ orientation_count u
  orientation_count-same_closure same = ap (λ (pairs : List (ℕ × ℕ)). 2 ^ length pairs) (unordered_conflicts-same_closure same)
