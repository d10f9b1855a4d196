-- Counting the states in which the proposition is true, and those in which it is false. Lemmas for the loop
-- of `counts_of`.
use Rattle.lw_report.proofs.Common.{◌≡◌, ℕ, suc, ◌+◌, ◌-◌, ◌<◌, ◌≤◌, Bool, true, false, List, [], ◌∷◌, length}
use Rattle.lw_report.proofs.Common.{map, take, get_or, refl, sym, ap, ◌∙◌, cond, arith, filter, take_all}
use Rattle.lw_report.proofs.Common.{from_bool, length-map, length-filter_both, length-filter_more, positive}
use Rattle.lw_report.proofs.Common.{negative, ProjectedState, ListedState, projection_of}

-- If n counts a truth value, it is at most one.
pub from_bool-le_one : (b : Bool) (n : ℕ) → n ≡ from_bool b → n ≤ 1
from_bool-le_one true n e = omega (arith, e)
from_bool-le_one false n e = omega (arith, e)

-- A truth value counts as one if it is true, and as zero otherwise.
from_bool-cond : (b : Bool) → from_bool b ≡ cond b 1 0
from_bool-cond true = refl
from_bool-cond false = refl

-- If `count` is the number of the first k states in which the proposition is true, and n counts that of the state at k, then
-- `count` + n is that of the first k + 1.
pub count_true-suc : {s : ListedState} {b : Bool} {count n : ℕ} (states : List ListedState) (k : ℕ)
    → k < length states
    → s ≡ get_or states k s
    → b ≡ s.holds
    → count ≡ length (filter (λ (t : ListedState). t.holds) (take k states))
    → n ≡ from_bool b
    → count + n ≡ length (filter (λ (t : ListedState). t.holds) (take (k + 1) states))
count_true-suc {s} {n} states k lt is is_b before added =
    let one = added ∙ ap from_bool (is_b ∙ ap (λ t. t.holds) is) ∙ from_bool-cond (get_or states k s).holds in
    ap (λ (m : ℕ). m + n) before
    ∙ ap (λ (m : ℕ). length (filter (λ (t : ListedState). t.holds) (take k states)) + m) one
    ∙ sym (length-filter_more (λ (t : ListedState). t.holds) states k s lt)

-- The proposition is true in as many listed states as in the same states without their indices.
count_true-positive : (states : List ListedState)
    → length (filter (λ (s : ListedState). s.holds) states) ≡ positive (map projection_of states)
count_true-positive [] = refl
count_true-positive (s ∷ states) =
    elim s.holds as (λ b.
    length (cond b (s ∷ filter (λ t. t.holds) states) (filter (λ t. t.holds) states))
    ≡ length (cond b (projection_of s ∷ filter (λ t. t.holds) (map projection_of states))
    (filter (λ t. t.holds) (map projection_of states)))) [
      | true ↦ ap (λ (n : ℕ). suc n) (count_true-positive states)
      | false ↦ count_true-positive states
    ]

-- When all states are counted, the count is the number of those in which the proposition is true.
pub count_all-positive : (states : List ListedState) (k count : ℕ)
    → length states ≤ k
    → count ≡ length (filter (λ (t : ListedState). t.holds) (take k states))
    → count ≡ positive (map projection_of states)
count_all-positive states k count le is =
    is ∙ ap (λ l. length (filter (λ (t : ListedState). t.holds) l)) (take_all k states le) ∙ count_true-positive states

-- If `count` is the number of states in which the proposition is true, the number of the others is that of those in which it is
-- false.
pub count_false-negative : (states : List ListedState) (count : ℕ)
    → count ≡ positive (map projection_of states)
    → length states - count ≡ negative (map projection_of states)
count_false-negative states count is =
    let both = length-filter_both (λ (s : ProjectedState). s.holds) _ (λ s. refl) (map projection_of states) in
    omega (arith, is, both, length-map states projection_of)
