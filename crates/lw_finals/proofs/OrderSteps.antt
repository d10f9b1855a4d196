-- One step of the run of an order of items. Lemmas for the loops of both runners, which execute an order's
-- items one by one.
use Rattle.lw_finals.proofs.Common.{◌≡◌, ℕ, suc, ◌+◌, ◌<◌, ◌≤◌, List, ◌∷◌, length, drop, Some, refl, sym, ap}
use Rattle.lw_finals.proofs.Common.{◌∙◌, subst, arith, get_or, drop-cons, IsTrue, drop_all, slice_get-get_or}
use Rattle.lw_finals.proofs.Common.{get_or_from_slice_get, FinalState, Item, item_at, ItemTransitionSystem}
use Rattle.lw_finals.proofs.Common.{OrderRunsTo, FollowsPathsToEnd}

-- If x was read at an index n in range, the item at n is x.
item_at-of_read : (items : List Item) (n : ℕ) (x : Item) → n < length items → x ≡ get_or items n x → item_at items n ≡ x
item_at-of_read items n x in_range e = get_or_from_slice_get items n x _ (slice_get-get_or items n x in_range ∙ ap Some (sym e))

-- The order has the index of the item x at its index k; both indices are in range.
pub record IsItemAt (items : List Item) (order : List ℕ) (k : ℕ) (x : Item) : Type 0 where
  pub index : ℕ
  pub past : ℕ
  pub place_in_range : k < length order
  pub is_number : index ≡ get_or order k past
  pub item_in_range : index < length items
  pub is_item : x ≡ get_or items index x

module _ {State : Type 0} (system : ItemTransitionSystem State) (items : List Item) where
  -- The items of an order, executed in sequence, lead from one state to another.
  abbrev Ran : List ℕ → State → State → Type 0
  Ran = OrderRunsTo system items

  -- The runs of an order continue from the state `now` after its first k items: the order leads from the start to a state exactly if its
  -- items from index k on lead from `now` to it.
  pub record RunsContinueFrom (order : List ℕ) (k : ℕ) (now : State) : Type 0 where
    pub rest_runs : (end : State) → Ran order system.start end → Ran (drop k order) now end
    pub whole_runs : (end : State) → Ran (drop k order) now end → Ran order system.start end

  -- If the order has n at index k, its items from k on begin with the item at index n.
  drop_order-cons_item : (order : List ℕ) (k n d : ℕ)
      → k < length order
      → n ≡ get_or order k d
      → drop k order ≡ n ∷ drop (suc k) order
  drop_order-cons_item order k n d in_range is = drop-cons order k d in_range ∙ ap (λ (i : ℕ). i ∷ drop (suc k) order) (sym is)

  -- If the runs of an order continue from `now`, and its next item x is not enabled there, the order has no run.
  pub not-Ran-if_not_enabled : (order : List ℕ) (k : ℕ) (x : Item) (now : State)
      → IsItemAt items order k x
      → ((next : State) → system.Carried x now next → ⊥)
      → RunsContinueFrom order k now
      → (end : State)
      → Ran order system.start end
      → ⊥
  not-Ran-if_not_enabled order k x now one none r end o =
      let split = drop_order-cons_item order k one.index one.past one.place_in_range one.is_number in
      let m = subst (λ (xs : List ℕ). Ran xs now end) split (r.rest_runs end o) in
      none m.0
      (subst (λ (y : Item). system.Carried y now m.0) (item_at-of_read items one.index x one.item_in_range one.is_item) m.1)

  -- If the runs of an order continue from `now`, and its next item x leads from there to exactly one state `next`, they
  -- continue from `next` after one more item.
  pub RunsContinueFrom-next : (order : List ℕ) (k : ℕ) (x : Item) (now next : State)
      → IsItemAt items order k x
      → system.Carried x now next
      → ((other : State) → system.Carried x now other → other ≡ next)
      → RunsContinueFrom order k now
      → RunsContinueFrom order (k + 1) next
  RunsContinueFrom-next order k x now next one carried alone r =
      let split = drop_order-cons_item order k one.index one.past one.place_in_range one.is_number in
      let more : suc k ≡ k + 1 = omega arith in
      let item = item_at-of_read items one.index x one.item_in_range one.is_item in
      record {
        rest_runs = λ end o.
            let m = subst (λ (xs : List ℕ). Ran xs now end) split (r.rest_runs end o) in
            subst (λ s. Ran (drop (k + 1) order) s end) (alone m.0 (subst (λ (y : Item). system.Carried y now m.0) item m.1))
            (subst (λ (j : ℕ). Ran (drop j order) m.0 end) more m.2);
        whole_runs = λ end o.
            let m : Ran (one.index ∷ drop (suc k) order) now end = (
              next,
              subst (λ (y : Item). system.Carried y now next) (sym item) carried,
              subst (λ (j : ℕ). Ran (drop j order) next end) (sym more) o,
            ) in
            r.whole_runs end (subst (λ (xs : List ℕ). Ran xs now end) (sym split) m);
      }

  -- If the runs of an order continue from `now` after its last item, each of its runs ends at `now`.
  pub Ran-end_unique : (order : List ℕ) (k : ℕ) (now : State)
      → length order ≤ k
      → RunsContinueFrom order k now
      → (end : State)
      → Ran order system.start end
      → end ≡ now
  Ran-end_unique order k now past r end o = subst (λ xs. Ran xs now end) (drop_all k order past) (r.rest_runs end o)

  -- If the runs of an order continue from `now` after its last item, the order leads from the start to `now`.
  pub Ran-if_all_ran : (order : List ℕ) (k : ℕ) (now : State)
      → length order ≤ k
      → RunsContinueFrom order k now
      → Ran order system.start now
  Ran-if_all_ran order k now past r = r.whole_runs now (subst (λ xs. Ran xs now now) (sym (drop_all k order past)) refl)

  -- If the runs of an order continue from `now` after its last item, and the order has the outcome o, then o is that of `now`,
  -- which is final.
  pub outcome_at_end-unique : {order : List ℕ} {k : ℕ} {now : State}
      → length order ≤ k
      → RunsContinueFrom order k now
      → (o : FinalState)
      → FollowsPathsToEnd system items order o
      → (o ≡ system.outcome_of now) × IsTrue (system.is_final now)
  outcome_at_end-unique {order} {k} {now} past r o run =
      let end : run.end ≡ now = Ran-end_unique order k now past r run.end run.ran in
      (run.outcome_is ∙ ap system.outcome_of end, subst (λ (s : State). IsTrue (system.is_final s)) end run.final)

  -- If the runs of an order continue from `now` after its last item, and `now` is final, the order follows its paths and
  -- reaches the outcome of `now`.
  pub FollowsPathsToEnd-if_final : {order : List ℕ} {k : ℕ} {now : State}
      → length order ≤ k
      → RunsContinueFrom order k now
      → IsTrue (system.is_final now)
      → FollowsPathsToEnd system items order (system.outcome_of now)
  FollowsPathsToEnd-if_final {order} {k} {now} past r final =
      record { end = now; ran = Ran-if_all_ran order k now past r; final = final; outcome_is = refl }
