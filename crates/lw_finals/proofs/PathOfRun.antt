-- The paths that the threads of a program take in a run to a final state, in either language, and the items that the run executes. The only
-- premise about the language is that each event executes an item.
use Rattle.lw_finals.proofs.Common.{◌≡◌, ◌≢◌, ℕ, suc, ◌<◌, ◌≤◌, ◌==◌, if◌then◌else◌, ◌⊎◌, inl, inr, ⊎_elim}
use Rattle.lw_finals.proofs.Common.{List, [], ◌∷◌, map, length, Option, Some, Bool, true, false, Result, Ok}
use Rattle.lw_finals.proofs.Common.{refl, sym, ap, ◌∙◌, subst, arith, slice_get, All, Contains, IsTrue}
use Rattle.lw_finals.proofs.Common.{option_map, true≢false, eq-eqb, ne_eqb, option_map_or, cases_eq}
use Rattle.lw_finals.proofs.Common.{cases_Bool, cond-true, cond-false, same_Some, slice_get-map, All-nil}
use Rattle.lw_finals.proofs.Common.{All-cons, All-weaker, RunsTo, thread_code, Event, Stop}
use Rattle.lw_finals.proofs.Common.{slice_get-in_range, slice_get-map_inv, Language, IsFlowSuccessor}
use Rattle.lw_finals.proofs.Common.{IsFlowPathFrom, JumpsForward, Item, drained_location}
use Rattle.lw_finals.proofs.Common.{statement_needs_empty_buffer, IsFlowSuccessor-in_range, Contains-head}
use Rattle.lw_finals.proofs.Common.{Contains-tail, AreOrdered, IsMember, Pairwise, IsStoring, item}
use Rattle.lw_finals.proofs.Common.{thread_rank, item_slot-increasing, item_slot-store_before_drain}
use Rattle.lw_finals.proofs.Common.{IsAscendingFrom, IsAscendingFrom-lower_bound, IsAscendingFrom-flow_path}
use Rattle.lw_finals.proofs.Common.{ItemTransitionSystem, ItemsRunTo}
use Rattle.lw_finals.proofs.api.Waiting.{DrainsOldest, IsAscendingBetween, IsAscendingBetween-member}
use Rattle.lw_finals.proofs.api.Waiting.{entry_location, waits_after, waits_after-cases}
use Rattle.lw_finals.proofs.api.Waiting.{waits_after-still_waits, waits_after-contains_store}

-- The positions in the initial state.
module _ {X Y : Type 0} (starting : X → Y) (position : Y → ℕ) (at_first : (x : X) → position (starting x) ≡ 0) (xs : List X) where
  -- Each thread starts at its first position.
  pub position-at_start : (t : ℕ) → t < length xs → slice_get (map position (map starting xs)) t ≡ Some 0
  position-at_start t in_range =
      let x = slice_get-in_range xs t in_range in
      slice_get-map position (map starting xs) t
      ∙ (ap (option_map position) (slice_get-map starting xs t ∙ ap (option_map starting) x.1) ∙ ap Some (at_first x.0))

  -- If a thread of the initial state is at position p, then p is 0.
  pub position-at_start_unique : (t p : ℕ) → slice_get (map position (map starting xs)) t ≡ Some p → p ≡ 0
  position-at_start_unique t p found_at =
      let y = slice_get-map_inv position (map starting xs) t p found_at in
      let x = slice_get-map_inv starting xs t y.0 y.1 in
      y.2 ∙ (ap position x.2 ∙ at_first x.0)

module _ {S : Type 0} (language : Language S) (program : List (List S)) where
  -- Item a may precede item b: no preserved pair orders them the other way.
  abbrev pub MayPrecede : Item → Item → Type 0
  MayPrecede a b = a.thread ≡ b.thread → thread_rank b ≤ thread_rank a → AreOrdered language program b a → ⊥

  -- The item is at a statement on its thread's path in `paths`, or is the drain of one of the waiting stores; a drain's statement stores.
  pub record IsAhead (paths pending : ℕ → List ℕ) (a : Item) : Type 0 where
    pub statement : S
    pub at : slice_get (thread_code program a.thread) a.position ≡ Some statement
    pub on : IsMember a.position (paths a.thread) ⊎ ((a.is_drain ≡ true) × IsMember a.position (pending a.thread))
    pub store : a.is_drain ≡ true → IsStoring language statement

  module _ {State : Type 0} (system : ItemTransitionSystem State) (position_of : State → ℕ → Option ℕ) where
    -- Flow paths from the threads' positions in s to their ends, and items that lead from s to `end`, each pair in an order that the
    -- preserved pairs permit: exactly the statements on these paths, the drains of their stores, and the drains of the stores that wait in s.
    pub record Completed (pending : ℕ → List ℕ) (s end : State) : Type 0 where
      pub paths : ℕ → List ℕ
      pub done : List Item
      pub flows : (t p : ℕ) → position_of s t ≡ Some p → IsFlowPathFrom language (thread_code program t) p (paths t)
      pub ran : ItemsRunTo system done s end
      pub ahead : All (IsAhead paths pending) done
      pub statements : (t j : ℕ) → IsMember j (paths t) → Contains done (item t j false)
      pub drained : (t p j : ℕ) (h : S)
          → position_of s t ≡ Some p
          → IsMember j (paths t) ⊎ IsMember j (pending t)
          → slice_get (thread_code program t) j ≡ Some h
          → IsStoring language h
          → Contains done (item t j true)
      pub right : Pairwise MayPrecede done

    -- Each thread's position is within its code.
    abbrev pub IsWithin : State → Type 0
    IsWithin s = (t p : ℕ) → position_of s t ≡ Some p → p ≤ length (thread_code program t)

    -- If each thread is at or past the end of its code, and no store waits, nothing remains to be executed.
    pub Completed-at_end : (pending : ℕ → List ℕ) (s : State)
        → IsWithin s
        → ((t p : ℕ) → position_of s t ≡ Some p → (length (thread_code program t) ≤ p) × ((j : ℕ) → IsMember j (pending t) → ⊥))
        → Completed pending s s
    Completed-at_end pending s within past = record {
      paths = λ t. [];
      done = [];
      flows = λ t p e. omega (arith, within t p e, (past t p e).0);
      ran = refl;
      ahead = All-nil (IsAhead (λ t. []) pending);
      statements = λ t j h. absurd h;
      drained = λ t p j h e on at store. ⊎_elim (λ h. absurd h) (λ h. absurd ((past t p e).1 j h)) on;
      right = tt;
    }

    -- The effect of executing an item while these stores wait: a statement goes to one of its flow successors, and if it waits for drains
    -- no store of its thread waits; a drain is that of the store that has waited longest.
    pub record ItemEffect (pending : ℕ → List ℕ) (s mid : State) : Type 0 where
      pub item : Item
      pub statement : S
      pub at : slice_get (thread_code program item.thread) item.position ≡ Some statement
      pub carried : system.Carried item s mid
      -- The position of its thread before and after.
      pub old : ℕ
      pub new : ℕ
      pub was : position_of s item.thread ≡ Some old
      pub now : position_of mid item.thread ≡ Some new
      pub others : (u : ℕ) → item.thread ≢ u → position_of mid u ≡ position_of s u
      pub climbs : IsAscendingBetween 0 (pending item.thread) old
      -- The effect of a statement.
      pub follows : item.is_drain ≡ false → (old ≡ item.position) × IsFlowSuccessor language (Some statement) item.position new
      pub waited : item.is_drain ≡ false
          → statement_needs_empty_buffer language statement ≡ true
          → (k : ℕ)
          → IsMember k (pending item.thread)
          → ⊥
      -- The effect of a drain.
      pub stays : item.is_drain ≡ true → new ≡ old
      pub oldest : DrainsOldest item.is_drain item.position (pending item.thread)
      pub store : item.is_drain ≡ true → IsStoring language statement

    -- The path of an item's thread from the item on: the position j of a statement (`false`) comes before the rest of the path,
    -- and a drain (`true`) has none.
    abbrev own_path : Bool → ℕ → List ℕ → List ℕ
    own_path true j path = path
    own_path false j path = j ∷ path

    -- If a position is on the rest of the path, it is on the path from the item on, which is a drain if b is `true`.
    IsMember-own_path : (b : Bool) (j k : ℕ) (path : List ℕ) → IsMember k path → IsMember k (own_path b j path)
    IsMember-own_path true j k path is_member = is_member
    IsMember-own_path false j k path is_member = inr is_member

    -- If the item is a statement (b is `false`), its position is on the path from the item on.
    IsMember-own_position : (b : Bool) (j : ℕ) (path : List ℕ) → b ≡ false → IsMember j (own_path b j path)
    IsMember-own_position true j path f = absurd (true≢false f)
    IsMember-own_position false j path f = inl refl

    -- If a position is on the path from the item on, it is that of the item, which is a statement (b is `false`), or is on the
    -- rest of the path.
    own_path-cases : (b : Bool) (j k : ℕ) (path : List ℕ)
        → IsMember k (own_path b j path)
        → ((b ≡ false) × (j ≡ k)) ⊎ IsMember k path
    own_path-cases true j k path is_member = inr is_member
    own_path-cases false j k path (inl e) = inl (refl, e)
    own_path-cases false j k path (inr h) = inr h

    module _ (forward : (t : ℕ) → JumpsForward language (thread_code program t)) (pending : ℕ → List ℕ) (s mid : State)
        (effect : ItemEffect pending s mid) where
      -- The item that is executed.
      abbrev executed : Item
      executed = effect.item

      -- The item's thread.
      abbrev item_thread : ℕ
      item_thread = effect.item.thread

      -- The item's position.
      abbrev item_position : ℕ
      item_position = effect.item.position

      -- Whether the item is a drain.
      abbrev item_is_drain : Bool
      item_is_drain = effect.item.is_drain

      -- The statement at the item's position.
      abbrev item_statement : S
      item_statement = effect.statement

      -- The stores that wait after the item.
      abbrev after : ℕ → List ℕ
      after = waits_after language program executed pending

      -- If the statement makes an entry, the entry's location is the one that its drain writes.
      stored_at : entry_location language (slice_get (thread_code program item_thread) item_position)
          ≡ drained_location language item_statement
      stored_at = ap (entry_location language) effect.at

      -- The position after a statement is later, and within the code or at its end.
      next_position_in_range : item_is_drain ≡ false
          → (item_position < effect.new) × (effect.new ≤ length (thread_code program item_thread))
      next_position_in_range f =
          IsFlowSuccessor-in_range language (thread_code program item_thread) item_position effect.new (forward item_thread)
          (subst (λ (o : Option S). IsFlowSuccessor language o item_position effect.new) (sym effect.at) (effect.follows f).1)

      -- Each thread's position is still within its code.
      pub IsWithin-next : IsWithin s → IsWithin mid
      IsWithin-next within u q e = elim (cases_eq item_thread u) [
        | inl same_thread ↦
            subst (λ (v : ℕ). q ≤ length (thread_code program v)) same_thread
            (subst (λ (k : ℕ). k ≤ length (thread_code program item_thread))
            (same_Some effect.new q (sym effect.now ∙ subst (λ (v : ℕ). position_of mid v ≡ Some q) (sym same_thread) e))
            (elim (cases_Bool item_is_drain) [
              | inl f ↦ omega (arith, within item_thread effect.old effect.was, effect.stays f)
              | inr f ↦ (next_position_in_range f).1
            ]))
        | inr threads_differ ↦ within u q (sym (effect.others u threads_differ) ∙ e)
      ]

      -- After the item its thread is past the item's position.
      beyond : item_position < effect.new
      beyond = elim (cases_Bool item_is_drain) [
        | inl f ↦
            (let r = effect.oldest f in
            let c =
            IsAscendingBetween-member 0 effect.old item_position (item_position ∷ r.0)
            (subst (λ (ws : List ℕ). IsAscendingBetween 0 ws effect.old) r.1 effect.climbs) (inl refl) in
            omega (arith, c.1, effect.stays f))
        | inr f ↦ (next_position_in_range f).0
      ]

      -- An item still to be executed may follow this one: otherwise it would be of the same thread, at an index that is no later, and
      -- ordered before it.
      MayPrecede-before_ahead : (paths : ℕ → List ℕ) (x : Item)
          → IsAscendingFrom effect.new (paths item_thread)
          → IsAhead paths after x
          → MayPrecede executed x
      MayPrecede-before_ahead paths x up ahead same le ordered = elim ahead.on [
        | inl on ↦ not-on_path (subst (λ (u : ℕ). IsMember x.position (paths u)) (sym same) on)
        | inr (d, on) ↦
            elim (waits_after-cases language program pending executed effect.old effect.climbs effect.oldest x.thread _ on) [
              | inl (w, ne) ↦ not-waiting d (ne same) (subst (λ (u : ℕ). IsMember x.position (pending u)) (sym same) w)
              | inr (same, f, store, e) ↦
                  absurd (omega (arith, item_slot-store_before_drain item_is_drain x.is_drain item_position x.position f d e, le))
            ]
      ]
        where
          -- A later position has a greater rank.
          not-later : item_position < x.position → ⊥
          not-later less = absurd (omega (arith, item_slot-increasing item_is_drain x.is_drain item_position x.position less, le))

          -- The item x is not on the remaining path, since the positions there are later.
          not-on_path : IsMember x.position (paths item_thread) → ⊥
          not-on_path is_member =
              not-later (omega (
                arith,
                beyond,
                IsAscendingFrom-lower_bound effect.new x.position (paths item_thread) up is_member,
              ))

          -- The item x is not the drain of a store that waits after the oldest, since the position of such a store is later.
          not-newer : (rest : List ℕ)
              → IsAscendingBetween 0 (item_position ∷ rest) effect.old
              → x.position ≢ item_position
              → IsMember x.position (item_position ∷ rest)
              → ⊥
          not-newer rest climbs ne (inl e) = ne (sym e)
          not-newer rest climbs ne (inr h) =
              not-later (IsAscendingBetween-member (suc item_position) effect.old x.position rest climbs.1 h).0

          -- A statement that is ordered after a drain waits for it.
          waits_at : item_is_drain ≡ false
              → ((item_is_drain ≡ true)
              ⊎ (option_map_or (statement_needs_empty_buffer language) (slice_get (thread_code program item_thread) item_position)
              false
              ≡ true))
              → statement_needs_empty_buffer language item_statement ≡ true
          waits_at f (inl e) = absurd (true≢false (sym e ∙ f))
          waits_at f (inr e) = sym (ap (λ o. option_map_or (statement_needs_empty_buffer language) o false) effect.at) ∙ e

          -- The item x is not the drain of a store that waits: it is not that of the oldest, or no store may wait.
          not-waiting : x.is_drain ≡ true
              → (item_is_drain ≡ true → x.position ≢ item_position)
              → IsMember x.position (pending item_thread)
              → ⊥
          not-waiting d ne is_member = elim (cases_Bool item_is_drain) [
            | inl f ↦
                (let (rest, head) = effect.oldest f in
                not-newer rest (subst (λ (ws : List ℕ). IsAscendingBetween 0 ws effect.old) head effect.climbs) (ne f)
                (subst (IsMember x.position) head is_member))
            | inr f ↦ effect.waited f (waits_at f (ordered d)) x.position is_member
          ]

      -- If what remains after the item is completed up to `end`, so is what remains before it, with the item first.
      pub Completed-after_item : (end : State) → Completed after mid end → Completed pending s end
      Completed-after_item end r = record {
        paths = before;
        done = executed ∷ r.done;
        flows = λ u q e. elim (cases_eq item_thread u) [
          | inl same_thread ↦
              subst (λ (v : ℕ). IsFlowPathFrom language (thread_code program v) q (before v)) same_thread
              (IsFlowPathFrom-before q (subst (λ (v : ℕ). position_of s v ≡ Some q) (sym same_thread) e))
          | inr threads_differ ↦
              subst (IsFlowPathFrom language (thread_code program u) q) (sym (before-other_thread u threads_differ))
              (r.flows u q (effect.others u threads_differ ∙ e))
        ];
        ran = (mid, effect.carried, r.ran);
        ahead =
            All-cons (IsAhead before pending) executed r.done
            (record { statement = item_statement; at = effect.at; on = on_here; store = effect.store })
            (All-weaker (IsAhead r.paths after) (IsAhead before pending) IsAhead-before_item r.done r.ahead);
        statements = λ u k h. elim (before-cases u k h) [
          | inl (same, f, e) ↦ Contains-head executed (item u k false) r.done (same_item u k false same e f)
          | inr g ↦ Contains-tail executed (item u k false) r.done (r.statements u k g)
        ];
        drained = λ u p k h e on at store.
            let there = position-exists_after u p e in
            ⊎_elim (λ g. Contains-drain_on_path u there.0 k h there.1 at store g)
            (λ g. Contains-drain_waiting u there.0 k h there.1 at store g) on;
        right = (
          All-weaker (IsAhead r.paths after) (MayPrecede executed) (λ x h. MayPrecede-before_ahead r.paths x rest_is_ascending h)
              r.done r.ahead,
          r.right,
        );
      }
        where
          -- The paths from here on: a statement precedes the rest of its thread's path.
          before : ℕ → List ℕ
          before u = if item_thread == u then own_path item_is_drain item_position (r.paths u) else r.paths u

          -- The path of the item's thread from here on is its path from the item on.
          before-same_thread : (u : ℕ) → item_thread ≡ u → before u ≡ own_path item_is_drain item_position (r.paths u)
          before-same_thread u e =
              cond-true (item_thread == u) (own_path item_is_drain item_position (r.paths u)) (r.paths u) (eq-eqb item_thread u e)

          -- The path of any other thread from here on is the rest of its path.
          before-other_thread : (u : ℕ) → item_thread ≢ u → before u ≡ r.paths u
          before-other_thread u ne =
              cond-false (item_thread == u) (own_path item_is_drain item_position (r.paths u)) (r.paths u)
              (ne_eqb item_thread u ne)

          -- The paths from here on contain the rest of each path.
          before-contains_rest : (u k : ℕ) → IsMember k (r.paths u) → IsMember k (before u)
          before-contains_rest u k is_member = elim (cases_eq item_thread u) [
            | inl same_thread ↦
                subst (IsMember k) (sym (before-same_thread u same_thread))
                (IsMember-own_path item_is_drain item_position k (r.paths u) is_member)
            | inr threads_differ ↦ subst (IsMember k) (sym (before-other_thread u threads_differ)) is_member
          ]

          -- If the item is a statement, its position is on its thread's path from here on.
          before-contains_statement : (u : ℕ) → item_thread ≡ u → item_is_drain ≡ false → IsMember item_position (before u)
          before-contains_statement u same f =
              subst (IsMember item_position) (sym (before-same_thread u same))
              (IsMember-own_position item_is_drain item_position (r.paths u) f)

          -- If a position is on a path from here on, it is that of the item, which is a statement, or is on the rest of the
          -- path.
          before-cases : (u k : ℕ)
              → IsMember k (before u)
              → ((item_thread ≡ u) × (item_is_drain ≡ false) × (item_position ≡ k)) ⊎ IsMember k (r.paths u)
          before-cases u k is_member = elim (cases_eq item_thread u) [
            | inl same_thread ↦
                ⊎_elim (λ (f, e). inl (same_thread, f, e)) (λ g. inr g)
                (own_path-cases item_is_drain item_position k (r.paths u)
                (subst (IsMember k) (before-same_thread u same_thread) is_member))
            | inr threads_differ ↦ inr (subst (IsMember k) (before-other_thread u threads_differ) is_member)
          ]

          -- The rest of the path of the item's thread is ascending from the thread's position after the item.
          rest_is_ascending : IsAscendingFrom effect.new (r.paths item_thread)
          rest_is_ascending =
              IsAscendingFrom-flow_path language (thread_code program item_thread) effect.new (r.paths item_thread)
              (forward item_thread) (r.flows item_thread effect.new effect.now)

          -- By whether the item is a drain (c): its thread follows its path from the item on.
          IsFlowPathFrom-own : (c : Bool)
              → item_is_drain ≡ c
              → IsFlowPathFrom language (thread_code program item_thread) effect.old
              (own_path c item_position (r.paths item_thread))
          IsFlowPathFrom-own true f =
              subst (λ (k : ℕ). IsFlowPathFrom language (thread_code program item_thread) k (r.paths item_thread))
              (effect.stays f) (r.flows item_thread effect.new effect.now)
          IsFlowPathFrom-own false f =
              let g = effect.follows f in
              subst (λ (k : ℕ). IsFlowPathFrom language (thread_code program item_thread) k (item_position ∷ r.paths item_thread))
              (sym g.0) (
                refl,
                effect.new,
                subst (λ (o : Option S). IsFlowSuccessor language o item_position effect.new) (sym effect.at) g.1,
                r.flows item_thread effect.new effect.now,
              )

          -- From each position that the item's thread can have, its path from here on is a flow path.
          IsFlowPathFrom-before : (q : ℕ)
              → position_of s item_thread ≡ Some q
              → IsFlowPathFrom language (thread_code program item_thread) q (before item_thread)
          IsFlowPathFrom-before q e =
              subst (λ (k : ℕ). IsFlowPathFrom language (thread_code program item_thread) k (before item_thread))
              (same_Some effect.old q (sym effect.was ∙ e))
              (subst (IsFlowPathFrom language (thread_code program item_thread) effect.old)
              (sym (before-same_thread item_thread refl)) (IsFlowPathFrom-own item_is_drain refl))

          -- Each thread has a position after the item too.
          position-exists_after : (u p : ℕ) → position_of s u ≡ Some p → (q : ℕ) × (position_of mid u ≡ Some q)
          position-exists_after u p e = elim (cases_eq item_thread u) [
            | inl same_thread ↦ (effect.new, subst (λ (v : ℕ). position_of mid v ≡ Some effect.new) same_thread effect.now)
            | inr threads_differ ↦ (p, effect.others u threads_differ ∙ e)
          ]

          -- The item is on its thread's path from here on, or is the drain of a waiting store.
          on_here : IsMember item_position (before item_thread)
              ⊎ ((item_is_drain ≡ true) × IsMember item_position (pending item_thread))
          on_here = elim (cases_Bool item_is_drain) [
            | inl f ↦ inr (f, subst (IsMember item_position) (sym (effect.oldest f).1) (inl refl))
            | inr f ↦ inl (before-contains_statement item_thread refl f)
          ]

          -- What remains to be executed after the item remained before it, too.
          IsAhead-before_item : (x : Item) → IsAhead r.paths after x → IsAhead before pending x
          IsAhead-before_item x h = record {
            statement = h.statement;
            at = h.at;
            on = elim h.on [
              | inl g ↦ inl (before-contains_rest x.thread x.position g)
              | inr (d, g) ↦
                  elim (waits_after-cases language program pending executed effect.old effect.climbs effect.oldest x.thread
                  x.position g) [
                    | inl (w, ne) ↦ inr (d, w)
                    | inr (same, f, store, e) ↦
                        inl (subst (λ (k : ℕ). IsMember k (before x.thread)) e (before-contains_statement x.thread same f))
                  ]
            ];
            store = h.store;
          }

          -- If u, k and d are the thread, the position and the kind of the executed item, it is the item with these.
          same_item : (u k : ℕ) (d : Bool) → item_thread ≡ u → item_position ≡ k → item_is_drain ≡ d → executed ≡ item u k d
          same_item u k d tu jk bd =
              ap (λ t. item t item_position item_is_drain) tu ∙ (ap (λ j. item u j item_is_drain) jk ∙ ap (λ b. item u k b) bd)

          -- If a store is on a path from here on, its drain is executed: if the store is the item itself, it waits from then
          -- on.
          Contains-drain_on_path : (u p k : ℕ) (h : S)
              → position_of mid u ≡ Some p
              → slice_get (thread_code program u) k ≡ Some h
              → IsStoring language h
              → IsMember k (before u)
              → Contains (executed ∷ r.done) (item u k true)
          Contains-drain_on_path u p k h there found_at store is_member = elim (before-cases u k is_member) [
            | inl (same, f, e) ↦
                (let is : h ≡ item_statement =
                same_Some h item_statement
                (sym found_at
                ∙ (ap (λ v. slice_get (thread_code program v) k) (sym same)
                ∙ (ap (slice_get (thread_code program item_thread)) (sym e) ∙ effect.at))) in
                let is_member : IsMember k (after u) =
                subst (λ (n : ℕ). IsMember n (after u)) e
                (waits_after-contains_store language program pending executed effect.old effect.climbs effect.oldest u store.0
                same f (stored_at ∙ (ap (drained_location language) (sym is) ∙ store.1))) in
                Contains-tail executed (item u k true) r.done (r.drained u p k h there (inr is_member) found_at store))
            | inr g ↦ Contains-tail executed (item u k true) r.done (r.drained u p k h there (inl g) found_at store)
          ]

          -- If a store waits, its drain is executed: the item is this drain, or the store keeps waiting.
          Contains-drain_waiting : (u p k : ℕ) (h : S)
              → position_of mid u ≡ Some p
              → slice_get (thread_code program u) k ≡ Some h
              → IsStoring language h
              → IsMember k (pending u)
              → Contains (executed ∷ r.done) (item u k true)
          Contains-drain_waiting u p k h there found_at store is_member = elim (cases_eq item_thread u) [
            | inl same_thread ↦ elim (cases_eq item_position k) [
              | inl e ↦ elim (cases_Bool item_is_drain) [
                | inl f ↦ Contains-head executed (item u k true) r.done (same_item u k true same_thread e f)
                | inr f ↦ Contains-later_drain (λ same g. absurd (true≢false (sym g ∙ f)))
              ]
              | inr ne ↦ Contains-later_drain (λ same f e. ne (sym e))
            ]
            | inr threads_differ ↦ Contains-later_drain (λ same. absurd (threads_differ same))
          ]
            where
              -- A drain other than the item itself is executed later.
              Contains-later_drain : (item_thread ≡ u → item_is_drain ≡ true → k ≢ item_position)
                  → Contains (executed ∷ r.done) (item u k true)
              Contains-later_drain ne =
                  Contains-tail executed (item u k true) r.done
                  (r.drained u p k h there
                  (inr (waits_after-still_waits language program pending executed effect.old effect.climbs effect.oldest u k
                  is_member ne)) found_at store)

    -- An event of a run executes an item, and preserves that the waiting stores are known.
    pub record ExecutesItem (Sound : (ℕ → List ℕ) → State → Type 0) (pending : ℕ → List ℕ) (s mid : State) : Type 0 where
      pub moves : ItemEffect pending s mid
      pub sound : Sound (waits_after language program moves.item pending) mid

    -- In the initial state no store waits, and each thread is at position 0. Each event executes an item. In a final state each thread is past
    -- its code, and no store waits.
    pub record AreItemRuns (Done : Event → State → Result (Unit {0}) Stop → State → Type 0)
        (Sound : (ℕ → List ℕ) → State → Type 0) : Type 0 where
      pub first : Sound (λ t. []) system.start
      pub starts : (t : ℕ) → t < length program → position_of system.start t ≡ Some 0
      pub at_start : (t p : ℕ) → position_of system.start t ≡ Some p → p ≡ 0
      pub executes_item : (e : Event) (pending : ℕ → List ℕ) (s mid : State)
          → Sound pending s
          → Done e s (Ok tt) mid
          → ExecutesItem Sound pending s mid
      pub ended : (pending : ℕ → List ℕ) (s : State)
          → Sound pending s
          → IsTrue (system.is_final s)
          → (t p : ℕ)
          → position_of s t ≡ Some p
          → (length (thread_code program t) ≤ p) × ((j : ℕ) → IsMember j (pending t) → ⊥)

    module _ (Done : Event → State → Result (Unit {0}) Stop → State → Type 0) (Sound : (ℕ → List ℕ) → State → Type 0)
        (runs : AreItemRuns Done Sound) (forward : (t : ℕ) → JumpsForward language (thread_code program t)) where
      -- If events execute items, and lead from s to a final state, the run has its paths and its items.
      pub Completed-of_run : (es : List Event) (pending : ℕ → List ℕ) (s end : State)
          → IsWithin s
          → Sound pending s
          → RunsTo Done es s end
          → IsTrue (system.is_final end)
          → Completed pending s end
      Completed-of_run [] pending s end within sound ran final =
          subst (Completed pending s) (sym ran)
          (Completed-at_end pending s within
          (runs.ended pending s sound (subst (λ (z : State). IsTrue (system.is_final z)) ran final)))
      Completed-of_run (e ∷ es) pending s end within sound (mid, done, ran) final =
          let o : ExecutesItem Sound pending s mid = runs.executes_item e pending s mid sound done in
          Completed-after_item forward pending s mid o.moves end
          (Completed-of_run es (waits_after language program o.moves.item pending) mid end
          (IsWithin-next forward pending s mid o.moves within) o.sound ran final)
