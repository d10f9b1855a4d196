-- What has been executed, and which stores wait, after a prefix of an order of an x86 test's items that respects the preserved pairs.
-- X86TraceEquivalence and the axioms' proofs follow runs of such an order by this.
use Rattle.lw_finals.proofs.Common.{◌≡◌, ℕ, suc, ◌<◌, ◌≤◌, Bool, true, false, true≢false, List, [], ◌∷◌}
use Rattle.lw_finals.proofs.Common.{length, Some, refl, sym, ap, ap₂, ◌∙◌, subst, inl, inr, arith, slice_get}
use Rattle.lw_finals.proofs.Common.{cases_lt, thread_code, index_in, Before, IsLinearExtension}
use Rattle.lw_finals.proofs.Common.{index_in-injective, Instr, x86_language, JumpsForward, IsPathAssignment}
use Rattle.lw_finals.proofs.Common.{Item, item_at, items_of, statement_of, constraints_of, AreOrdered}
use Rattle.lw_finals.proofs.Common.{HasOrdered-if_respected, IsMember, HasItem, item, thread_rank}
use Rattle.lw_finals.proofs.Common.{item_slot-increasing, item_slot-store_before_drain}
use Rattle.lw_finals.proofs.Common.{IsItemOnPath-of_member, index_lt-if_rank_lt, item_index-unique}
use Rattle.lw_finals.proofs.Common.{HasItem-same_position}
use Rattle.lw_finals.proofs.api.Waiting.{DrainsOldest, IsAscendingBetween, IsAscendingBetween-member}
use Rattle.lw_finals.proofs.api.Waiting.{entry_location, waits_after, waits_after-cases}
use Rattle.lw_finals.proofs.api.Waiting.{waits_after-still_waits, waits_after-contains_store}

module _ (program : List (List Instr)) (forward : (t : ℕ) → JumpsForward x86_language (thread_code program t))
    (paths : List (List ℕ)) (assignment : IsPathAssignment x86_language program paths) where
  -- The items of the path assignment.
  abbrev items : List Item
  items = items_of x86_language program paths

  -- The item at an index.
  abbrev it : ℕ → Item
  it i = item_at items i

  -- Some item is the drain of the store of thread t at position w, and is none of the first k of the order.
  pub record IsDrainedLater (order : List ℕ) (k t w : ℕ) : Type 0 where
    pub index : ℕ
    pub below : index < length items
    pub thread : (it index).thread ≡ t
    pub position : (it index).position ≡ w
    pub is_drain : (it index).is_drain ≡ true
    pub later : k ≤ index_in order index

  -- These stores wait after the first k items of an order: the drain of each is none of them; and a store among them waits if its drain is
  -- none of them.
  pub record AreWaitingStores (order : List ℕ) (k : ℕ) (pending : ℕ → List ℕ) : Type 0 where
    pub coming : (t w : ℕ) → IsMember w (pending t) → IsDrainedLater order k t w
    pub waits : (s d : ℕ)
        → s < length items
        → d < length items
        → (it s).thread ≡ (it d).thread
        → (it s).position ≡ (it d).position
        → (it s).is_drain ≡ false
        → (it d).is_drain ≡ true
        → index_in order s < k
        → k ≤ index_in order d
        → IsMember (it d).position (pending (it d).thread)

  -- Before the first item no store waits.
  pub AreWaitingStores-start : (order : List ℕ) → AreWaitingStores order 0 (λ t. [])
  AreWaitingStores-start order = record { coming = λ t w h. absurd h; waits = λ s d ls ld c j f g lt ge. absurd (omega arith) }

  module _ (order : List ℕ) (keeps : IsLinearExtension (constraints_of x86_language program items) order) where
    -- The other item of a store: each drain comes after its store, and each store before its drain.
    abbrev Partner : ℕ → Bool → Type 0
    Partner i b = HasItem items (item (it i).thread (it i).position b)

    -- If two items in range are of one thread, the first has the lower rank, and they are ordered, then the order has the first
    -- before the second.
    Before-if_ordered_items : (i j : ℕ)
        → i < length items
        → j < length items
        → (it i).thread ≡ (it j).thread
        → thread_rank (it i) < thread_rank (it j)
        → AreOrdered x86_language program (it i) (it j)
        → Before order i j
    Before-if_ordered_items i j li lj same less ordered =
        HasOrdered-if_respected x86_language program paths order keeps.1 i j
        (index_lt-if_rank_lt x86_language program paths forward assignment i j li same less) lj same ordered

    -- If an item is the drain of a store, the order has the store before it.
    Before-store_and_drain : (s d : ℕ)
        → s < length items
        → d < length items
        → (it s).thread ≡ (it d).thread
        → (it s).position ≡ (it d).position
        → (it s).is_drain ≡ false
        → (it d).is_drain ≡ true
        → Before order s d
    Before-store_and_drain s d ls ld same index_in f g =
        Before-if_ordered_items s d ls ld same
        (item_slot-store_before_drain (it s).is_drain (it d).is_drain (it s).position (it d).position f g index_in)
        (λ e. absurd (true≢false (sym e ∙ f)))

    -- If an item is a drain, its store is an item, and the order has the store before it.
    partner-of_drain : (d : ℕ) → d < length items → (it d).is_drain ≡ true → (s : Partner d false) × Before order s.0 d
    partner-of_drain d in_range f =
        let s =
        HasItem-same_position x86_language program paths forward assignment d false in_range
        (λ e. absurd (true≢false (sym e))) in (
          s,
          Before-store_and_drain s.0 d s.1 in_range (ap (λ (a : Item). a.thread) s.2) (ap (λ (a : Item). a.position) s.2)
              (ap (λ (a : Item). a.is_drain) s.2) f,
        )

    -- If an item is a store that makes an entry, its drain is an item, and the order has it after the store.
    partner-of_store : (s x : ℕ)
        → s < length items
        → (it s).is_drain ≡ false
        → entry_location x86_language (statement_of x86_language program (it s)) ≡ Some x
        → (d : Partner s true) × Before order s d.0
    partner-of_store s x in_range f e =
        let d : Partner s true = HasItem-same_position x86_language program paths forward assignment s true in_range (λ b.
        (x, sym (ap (entry_location x86_language) (IsItemOnPath-of_member x86_language program paths s in_range).at) ∙ e)) in (
          d,
          Before-store_and_drain s d.0 in_range d.1 (ap (λ (a : Item). a.thread) (sym d.2))
              (ap (λ (a : Item). a.position) (sym d.2)) f (ap (λ (a : Item). a.is_drain) d.2),
        )

    -- If the waiting stores after the first k items are known, and the item at index k is a drain, it is that of the store that
    -- has waited longest.
    pub DrainsOldest-at_turn : (k high i : ℕ) (pending : ℕ → List ℕ)
        → AreWaitingStores order k pending
        → IsAscendingBetween 0 (pending (it i).thread) high
        → i < length items
        → index_in order i ≡ k
        → DrainsOldest (it i).is_drain (it i).position (pending (it i).thread)
    DrainsOldest-at_turn k high i pending w climbs in_range at f =
        let (store, before_drain) = partner-of_drain i in_range f in
        own_store_is_first (pending (it i).thread) climbs (λ v h. w.coming (it i).thread v h)
        (w.waits store.0 i store.1 in_range (ap (λ (a : Item). a.thread) store.2) (ap (λ (a : Item). a.position) store.2)
        (ap (λ (a : Item). a.is_drain) store.2) f (omega (arith, before_drain, at)) (omega (arith, at)))
      where
        -- The drained store is the first of those that wait, since each of them is drained before all later ones.
        own_store_is_first : (ws : List ℕ)
            → IsAscendingBetween 0 ws high
            → ((v : ℕ) → IsMember v ws → IsDrainedLater order k (it i).thread v)
            → IsMember (it i).position ws
            → (rest : List ℕ) × (ws ≡ (it i).position ∷ rest)
        own_store_is_first [] climbs coming is_member = absurd is_member
        own_store_is_first (v ∷ ws) climbs coming (inl e) = (ws, ap (λ x. x ∷ ws) e)
        own_store_is_first (v ∷ ws) climbs coming (inr h) =
            let lower = IsAscendingBetween-member (suc v) high (it i).position ws climbs.1 h in
            let c : IsDrainedLater order k (it i).thread v = coming v (inl refl) in
            let before : Before order c.index i =
            Before-if_ordered_items c.index i c.below in_range c.thread
            (item_slot-increasing (it c.index).is_drain (it i).is_drain (it c.index).position (it i).position
            (omega (arith, lower.0, c.position))) (λ d. inl f) in
            absurd (omega (arith, c.later, before, at))

    -- Each item is in the order.
    index_in-order : (i : ℕ) → i < length items → index_in order i < length order
    index_in-order i in_range = omega (arith, keeps.0.1 i in_range, keeps.0.0)

    -- If i is in range, and d has the same index in the order, they are the same.
    index_in_order-injective : (i d : ℕ) → i < length items → index_in order i ≡ index_in order d → i ≡ d
    index_in_order-injective i d in_range e = index_in-injective order i d e (index_in-order i in_range)

    -- If the waiting stores after the first k items are known, and i is the item at index k, those after k + 1 items are those
    -- that wait after i.
    pub AreWaitingStores-next : (k high i : ℕ) (pending : ℕ → List ℕ)
        → AreWaitingStores order k pending
        → IsAscendingBetween 0 (pending (it i).thread) high
        → i < length items
        → index_in order i ≡ k
        → AreWaitingStores order (suc k) (waits_after x86_language program (it i) pending)
    AreWaitingStores-next k high i pending w climbs in_range at = record {
      coming = λ t v h. elim (waits_after-cases x86_language program pending (it i) high climbs drains_oldest t v h) [
        | inl (g, ne) ↦
            (let c : IsDrainedLater order k t v = w.coming t v g in
            IsDrainedLater-next t v c (λ e.
            ne (ap (λ d. (it d).thread) (sym e) ∙ c.thread) (subst (λ d. (it d).is_drain ≡ true) e c.is_drain)
            (sym c.position ∙ ap (λ d. (it d).position) e)))
        | inr (same, f, s, e) ↦
            (let (drain, after_store) = partner-of_store i s.0 in_range f s.1 in
            record {
              index = drain.0;
              below = drain.1;
              thread = ap (λ (a : Item). a.thread) drain.2 ∙ same;
              position = ap (λ (a : Item). a.position) drain.2 ∙ e;
              is_drain = ap (λ (a : Item). a.is_drain) drain.2;
              later = omega (arith, after_store, at);
            })
      ];
      waits = λ s d ls ld c j f g before later. elim (cases_lt (index_in order s) k) [
        | inl l ↦ store_still_waits d ld g later (w.waits s d ls ld c j f g l (omega arith))
        | inr ge ↦
            (let e : i ≡ s = index_in_order-injective i s in_range (omega arith) in
            let r = IsItemOnPath-of_member x86_language program paths d ld in
            let thread : (it i).thread ≡ (it d).thread = ap (λ n. (it n).thread) e ∙ c in
            let position : (it i).position ≡ (it d).position = ap (λ n. (it n).position) e ∙ j in
            let there : entry_location x86_language (statement_of x86_language program (it i)) ≡ Some (r.store g).0 =
            ap₂ (λ t n. entry_location x86_language (slice_get (thread_code program t) n)) thread position
            ∙ (ap (entry_location x86_language) r.at ∙ (r.store g).1) in
            subst (λ v. IsMember v (waits_after x86_language program (it i) pending (it d).thread)) position
            (waits_after-contains_store x86_language program pending (it i) high climbs drains_oldest (it d).thread (r.store g).0
            thread (ap (λ n. (it n).is_drain) e ∙ f) there))
      ];
    }
      where
        -- If item i is a drain, it is that of the store that has waited longest.
        drains_oldest : DrainsOldest (it i).is_drain (it i).position (pending (it i).thread)
        drains_oldest f = DrainsOldest-at_turn k high i pending w climbs in_range at f

        -- A drain other than the item itself comes later.
        IsDrainedLater-next : (t v : ℕ) (c : IsDrainedLater order k t v) → (c.index ≡ i → ⊥) → IsDrainedLater order (suc k) t v
        IsDrainedLater-next t v c ne = record {
          index = c.index;
          below = c.below;
          thread = c.thread;
          position = c.position;
          is_drain = c.is_drain;
          later = elim (cases_lt k (index_in order c.index)) [
            | inl l ↦ omega arith
            | inr g ↦ absurd (ne (sym (index_in_order-injective i c.index in_range (omega (arith, c.later, at)))))
          ];
        }

        -- A store that waits still waits after the item, if its drain comes later.
        store_still_waits : (d : ℕ)
            → d < length items
            → (it d).is_drain ≡ true
            → suc k ≤ index_in order d
            → IsMember (it d).position (pending (it d).thread)
            → IsMember (it d).position (waits_after x86_language program (it i) pending (it d).thread)
        store_still_waits d ld g later is_member =
            waits_after-still_waits x86_language program pending (it i) high climbs drains_oldest (it d).thread (it d).position
            is_member (λ same f e.
            (let n = item_index-unique x86_language _ _ forward assignment d i ld in_range (sym same) e (g ∙ sym f) in
            let p = ap (index_in order) n in
            absurd (omega (arith, p, later, at))))
