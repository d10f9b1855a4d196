-- An execution that satisfies the axioms has times. A store reaches memory at its rank in global
-- happens-before. All else is done as soon as the loads, the locked instructions and the fences up to it in
-- its thread allow, each of them at its own rank. Equal times are distinguished by thread and position. The
-- first step from the axioms to the machine.
use Rattle.lw_axiomatic.proofs.Common.{◌≡◌, ◌≢◌, ℕ, suc, ◌+◌, ◌*◌, ◌<◌, ◌≤◌, ◌||◌, inl, inr, Bool, true}
use Rattle.lw_axiomatic.proofs.Common.{false, Option, Some, None, refl, sym, ap, ap₂, ◌∙◌, subst, arith}
use Rattle.lw_axiomatic.proofs.Common.{if◌then◌else◌, List, [], ◌∷◌, length, Contains, nat_le, true≢false}
use Rattle.lw_axiomatic.proofs.Common.{nat_lt, ForSome, cases_Bool, cases_lt, cases_eq, cases_order}
use Rattle.lw_axiomatic.proofs.Common.{cond-true, cond-false, or_left, or_right, or_cases, nat_tests}
use Rattle.lw_axiomatic.proofs.Common.{get_or_past, same_Some, slice_get_within, FinalState, thread_code}
use Rattle.lw_axiomatic.proofs.Common.{not-Contains-nil, Contains-head, Contains-tail, Contains-cons, Instr}
use Rattle.lw_axiomatic.proofs.Common.{Operation, is_store, writes, x86_language, X86Test, ThreadState}
use Rattle.lw_axiomatic.proofs.Common.{MemoryEvent, Execution, reads, operation_is, IsEvent, Reads, Writes}
use Rattle.lw_axiomatic.proofs.Common.{Po, Rf, Co, Fr, Ppo, ThreadExecutes, IsReadFrom, IsCandidate}
use Rattle.lw_axiomatic.proofs.Common.{SatisfiesAxioms, IsBefore, IsNewest, HasTimes, leb-true, ◌⊎◌}
use Rattle.lw_axiomatic.proofs.EventLists.{event}
use Rattle.lw_axiomatic.proofs.EventKinds.{is_store-false_if_reads_event, is_store-false_if_fence_event}
use Rattle.lw_axiomatic.proofs.EventKinds.{reads-false_if_store_event, is_fence-false_if_store_event}
use Rattle.lw_axiomatic.proofs.EventKinds.{write_stores_or_reads}
use Rattle.lw_axiomatic.proofs.Levels.{level, level-le, level-lt, level-unique, size, length-size}
use Rattle.lw_litmus.specs.Operations as operations

-- The greatest number `top` of the positions on a path up to a position j.
module _ (top : ℕ → ℕ) where
  -- The greater of two numbers.
  abbrev greater : ℕ → ℕ → ℕ
  greater a b = if nat_lt a b then b else a

  -- The `anchor` of a path up to j is the greatest `top` of the positions on it up to j, and 0 if there are none.
  abbrev pub anchor : List ℕ → ℕ → ℕ
  anchor [] j = 0
  anchor (k ∷ path) j = if nat_le k j then greater (anchor path j) (top k) else anchor path j

  -- The `anchor` of a path up to j is at least the `top` of each position on it up to j.
  pub anchor_above : (path : List ℕ) (j k : ℕ) → Contains path k → k ≤ j → top k ≤ anchor path j
  anchor_above [] j k on_path le = absurd (not-Contains-nil k on_path)
  anchor_above (h ∷ path) j k on_path le = elim (Contains-cons h k path on_path) [
    | inl is_head ↦
        (let here : top h ≤ anchor (h ∷ path) j = grind (arith, nat_tests) in
        subst (λ i. top i ≤ anchor (h ∷ path) j) is_head here)
    | inr in_tail ↦ grind (arith, nat_tests, anchor_above path j k in_tail le)
  ]

  -- If the `top` of each position on a path up to j is at most b, the `anchor` is at most b.
  pub anchor_least : (path : List ℕ) (j b : ℕ) → ((k : ℕ) → Contains path k → k ≤ j → top k ≤ b) → anchor path j ≤ b
  anchor_least [] j b each = omega arith
  anchor_least (h ∷ path) j b each =
      let rest : anchor path j ≤ b = anchor_least path j b (λ k c le. each k (Contains-tail h k path c) le) in
      grind (arith, nat_tests, rest, each h (Contains-head h h path refl))

  -- The `anchor` of a path up to j is the `top` of one of the positions on it up to j, or 0.
  pub anchor_reached : (path : List ℕ) (j : ℕ)
      → ((k : ℕ) × Contains path k × (k ≤ j) × (top k ≡ anchor path j)) ⊎ (anchor path j ≡ 0)
  anchor_reached [] j = inr refl
  anchor_reached (h ∷ path) j = elim (cases_Bool (nat_le h j)) [
    | inr past ↦
        (let same : anchor (h ∷ path) j ≡ anchor path j = cond-false (nat_le h j) _ (anchor path j) past in
        elim (anchor_reached path j) [
          | inl (k, c, le, is) ↦ inl (k, Contains-tail h k path c, le, is ∙ sym same)
          | inr none ↦ inr (same ∙ none)
        ])
    | inl le ↦
        (let here : anchor (h ∷ path) j ≡ greater (anchor path j) (top h) = cond-true (nat_le h j) _ (anchor path j) le in
        elim (cases_Bool (nat_lt (anchor path j) (top h))) [
          | inl more ↦ inl (
            h,
            Contains-head h h path refl,
            leb-true h j le,
            sym (here ∙ cond-true (nat_lt (anchor path j) (top h)) (top h) (anchor path j) more),
          )
          | inr past ↦
              (let same : anchor (h ∷ path) j ≡ anchor path j =
              here ∙ cond-false (nat_lt (anchor path j) (top h)) (top h) (anchor path j) past in
              elim (anchor_reached path j) [
                | inl (k, c, below, is) ↦ inl (k, Contains-tail h k path c, below, is ∙ sym same)
                | inr none ↦ inr (same ∙ none)
              ])
        ])
  ]

-- Each position that a thread passes is one of its code.
position_in_range-ThreadExecutes : (x : Execution) (t : ℕ) (code : List Instr) (path : List ℕ) (s end : ThreadState)
    → ThreadExecutes x86_language x t code path s end
    → (j : ℕ)
    → Contains path j
    → j < length code
position_in_range-ThreadExecutes x t code [] s end executes j on_path = absurd (not-Contains-nil j on_path)
position_in_range-ThreadExecutes x t code (k ∷ path) s end executes j on_path = elim (Contains-cons k j path on_path) [
  | inl is_head ↦
      (let in_range : k < length code = slice_get_within code k executes.statement executes.statement_at in
      omega (arith, in_range, is_head))
  | inr in_tail ↦ position_in_range-ThreadExecutes x t code path _ end executes.rest j in_tail
]

module _ {test : X86Test} {x : Execution} {o : FinalState} (candidate : IsCandidate x86_language test x o)
    (axioms : SatisfiesAxioms test x) where
  -- Tests the kind of an event's operation.
  abbrev has_kind : (Operation → Bool) → MemoryEvent → Bool
  has_kind = operation_is x86_language test

  -- The rank of an event in global happens-before, which the axiom gives.
  abbrev ghb_rank : MemoryEvent → ℕ
  ghb_rank = axioms.happens_before.rank

  -- No position is as high as the number of all instructions.
  abbrev width : ℕ
  width = size test.threads

  -- An event's thread is one of the test's, and its position one of its code.
  record IsWithin (e : MemoryEvent) : Type 0 where
    thread : e.thread < length test.threads
    position : e.position < width

  -- The thread and the position of an event are below the bounds.
  IsWithin-IsEvent : (e : MemoryEvent) → IsEvent x e → IsWithin e
  IsWithin-IsEvent e is_event = elim (cases_lt e.thread (length test.threads)) [
    | inl h ↦ record {
      thread = h;
      position =
          (let goes = candidate.threads e.thread h in
          let in_range : e.position < length (thread_code test.threads e.thread) =
          position_in_range-ThreadExecutes x e.thread (thread_code test.threads e.thread) (thread_code x.paths e.thread) _
          goes.end goes.executes e.position is_event in
          omega (arith, in_range, length-size test.threads e.thread));
    }
    | inr h ↦
        (let is_nil : thread_code x.paths e.thread ≡ [] = get_or_past x.paths e.thread [] (omega (arith, h, candidate.as_many)) in
        absurd (not-Contains-nil e.position (subst (λ (path : List ℕ). Contains path e.position) is_nil is_event)))
  ]

  -- ---- the times

  -- Tests whether all later events of its thread wait for an event: it reads, or it is a fence.
  abbrev blocks : MemoryEvent → Bool
  blocks e = has_kind reads e || has_kind operations.is_fence e

  -- One more than the rank of the event of thread t at position j if that blocks, and otherwise 0.
  abbrev top : ℕ → ℕ → ℕ
  top t j = if blocks (event t j) then suc (ghb_rank (event t j)) else 0

  -- The greatest top of the events of a thread up to this one.
  abbrev anchored : MemoryEvent → ℕ
  anchored e = anchor (top e.thread) (thread_code x.paths e.thread) e.position

  -- A number for each event, by its thread and then its position, which distinguishes equal anchored numbers.
  abbrev slot : MemoryEvent → ℕ
  slot e = 2 * (level width e.thread + e.position)

  -- A number above the slots of all events.
  abbrev slots : ℕ
  slots = 2 * level width (length test.threads)

  -- When an event is done: by its anchored number, then by thread and position.
  abbrev pub done : MemoryEvent → ℕ
  done e = level slots (anchored e) + slot e

  -- When an event reaches memory: a store at its own rank in global happens-before, all else when it is done.
  abbrev pub reached : MemoryEvent → ℕ
  reached e = if has_kind is_store e then level slots (suc (ghb_rank e)) + suc (slot e) else done e

  -- A store reaches memory right after its slot in the level of its rank.
  reached-of_store : (e : MemoryEvent) → has_kind is_store e ≡ true → reached e ≡ level slots (suc (ghb_rank e)) + suc (slot e)
  reached-of_store e s = cond-true (has_kind is_store e) _ (done e) s

  -- Any other event reaches memory when it is done.
  reached-of_other : (e : MemoryEvent) → has_kind is_store e ≡ false → reached e ≡ done e
  reached-of_other e s = cond-false (has_kind is_store e) _ (done e) s

  -- ---- what anchors a step

  -- The top of an event that blocks is one more than its rank.
  top-of_blocking : (e : MemoryEvent) → blocks e ≡ true → top e.thread e.position ≡ suc (ghb_rank e)
  top-of_blocking e h = cond-true (blocks e) (suc (ghb_rank e)) 0 h

  -- The top of any other event is 0.
  top-of_other : (e : MemoryEvent) → blocks e ≡ false → top e.thread e.position ≡ 0
  top-of_other e h = cond-false (blocks e) (suc (ghb_rank e)) 0 h

  -- Ranks in global happens-before increase along preserved program order.
  ghb_rank_increases-Ppo : (a b : MemoryEvent) → Ppo x86_language test x a b → ghb_rank a < ghb_rank b
  ghb_rank_increases-Ppo a b p = axioms.happens_before.increases a b (inl p)

  -- An event that blocks has a lower rank in global happens-before than each later event of its thread.
  ghb_rank_increases-Po_from_blocking : (a b : MemoryEvent) → Po x a b → blocks a ≡ true → ghb_rank a < ghb_rank b
  ghb_rank_increases-Po_from_blocking a b po h = ghb_rank_increases-Ppo a b (record {
    po = po;
    is_preserved = elim (or_cases (has_kind reads a) (has_kind operations.is_fence a) h) [
      | inl r ↦ or_left (has_kind reads a) _ r
      | inr f ↦ or_right (has_kind reads a) _ (or_right (has_kind writes b) _ (or_left (has_kind operations.is_fence a) _ f))
    ];
  })

  -- The anchored number is the least number above the ranks of the events that block, up to this one.
  anchored_least : (e : MemoryEvent) (b : ℕ)
      → IsEvent x e
      → ((k : MemoryEvent) → Po x k e → blocks k ≡ true → suc (ghb_rank k) ≤ b)
      → (blocks e ≡ true → suc (ghb_rank e) ≤ b)
      → anchored e ≤ b
  anchored_least e b is_event each own =
      anchor_least (top e.thread) (thread_code x.paths e.thread) e.position b
      (λ k c le. elim (cases_Bool (blocks (event e.thread k))) [
        | inl h ↦ elim (cases_eq k e.position) [
          | inl same_position ↦
              (let same_event : event e.thread k ≡ e = ap (event e.thread) same_position in
              omega (
                arith,
                top-of_blocking (event e.thread k) h,
                ap ghb_rank same_event,
                own (subst (λ (z : MemoryEvent). blocks z ≡ true) same_event h),
              ))
          | inr positions_differ ↦ omega (
            arith,
            top-of_blocking (event e.thread k) h,
            each (event e.thread k) (record {
              first_event = c;
              second_event = is_event;
              same_thread = refl;
              position_lt = omega (arith, le, positions_differ);
            }) h,
          )
        ]
        | inr h ↦ omega (arith, top-of_other (event e.thread k) h)
      ])

  -- The anchored numbers do not decrease along program order.
  anchored_increases-Po : (a b : MemoryEvent) → Po x a b → anchored a ≤ anchored b
  anchored_increases-Po a b po = anchor_least (top a.thread) (thread_code x.paths a.thread) a.position (anchored b) (λ k c le.
      subst (λ t. Contains (thread_code x.paths t) k → top t k ≤ anchored b) (sym po.same_thread)
      (λ d. anchor_above (top b.thread) (thread_code x.paths b.thread) b.position k d (omega (arith, le, po.position_lt))) c)

  -- The anchored number of a store is at most its rank: all that it waits for has lower ranks.
  anchored_at_most_ghb_rank-of_store : (e : MemoryEvent) → IsEvent x e → has_kind is_store e ≡ true → anchored e ≤ ghb_rank e
  anchored_at_most_ghb_rank-of_store e is_event s =
      anchored_least e (ghb_rank e) is_event (λ k po h. omega (arith, ghb_rank_increases-Po_from_blocking k e po h))
      (λ h. absurd (elim (or_cases (has_kind reads e) (has_kind operations.is_fence e) h) [
        | inl r ↦ true≢false (sym r ∙ reads-false_if_store_event test e s)
        | inr f ↦ true≢false (sym f ∙ is_fence-false_if_store_event test e s)
      ]))

  -- The anchored number of an event that blocks is one more than its rank.
  anchored-of_blocking : (e : MemoryEvent) → IsEvent x e → blocks e ≡ true → anchored e ≡ suc (ghb_rank e)
  anchored-of_blocking e is_event h =
      let above : suc (ghb_rank e) ≤ anchored e = omega (
        arith,
        top-of_blocking e h,
        anchor_above (top e.thread) (thread_code x.paths e.thread) e.position e.position is_event (omega arith),
      ) in
      omega (
        arith,
        above,
        anchored_least e (suc (ghb_rank e)) is_event (λ k po hk. omega (arith, ghb_rank_increases-Po_from_blocking k e po hk))
            (λ _. omega arith),
      )

  -- An event that blocks is no store.
  is_store-false_if_blocks : (e : MemoryEvent) → blocks e ≡ true → has_kind is_store e ≡ false
  is_store-false_if_blocks e h = elim (or_cases (has_kind reads e) (has_kind operations.is_fence e) h) [
    | inl r ↦ is_store-false_if_reads_event test e r
    | inr f ↦ is_store-false_if_fence_event test e f
  ]

  -- An event that reads blocks.
  read_blocks : (e : MemoryEvent) → has_kind reads e ≡ true → blocks e ≡ true
  read_blocks e r = or_left (has_kind reads e) _ r

  -- The event reaches memory in the range of times of its own rank in global happens-before.
  record IsReachedAtOwnRank (e : MemoryEvent) : Type 0 where
    least : level slots (suc (ghb_rank e)) ≤ reached e
    most : reached e < level slots (suc (ghb_rank e)) + slots

  -- One more than an event's slot is below the number of slots.
  slot_low : (e : MemoryEvent) → IsEvent x e → suc (slot e) < slots
  slot_low e is_event =
      let w : IsWithin e = IsWithin-IsEvent e is_event in
      omega (arith, level-lt width e.thread (length test.threads) w.thread, w.position)

  -- An event that blocks reaches memory at its own rank.
  IsReachedAtOwnRank-of_blocking : (e : MemoryEvent) → IsEvent x e → blocks e ≡ true → IsReachedAtOwnRank e
  IsReachedAtOwnRank-of_blocking e is_event h =
      let a = ap (level slots) (anchored-of_blocking e is_event h) in
      let b = reached-of_other e (is_store-false_if_blocks e h) in
      let c = slot_low e is_event in
      record { least = omega (arith, a, b, c); most = omega (arith, a, b, c) }

  -- An event that writes reaches memory at its own rank.
  IsReachedAtOwnRank-of_write : (e : MemoryEvent) → IsEvent x e → has_kind writes e ≡ true → IsReachedAtOwnRank e
  IsReachedAtOwnRank-of_write e is_event w = elim (write_stores_or_reads test e w) [
    | inl s ↦
        (let a = reached-of_store e s in
        let c = slot_low e is_event in
        record { least = omega (arith, a, c); most = omega (arith, a, c) })
    | inr r ↦ IsReachedAtOwnRank-of_blocking e is_event (read_blocks e r)
  ]

  -- ---- they are times

  -- Events are done in program order.
  done_increases-Po : (a b : MemoryEvent) → Po x a b → done a < done b
  done_increases-Po a b po = omega (
    arith,
    level-le slots (anchored a) (anchored b) (anchored_increases-Po a b po),
    ap (level width) po.same_thread,
    po.position_lt,
  )

  -- A store reaches memory after it is done.
  done_before_reached : (e : MemoryEvent) → IsEvent x e → has_kind is_store e ≡ true → done e < reached e
  done_before_reached e is_event s = omega (
    arith,
    reached-of_store e s,
    level-le slots (anchored e) (suc (ghb_rank e)) (omega (arith, anchored_at_most_ghb_rank-of_store e is_event s)),
  )

  -- An event that is no store, and follows a store in preserved program order, blocks.
  blocks-Ppo_from_store : (a b : MemoryEvent)
      → Ppo x86_language test x a b
      → has_kind is_store a ≡ true
      → has_kind is_store b ≡ false
      → blocks b ≡ true
  blocks-Ppo_from_store a b ppo s n = elim (or_cases (has_kind reads a) _ ppo.is_preserved) [
    | inl r ↦ absurd (true≢false (sym r ∙ reads-false_if_store_event test a s))
    | inr rest ↦ elim (or_cases (has_kind writes b) _ rest) [
      | inl w ↦ elim (write_stores_or_reads test b w) [ inl t ↦ absurd (true≢false (sym t ∙ n)) | inr r ↦ read_blocks b r ]
      | inr fences ↦ elim (or_cases (has_kind operations.is_fence a) _ fences) [
        | inl f ↦ absurd (true≢false (sym f ∙ is_fence-false_if_store_event test a s))
        | inr f ↦ or_right (has_kind reads b) _ f
      ]
    ]
  ]

  -- Along preserved program order events reach memory later and later.
  reached_increases-Ppo : (a b : MemoryEvent) → Ppo x86_language test x a b → reached a < reached b
  reached_increases-Ppo a b ppo =
      let up : ghb_rank a < ghb_rank b = ghb_rank_increases-Ppo a b ppo in
      let low = slot_low a ppo.po.first_event in
      elim (cases_Bool (has_kind is_store a)) [
        | inl a_stores ↦ elim (cases_Bool (has_kind is_store b)) [
          | inl b_stores ↦ omega (
            arith,
            reached-of_store a a_stores,
            reached-of_store b b_stores,
            level-lt slots (suc (ghb_rank a)) (suc (ghb_rank b)) (omega (arith, up)),
            low,
          )
          | inr b_not_store ↦
              (let own : IsReachedAtOwnRank b =
              IsReachedAtOwnRank-of_blocking b ppo.po.second_event (blocks-Ppo_from_store a b ppo a_stores b_not_store) in
              omega (
                arith,
                reached-of_store a a_stores,
                own.least,
                level-lt slots (suc (ghb_rank a)) (suc (ghb_rank b)) (omega (arith, up)),
                low,
              ))
        ]
        | inr a_not_store ↦ elim (cases_Bool (has_kind is_store b)) [
          | inl b_stores ↦
              (let under : anchored a < suc (ghb_rank b) =
              omega (
                arith,
                anchored_increases-Po a b ppo.po,
                anchored_at_most_ghb_rank-of_store b ppo.po.second_event b_stores,
              ) in
              omega (
                arith,
                reached-of_other a a_not_store,
                reached-of_store b b_stores,
                level-lt slots (anchored a) (suc (ghb_rank b)) under,
                low,
              ))
          | inr b_not_store ↦
              omega (arith, reached-of_other a a_not_store, reached-of_other b b_not_store, done_increases-Po a b ppo.po)
        ]
      ]

  -- Of two events that reach memory at their own ranks, the one with the lower rank does so earlier.
  reached_increases-ghb_rank : (a b : MemoryEvent)
      → IsReachedAtOwnRank a
      → IsReachedAtOwnRank b
      → ghb_rank a < ghb_rank b
      → reached a < reached b
  reached_increases-ghb_rank a b ownA ownB up =
      omega (arith, ownA.most, ownB.least, level-lt slots (suc (ghb_rank a)) (suc (ghb_rank b)) (omega (arith, up)))

  -- The times of reaching memory increase along coherence order.
  reached_increases-Co : (w v : MemoryEvent) → Co x86_language test x w v → reached w < reached v
  reached_increases-Co w v co =
      reached_increases-ghb_rank w v (IsReachedAtOwnRank-of_write w co.first_write.is_event co.first_write.is_write)
      (IsReachedAtOwnRank-of_write v co.second_write.is_event co.second_write.is_write)
      (axioms.happens_before.increases w v (inr (inr (inl co))))

  -- No two events reach memory at one time.
  reached-injective : (a b : MemoryEvent) → IsEvent x a → IsEvent x b → reached a ≡ reached b → a ≡ b
  reached-injective a b ia ib same =
      let la = slot_low a ia in
      let lb = slot_low b ib in
      let one : slot a ≡ slot b = elim (cases_Bool (has_kind is_store a)) [
        | inl a_stores ↦ elim (cases_Bool (has_kind is_store b)) [
          | inl b_stores ↦ omega (
            arith,
            (level-unique slots (suc (ghb_rank a)) (suc (ghb_rank b)) (suc (slot a)) (suc (slot b)) la lb
                (omega (arith, same, reached-of_store a a_stores, reached-of_store b b_stores))).1,
          )
          | inr b_not_store ↦ omega (
            arith,
            (level-unique slots (suc (ghb_rank a)) (anchored b) (suc (slot a)) (slot b) la (omega (arith, lb))
                (omega (arith, same, reached-of_store a a_stores, reached-of_other b b_not_store))).1,
          )
        ]
        | inr a_not_store ↦ elim (cases_Bool (has_kind is_store b)) [
          | inl b_stores ↦ omega (
            arith,
            (level-unique slots (anchored a) (suc (ghb_rank b)) (slot a) (suc (slot b)) (omega (arith, la)) lb
                (omega (arith, same, reached-of_other a a_not_store, reached-of_store b b_stores))).1,
          )
          | inr b_not_store ↦
              (level-unique slots (anchored a) (anchored b) (slot a) (slot b) (omega (arith, la)) (omega (arith, lb))
              (omega (arith, same, reached-of_other a a_not_store, reached-of_other b b_not_store))).1
        ]
      ] in
      let wa : IsWithin a = IsWithin-IsEvent a ia in
      let wb : IsWithin b = IsWithin-IsEvent b ib in
      let both = level-unique width a.thread b.thread a.position b.position wa.position wb.position (omega (arith, one)) in
      ap₂ event both.0 both.1

  -- ---- each read has its newest write

  module _ (r : MemoryEvent) (l : ℕ) (reading : Reads x86_language test x r l) where
    -- The read reaches memory at its own rank.
    IsReachedAtOwnRank-of_read : IsReachedAtOwnRank r
    IsReachedAtOwnRank-of_read = IsReachedAtOwnRank-of_blocking r reading.is_event (read_blocks r reading.is_read)

    -- The read reaches memory when it is done.
    read_reached_is_done : reached r ≡ done r
    read_reached_is_done = reached-of_other r (is_store-false_if_reads_event test r reading.is_read)

    -- A write that is before the read is not later in coherence order than what the read reads from.
    not-newer_than_read : (w : MemoryEvent)
        → Writes x86_language test x w l
        → IsBefore x done reached w r
        → ForSome (x.rf r) (λ v. x.co v < x.co w)
        → ⊥
    not-newer_than_read w writing before source_before = elim (cases_eq r.thread w.thread) [
      | inl same_thread ↦ elim (cases_eq r.position w.position) [
        | inl same_position ↦ not-itself (ap₂ event same_thread same_position)
        | inr positions_differ ↦ not-another (λ (e : r ≡ w). positions_differ (ap (λ (z : MemoryEvent). z.position) e))
      ]
      | inr threads_differ ↦ not-another (λ (e : r ≡ w). threads_differ (ap (λ (z : MemoryEvent). z.thread) e))
    ]
      where
        -- The write is not the read itself: it would be before itself.
        not-itself : r ≡ w → ⊥
        not-itself e = elim before [
          | inl early ↦ omega (arith, early, ap reached e, read_reached_is_done)
          | inr own ↦ omega (arith, own.position_lt, ap (λ (z : MemoryEvent). z.position) e)
        ]

        -- The write is no event other than the read: from-reads would lead from the read to it.
        not-another : r ≢ w → ⊥
        not-another ne =
            let fr : Fr x86_language test x r w =
            record { on_location = l; read = reading; write = writing; events_differ = ne; source_before = source_before } in
            let own_w : IsReachedAtOwnRank w = IsReachedAtOwnRank-of_write w writing.is_event writing.is_write in
            elim before [
              | inl early ↦ omega (
                arith,
                early,
                read_reached_is_done,
                reached_increases-ghb_rank r w IsReachedAtOwnRank-of_read own_w
                    (axioms.happens_before.increases r w (inr (inr (inr fr)))),
              )
              | inr own ↦ omega (
                arith,
                axioms.coherence.increases r w (inr (inr (inr fr))),
                axioms.coherence.increases w r (inl (record {
                  po = own;
                  on_location = l;
                  first_location_is = writing.location_is;
                  second_location_is = reading.location_is;
                })),
              )
            ]

    -- The write that the read reads from is before it.
    IsBefore-of_source : (v : MemoryEvent) → Writes x86_language test x v l → x.rf r ≡ Some v → IsBefore x done reached v r
    IsBefore-of_source v writing source_is =
        let rf : Rf x86_language test x v r =
        record { on_location = l; write = writing; read = reading; source_is = source_is } in
        let own_v : IsReachedAtOwnRank v = IsReachedAtOwnRank-of_write v writing.is_event writing.is_write in
        elim (cases_eq v.thread r.thread) [
          | inr threads_differ ↦ inl (omega (
            arith,
            read_reached_is_done,
            reached_increases-ghb_rank v r own_v IsReachedAtOwnRank-of_read
                (axioms.happens_before.increases v r (inr (inl (record { rf = rf; threads_differ = threads_differ })))),
          ))
          | inl same_thread ↦ elim (cases_order v.position r.position) [
            | inl same_position ↦
                absurd (let same_event : v ≡ r = ap₂ event same_thread same_position in
                omega (arith, axioms.coherence.increases v r (inr (inl rf)), ap axioms.coherence.rank same_event))
            | inr (inl position_lt) ↦ inr (record {
              first_event = writing.is_event;
              second_event = reading.is_event;
              same_thread = same_thread;
              position_lt = position_lt;
            })
            | inr (inr position_gt) ↦ absurd (omega (
              arith,
              axioms.coherence.increases v r (inr (inl rf)),
              axioms.coherence.increases r v (inl (record {
                po = record {
                  first_event = reading.is_event;
                  second_event = writing.is_event;
                  same_thread = sym same_thread;
                  position_lt = position_gt;
                };
                on_location = l;
                first_location_is = reading.location_is;
                second_location_is = writing.location_is;
              })),
            ))
          ]
        ]

    -- The read reads from the newest write before it.
    IsNewest-of_rf : (q : Option MemoryEvent)
        → x.rf r ≡ q
        → IsReadFrom x86_language test x r l q
        → IsNewest test x done reached r l q
    IsNewest-of_rf None source_is is_from = λ w writing before.
        not-newer_than_read w writing before (λ v is_some. absurd (let bad : None ≡ Some v = sym source_is ∙ is_some in cc))
    IsNewest-of_rf (Some v) source_is is_from = record {
      write = is_from.write;
      is_before = IsBefore-of_source v is_from.write source_is;
      latest = λ w writing before. elim (cases_order (x.co w) (x.co v)) [
        | inl same_co ↦ omega (arith, ap reached (candidate.co w v l writing is_from.write same_co))
        | inr (inl co_lt) ↦
            (let up : reached w < reached v =
            reached_increases-Co w v
            (record { on_location = l; first_write = writing; second_write = is_from.write; co_lt = co_lt }) in
            omega (arith, up))
        | inr (inr co_gt) ↦ absurd (not-newer_than_read w writing before (λ u is_some.
            (let e : v ≡ u = same_Some v u (sym source_is ∙ is_some) in subst (λ (z : MemoryEvent). x.co z < x.co w) e co_gt)))
      ];
    }

  -- An execution that satisfies the axioms has times.
  pub HasTimes-SatisfiesAxioms : HasTimes test x
  HasTimes-SatisfiesAxioms = record {
    done = done;
    reached = reached;
    timed = record {
      po = done_increases-Po;
      later = done_before_reached;
      at_once = reached-of_other;
      ppo = reached_increases-Ppo;
      co = reached_increases-Co;
      reached_injective = reached-injective;
      newest = λ r l reading. IsNewest-of_rf r l reading (x.rf r) refl (candidate.rf r l reading);
    };
  }
