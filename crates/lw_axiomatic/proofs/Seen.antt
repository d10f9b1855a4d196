-- The word that a processor reads at its turn is that of the newest write before the read. Both halves of the
-- theorem need it: it says that buffers and memory implement the axiom of values.
use Rattle.lw_axiomatic.proofs.Common.{◌≡◌, ℕ, suc, ◌<◌, ◌≤◌, ◌⊎◌, inl, inr, ⊎_elim, true, false, Option}
use Rattle.lw_axiomatic.proofs.Common.{Some, None, refl, sym, ap, ap₂, ◌∙◌, subst, arith, if◌then◌else◌, List}
use Rattle.lw_axiomatic.proofs.Common.{[], ◌∷◌, slice_get, Contains, ◌==◌, eq-eqb, ne_eqb, option_map}
use Rattle.lw_axiomatic.proofs.Common.{option_and_then, slice_index, option_or, cases_Bool, cases_lt}
use Rattle.lw_axiomatic.proofs.Common.{cases_eq, cond-true, cond-false, same_Some, thread_code, is_store}
use Rattle.lw_axiomatic.proofs.Common.{writes, location_of, x86_language, x86_operation, X86Test, index_in}
use Rattle.lw_axiomatic.proofs.Common.{Item, IsMember, item, IsItemOnPath-of_member, MachineState, Processor}
use Rattle.lw_axiomatic.proofs.Common.{newest_buffered, IsAscendingBetween, IsAscendingBetween-member}
use Rattle.lw_axiomatic.proofs.Common.{entry_location, BufferHolds, IsDrainedLater, MemoryEvent, Execution}
use Rattle.lw_axiomatic.proofs.Common.{reads, operation_is, IsEvent, Writes, Po, IsBefore, IsNewest}
use Rattle.lw_axiomatic.proofs.EventLists.{event}
use Rattle.lw_axiomatic.proofs.EventKinds.{}
use Rattle.lw_axiomatic.proofs.StepCases.{word_seen, found_or}
use Rattle.lw_axiomatic.proofs.Indices.{KeptOrder, item_numbered, done, reached, turn, turn-of_number}
use Rattle.lw_axiomatic.proofs.Indices.{operation_is-of_instruction, instr_of, Placed-step, Placed-point}
use Rattle.lw_axiomatic.proofs.Indices.{reached-injective, done_increases-Po, reached_increases-Ppo}
use Rattle.lw_axiomatic.proofs.Indices.{reached_is_done, Contains-IsMember}
use Rattle.lw_axiomatic.proofs.Prefixes.{Written, LastBefore, PrefixInvariant, Turn, store-entry_location}
use Rattle.lw_axiomatic.proofs.Prefixes as prefixes

module _ {test : X86Test} (x : Execution) (given : KeptOrder test x.paths) where
  -- When an event reaches memory.
  abbrev reach : MemoryEvent → ℕ
  reach = reached given

  -- When an event is done.
  abbrev finish : MemoryEvent → ℕ
  finish = done given

  -- ---- the newest entry for a location

  -- The location for which a store adds an entry, if the position has a store.
  abbrev entered_location : ℕ → ℕ → Option ℕ
  entered_location t w = entry_location x86_language (slice_get (thread_code test.threads t) w)

  -- The buffer has an entry for the location: the newest is that of the last waiting store to it.
  record HasEntry (t : ℕ) (ws : List ℕ) (b : List (ℕ × ℕ)) (l : ℕ) : Type 0 where
    store : ℕ
    waits : IsMember store ws
    of : entered_location t store ≡ Some l
    found : newest_buffered b l ≡ Some (x.written (event t store))
    last : (v : ℕ) → IsMember v ws → entered_location t v ≡ Some l → v ≤ store

  -- The buffer has no entry for the location, and no waiting store is to it.
  record HasNoEntry (t : ℕ) (ws : List ℕ) (b : List (ℕ × ℕ)) (l : ℕ) : Type 0 where
    found : newest_buffered b l ≡ None
    none : (v : ℕ) → IsMember v ws → entered_location t v ≡ Some l → ⊥

  -- The buffer has an entry for the location, or it has none.
  HasEntry-or_HasNoEntry : (t l low high : ℕ) (ws : List ℕ) (b : List (ℕ × ℕ))
      → IsAscendingBetween low ws high
      → BufferHolds (thread_code test.threads t) ws b
      → Written x given t ws b
      → HasEntry t ws b l ⊎ HasNoEntry t ws b l
  HasEntry-or_HasNoEntry t l low high [] [] climbs waits written = inr (record { found = refl; none = λ v h e. absurd h })
  HasEntry-or_HasNoEntry t l low high [] (e ∷ b) climbs waits written = absurd waits
  HasEntry-or_HasNoEntry t l low high (w ∷ ws) [] climbs waits written = absurd waits
  HasEntry-or_HasNoEntry t l low high (w ∷ ws) (e ∷ b) climbs waits written =
      elim (HasEntry-or_HasNoEntry t l (suc w) high ws b climbs.1 waits.1 written.1) [
        | inl h ↦ inl (record {
          store = h.store;
          waits = inr h.waits;
          of = h.of;
          found = ap (λ f. option_or f (if e.0 == l then Some e.1 else None)) h.found;
          last = λ v where_v of_v.
              ⊎_elim (λ first.
              (let less : suc w ≤ h.store = (IsAscendingBetween-member (suc w) high h.store ws climbs.1 h.waits).0 in
              omega (arith, first, less))) (λ in_rest. h.last v in_rest of_v) where_v;
        })
        | inr h ↦ elim (cases_eq e.0 l) [
          | inl same ↦ inl (record {
            store = w;
            waits = inl refl;
            of = waits.0 ∙ ap Some same;
            found =
                ap (λ f. option_or f (if e.0 == l then Some e.1 else None)) h.found
                ∙ (cond-true (e.0 == l) (Some e.1) None (eq-eqb e.0 l same) ∙ ap Some (sym written.0));
            last = λ v where_v of_v. ⊎_elim (λ first. omega (arith, first)) (λ in_rest. absurd (h.none v in_rest of_v)) where_v;
          })
          | inr ne ↦ inr (record {
            found =
                ap (λ f. option_or f (if e.0 == l then Some e.1 else None)) h.found
                ∙ cond-false (e.0 == l) (Some e.1) None (ne_eqb e.0 l ne);
            none = λ v where_v of_v.
                ⊎_elim (λ first. ne (same_Some e.0 l (sym waits.0 ∙ (ap (entered_location t) first ∙ of_v))))
                (λ in_rest. h.none v in_rest of_v) where_v;
          })
        ]
      ]

  -- The word of the event that is read from, or the initial word of the location.
  abbrev pub source_word : ℕ → Option MemoryEvent → ℕ
  source_word l None = slice_index test.head.init_words l
  source_word l (Some v) = x.written v

  module _ {k : ℕ} {pending : ℕ → List ℕ} {s : MachineState (List ℕ)} (inv : PrefixInvariant x given k pending s)
      (now_at : Turn x given k) {p : Processor} (was : slice_get s.processors (item_numbered given now_at.index).thread ≡ Some p)
      (stands : p.position ≡ (item_numbered given now_at.index).position)
      (kind_is : (item_numbered given now_at.index).is_drain ≡ false) where
    -- The thread of the read.
    abbrev read_thread : ℕ
    read_thread = (item_numbered given now_at.index).thread

    -- The read's position.
    abbrev read_position : ℕ
    read_position = (item_numbered given now_at.index).position

    -- The read.
    abbrev read_event : MemoryEvent
    read_event = event read_thread read_position

    -- The read is done at k.
    e_done : finish read_event ≡ k
    e_done =
        ap (λ b. turn given (item read_thread read_position b)) (sym kind_is)
        ∙ (turn-of_number given now_at.index now_at.below ∙ now_at.index_is)

    -- An own store that has not reached memory waits.
    IsMember-store_pending : (v : MemoryEvent) (l : ℕ)
        → Writes x86_language test x v l
        → Po x v read_event
        → k ≤ reach v
        → IsMember v.position (pending read_thread) × (entered_location read_thread v.position ≡ Some l)
    IsMember-store_pending v l writing po late = elim (cases_Bool (operation_is x86_language test is_store v)) [
      | inr v_not_store ↦ absurd (omega (
        arith,
        late,
        e_done,
        reached_is_done given x refl v v_not_store,
        done_increases-Po given x refl v read_event po,
      ))
      | inl v_stores ↦
          (let a = Placed-step given v writing.is_event in
          let b = Placed-point given v writing.is_event in
          let drain : (item_numbered given b.index).is_drain ≡ true = ap (λ (z : Item). z.is_drain) b.item_is ∙ v_stores in
          let found =
          inv.waiting.waits a.index b.index a.below b.below
          (ap (λ (z : Item). z.thread) (a.item_is) ∙ sym (ap (λ (z : Item). z.thread) b.item_is))
          (ap (λ (z : Item). z.position) (a.item_is) ∙ sym (ap (λ (z : Item). z.position) b.item_is))
          (ap (λ (z : Item). z.is_drain) a.item_is) drain
          (omega (arith, a.index_is, done_increases-Po given x refl v read_event po, e_done))
          (omega (arith, b.index_is, late)) in (
            subst (λ u. IsMember v.position (pending u)) po.same_thread
                (subst (λ (z : Item). IsMember z.position (pending z.thread)) b.item_is found),
            (let instr = instr_of given v writing.is_event in
                let at_t : slice_get (thread_code test.threads read_thread) v.position ≡ Some instr.0 =
                subst (λ u. slice_get (thread_code test.threads u) v.position ≡ Some instr.0) po.same_thread instr.1 in
                ap (entry_location x86_language) at_t
                ∙ (cond-true (is_store (x86_operation instr.0)) (location_of (x86_operation instr.0)) None
                (sym (operation_is-of_instruction given is_store v instr.0 instr.1) ∙ v_stores)
                ∙ (sym (ap (λ o. option_and_then location_of (option_map x86_operation o)) instr.1) ∙ writing.location_is))),
          ))
    ]

    -- A store that waits is an own one that has not reached memory.
    Writes-pending_store : (w l : ℕ)
        → IsMember w (pending read_thread)
        → entered_location read_thread w ≡ Some l
        → Writes x86_language test x (event read_thread w) l
        × Po x (event read_thread w) read_event
        × (k ≤ reach (event read_thread w))
    Writes-pending_store w l is_member of =
        let co : IsDrainedLater _ _ _ _ _ k read_thread w = inv.waiting.coming read_thread w is_member in
        let re = IsItemOnPath-of_member x86_language test.threads x.paths co.index co.below in
        let g = store-entry_location (slice_get (thread_code test.threads read_thread) w) l of in
        let on_path : Contains (thread_code x.paths read_thread) w =
        Contains-IsMember (thread_code x.paths read_thread) w
        (subst (λ u. IsMember w (thread_code x.paths u)) co.thread
        (subst (λ n. IsMember n (thread_code x.paths (item_numbered given co.index).thread)) co.position re.on_path)) in
        let store : operation_is x86_language test is_store (event read_thread w) ≡ true =
        operation_is-of_instruction given is_store (event read_thread w) g.0 g.1 ∙ g.2 in
        let low : w < p.position =
        (IsAscendingBetween-member 0 p.position w (pending read_thread) (inv.hold read_thread p was).climbs is_member).1 in
        let is_event : IsEvent x read_event =
        Contains-IsMember (thread_code x.paths read_thread) read_position
        (IsItemOnPath-of_member x86_language test.threads x.paths now_at.index now_at.below).on_path in (
          record {
            is_event = on_path;
            location_is = ap (λ o. option_and_then location_of (option_map x86_operation o)) g.1 ∙ g.3;
            is_write = operation_is-of_instruction given writes (event read_thread w) g.0 g.1 ∙ prefixes.store_writes_too g.0 g.2;
          },
          record { first_event = on_path; second_event = is_event; same_thread = refl; position_lt = omega (arith, low, stands) },
          (let same : item read_thread w true ≡ item_numbered given co.index =
              sym (ap₂ (λ a b. item a b true) co.thread co.position ∙ refl)
              ∙ ap (λ b. item (item_numbered given co.index).thread (item_numbered given co.index).position b)
              (sym co.is_drain) in
              let turn_w : reach (event read_thread w) ≡ index_in given.order co.index =
              ap (λ b. turn given (item read_thread w b)) store
              ∙ (ap (turn given) same ∙ turn-of_number given co.index co.below) in
              omega (arith, co.later, turn_w)),
        )

    -- The word that is read is that of the newest write before the read.
    pub sees_newest : (l : ℕ) (q : Option MemoryEvent)
        → IsNewest test x finish reach read_event l q
        → word_seen p.buffer s.memory l ≡ source_word l q
    sees_newest l q new =
        elim (HasEntry-or_HasNoEntry read_thread l 0 p.position (pending read_thread) p.buffer (inv.hold read_thread p was).climbs
        (inv.hold read_thread p was).waits (inv.words read_thread p was)) [
          | inl h ↦ ap (λ o. found_or o (slice_index s.memory l)) h.found ∙ source_word-HasEntry h q new
          | inr h ↦ ap (λ o. found_or o (slice_index s.memory l)) h.found ∙ source_word-HasNoEntry h (inv.memory l) q new
        ]
      where
        -- If no own store to the location waits, the writes before the read have reached memory.
        writes_have_reached : HasNoEntry read_thread (pending read_thread) p.buffer l
            → (v : MemoryEvent)
            → Writes x86_language test x v l
            → IsBefore x finish reach v read_event
            → reach v < k
        writes_have_reached h v writing (inl lt) = omega (arith, lt, e_done)
        writes_have_reached h v writing (inr po) = elim (cases_lt (reach v) k) [
          | inl lt ↦ lt
          | inr ge ↦ (let there = IsMember-store_pending v l writing po ge in absurd (h.none v.position there.0 there.1))
        ]

        -- If an own store to the location waits, the newest of them is the newest write before the read.
        source_word-HasEntry : (h : HasEntry read_thread (pending read_thread) p.buffer l) (q : Option MemoryEvent)
            → IsNewest test x finish reach read_event l q
            → x.written (event read_thread h.store) ≡ source_word l q
        source_word-HasEntry h None new =
            absurd (let g = Writes-pending_store h.store l h.waits h.of in new (event read_thread h.store) g.0 (inr g.1))
        source_word-HasEntry h (Some v) new =
            let g = Writes-pending_store h.store l h.waits h.of in
            let most : reach (event read_thread h.store) ≤ reach v = new.latest (event read_thread h.store) g.0 (inr g.1) in
            let own : Po x v read_event =
            ⊎_elim (λ reached_by_then. absurd (omega (arith, reached_by_then, e_done, g.2, most))) (λ po. po) new.is_before in
            let there = IsMember-store_pending v l new.write own (omega (arith, g.2, most)) in
            let least : v.position ≤ h.store = h.last v.position there.0 there.1 in
            elim (cases_eq v.position h.store) [
              | inl same_position ↦ ap x.written (sym (ap₂ (event) own.same_thread same_position))
              | inr positions_differ ↦
                  absurd (let up : reach v < reach (event read_thread h.store) =
                  reached_increases-Ppo given x refl v (event read_thread h.store) (record {
                    po = record {
                      first_event = new.write.is_event;
                      second_event = g.0.is_event;
                      same_thread = own.same_thread;
                      position_lt = omega (arith, least, positions_differ);
                    };
                    is_preserved = prefixes.or_true-middle (operation_is x86_language test reads v) _ _ g.0.is_write;
                  }) in
                  omega (arith, up, most))
            ]

        -- If no own store to the location waits, the newest write before the read is the last that has reached
        -- memory.
        source_word-HasNoEntry : (h : HasNoEntry read_thread (pending read_thread) p.buffer l)
            → LastBefore x given k l (slice_index s.memory l)
            → (q : Option MemoryEvent)
            → IsNewest test x finish reach read_event l q
            → slice_index s.memory l ≡ source_word l q
        source_word-HasNoEntry h (inl (never, is)) None new = is
        source_word-HasNoEntry h (inl (never, is)) (Some v) new =
            absurd (never v new.write (writes_have_reached h v new.write new.is_before))
        source_word-HasNoEntry h (inr (w, writing, less, last, is)) None new =
            absurd (new w writing (inl (omega (arith, less, e_done))))
        source_word-HasNoEntry h (inr (w, writing, less, last, is)) (Some v) new =
            let most : reach w ≤ reach v = new.latest w writing (inl (omega (arith, less, e_done))) in
            let least : reach v ≤ reach w = last v new.write (writes_have_reached h v new.write new.is_before) in
            is
            ∙ ap x.written (reached-injective given x refl w v writing.is_event new.write.is_event (omega (arith, most, least)))
