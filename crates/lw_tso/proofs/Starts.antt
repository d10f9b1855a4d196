-- Processors in their initial states, and a machine of them. Lemmas for `Machine::new` and `restart`: the
-- machine's invariant holds at the start.
use Rattle.lw_tso.proofs.Common.{◌≡◌, ℕ, suc, ◌+◌, ◌<◌, ◌≤◌, List, [], ◌∷◌, ◌++◌, length, map, take, get_or}
use Rattle.lw_tso.proofs.Common.{Option, Some, None, refl, sym, ap, ◌∙◌, subst, arith, slice_get, inl, inr}
use Rattle.lw_tso.proofs.Common.{◌⊎◌, option_map, take-suc, length-take-le, cases_eq, map-append, length-map}
use Rattle.lw_tso.proofs.Common.{All-nil, slice_get-map, slice_get_within, same_Some, slice_get-push}
use Rattle.lw_tso.proofs.Common.{slice_get-last, Invariant, Memory, Instr, initial_processor, thread_code}
use Rattle.lw_tso.proofs.Common.{stores_from, HasRoom, IsReachableMachine, processor_of}
use Rattle.lw_tso.specs.declared.processor.Processor.{Processor as ProcessorInMemory}

-- If P holds at each index of xs with its item, and at the length of xs with x, it holds at each index of ys, which is xs with
-- x appended.
each_index-push : {X : Type 0} (P : ℕ → X → Type 0) (xs : List X) {ys : List X} (x : X)
    → ys ≡ xs ++ x ∷ []
    → ((t : ℕ) (y : X) → slice_get xs t ≡ Some y → P t y)
    → P (length xs) x
    → (t : ℕ) (y : X)
    → slice_get ys t ≡ Some y
    → P t y
each_index-push P xs x is before here t y at = go (cases_eq t (length xs))
  where
    -- The appended list has y at t.
    there : slice_get (xs ++ x ∷ []) t ≡ Some y
    there = ap (λ zs. slice_get zs t) (sym is) ∙ at

    -- By whether t is the index of the appended item.
    go : (t ≡ length xs) ⊎ (t ≡ length xs → ⊥) → P t y
    go (inl e) = subst (λ k. P k y) (sym e) (subst (P (length xs)) (same_Some x y (sym (slice_get-last xs x t e) ∙ there)) here)
    go (inr other) = before t y (sym (slice_get-push xs x t other) ∙ there)

module _ {A : Type 0} (program : List (List Instr)) (regs : List (List ℕ)) where
  -- Each of the first n threads has a processor in its initial state, with room for its stores.
  pub record AreStarted (n : ℕ) (processors : List (ProcessorInMemory A)) : Type 0 where
    pub start : map processor_of processors ≡ map initial_processor (take n regs)
    pub rooms : (t : ℕ) (p : ProcessorInMemory A)
        → slice_get processors t ≡ Some p
        → stores_from 0 (thread_code program t) ≤ p.buffer.room

  -- Before the first thread there is no processor.
  pub AreStarted-none : AreStarted 0 []
  AreStarted-none = record { start = refl; rooms = λ t p at. absurd (omega (arith, slice_get_within [] t p at)) }

  -- If each of the first n threads has a processor, appending an initial processor for the next thread, with room for its
  -- stores, gives one for each of the first n + 1.
  pub AreStarted-push : {n : ℕ} {processors next : List (ProcessorInMemory A)} (p : ProcessorInMemory A)
      → AreStarted n processors
      → n < length regs
      → next ≡ processors ++ p ∷ []
      → processor_of p ≡ initial_processor (get_or regs n [])
      → stores_from 0 (thread_code program n) ≤ p.buffer.room
      → AreStarted (n + 1) next
  AreStarted-push {n = n} {processors = processors} p so_far within is started roomy =
      let more : take (suc n) regs ≡ take n regs ++ get_or regs n [] ∷ [] = take-suc regs n [] within in
      let last : suc n ≡ n + 1 = omega arith in
      let many : length processors ≡ n =
      sym (length-map processors processor_of)
      ∙ ap length so_far.start
      ∙ length-map (take n regs) initial_processor
      ∙ length-take-le n regs (omega (arith, within)) in
      record {
        start =
            ap (map processor_of) is
            ∙ map-append processor_of processors (p ∷ [])
            ∙ rw (so_far.start, started, ← last, more) (sym (map-append initial_processor (take n regs) (get_or regs n [] ∷ [])));
        rooms = each_index-push _ processors p is so_far.rooms (rw many roomy);
      }

  -- If the processors `now` have the rooms of the processors `before`, which have room for their codes' stores, so do those of
  -- `now`.
  pub stores_fit-same_rooms : (before now : List (ProcessorInMemory A))
      → map (λ (p : ProcessorInMemory A). p.buffer.room) now ≡ map (λ (p : ProcessorInMemory A). p.buffer.room) before
      → ((t : ℕ) (p : ProcessorInMemory A) → slice_get before t ≡ Some p → stores_from 0 (thread_code program t) ≤ p.buffer.room)
      → (t : ℕ) (p : ProcessorInMemory A)
      → slice_get now t ≡ Some p
      → stores_from 0 (thread_code program t) ≤ p.buffer.room
  stores_fit-same_rooms before now same roomy t p at = go (slice_get before t) refl
    where
      -- The room of a processor's buffer.
      room : ProcessorInMemory A → ℕ
      room q = q.buffer.room

      -- The processor before has the same room.
      seen : option_map room (slice_get before t) ≡ Some (room p)
      seen =
          sym (slice_get-map room before t)
          ∙ ap (λ (rooms : List ℕ). slice_get rooms t) (sym same)
          ∙ slice_get-map room now t
          ∙ ap (option_map room) at

      -- By whether there was a processor t before.
      go : (o : Option (ProcessorInMemory A)) → slice_get before t ≡ o → stores_from 0 (thread_code program t) ≤ p.buffer.room
      go None e = absurd (let none = subst (λ o. option_map room o ≡ Some (room p)) e seen in cc)
      go (Some q) e =
          subst (λ (n : ℕ). stores_from 0 (thread_code program t) ≤ n)
          (same_Some (room q) (room p) (subst (λ o. option_map room o ≡ Some (room p)) e seen)) (roomy t q e)

  module _ {M : Type 0} (mem : Memory M) (inv : Invariant M) (locs : ℕ) (m : M) (processors : List (ProcessorInMemory A)) where
    -- If the processor that p represents is the initial one of optional registers, there are registers of which it is the
    -- initial one.
    starts_with : (t : ℕ) (p : ProcessorInMemory A) (o : Option (List ℕ))
        → Some (processor_of p) ≡ option_map initial_processor o
        → (r : List ℕ) × (processor_of p ≡ initial_processor r)
    starts_with t p None e = absurd cc
    starts_with t p (Some r) e = (r, same_Some (processor_of p) (initial_processor r) e)

    -- If the processors in memory are the initial ones of all threads, have room for their codes' stores, and are over a memory
    -- with the test's locations whose invariant holds, the machine is a reachable one.
    pub IsReachableMachine-start : inv.sound m
        → length (mem.content m) ≡ locs
        → length program ≤ inv.cpus m
        → length regs ≡ length program
        → map processor_of processors ≡ map initial_processor regs
        → ((t : ℕ) (p : ProcessorInMemory A)
        → slice_get processors t ≡ Some p
        → stores_from 0 (thread_code program t) ≤ p.buffer.room)
        → IsReachableMachine mem inv program locs m processors
    IsReachableMachine-start sound locations cpus many started roomy =
        let as_many = sym (length-map processors _) ∙ ap length started ∙ length-map regs initial_processor ∙ many in
        record {
          sound = sound;
          locations = locations;
          cpus = omega (arith, as_many, cpus);
          as_many = as_many;
          rooms = λ t p at.
              let seen =
              sym (slice_get-map processor_of processors t ∙ ap (option_map processor_of) at)
              ∙ ap (λ ps. slice_get ps t) started
              ∙ slice_get-map initial_processor regs t in
              let first = starts_with t p (slice_get regs t) seen in
              subst (λ q. HasRoom locs (thread_code program t) q p.buffer.room) (sym first.1)
              (record { fits = omega (arith, roomy t p at); entries_in_range = All-nil _ });
          whole = roomy;
        }
