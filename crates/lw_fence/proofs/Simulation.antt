-- A source that lags behind the machine (`ThreadSimulation`), through whole runs: whatever the machine does, the source follows.
use Rattle.lw_fence.proofs.Common.{IsWellScopedSource, ◌≡◌, ℕ, ◌<◌, List, [], ◌∷◌, ◌++◌, length, map, Some}
use Rattle.lw_fence.proofs.Common.{refl, sym, subst, arith, slice_get, slice_set, slice_get_within}
use Rattle.lw_fence.proofs.Common.{thread_code, Event, Step, Drain, Evict, flat_memory, Thread, SourceTest}
use Rattle.lw_fence.proofs.Common.{X86Test, State, SourceRunsTo, state_of, cpu_of, event_effect, Processor}
use Rattle.lw_fence.proofs.Common.{MachineState, MachineRunsTo, state, EffectLeadsTo, EventOccurrence}
use Rattle.lw_fence.proofs.Common.{EventOccurrence-of_event, not-EffectLeadsTo-evict_event, IsCompiled}
use Rattle.lw_fence.proofs.Beside.{ThreadsCorrespond, ThreadsCorrespond-thread, ThreadsCorrespond-set}
use Rattle.lw_fence.proofs.ThreadSimulation.{ThreadSimulation, SourceFollows, SourceFollows-drain}
use Rattle.lw_fence.proofs.ThreadSimulation.{SourceFollows-step}
use Rattle.lw_fence.proofs.Moves.{SourceRunsTo-append}
use Rattle.lw_fence.proofs.CodeLayout.{IsFencedAsNeeded-at}
use Rattle.lw_fence.proofs.Steps.{IsAllowedStatement-in_source}

module _ (source : SourceTest) (program : X86Test) (starts : List (List ℕ)) where
  -- Thread t of the source lags behind its processor.
  abbrev pub LagAt : ℕ → Thread → Processor → Type 0
  LagAt t th c = ThreadSimulation (thread_code source.threads t) (thread_code program.threads t) (thread_code starts t) th c

  -- Each thread of the source lags behind its processor, over the machine's memory.
  abbrev pub SimulationRelation : State → MachineState (List ℕ) → Type 0
  SimulationRelation ss ms = ThreadsCorrespond source LagAt ss ms

  -- Some steps of the source reach a state that lags behind this state of the machine.
  pub record SimulatedToEnd (ss end : State) (ms : MachineState (List ℕ)) : Type 0 where
    pub order : List ℕ
    pub ran : SourceRunsTo source.threads (map Step order) ss end
    pub related : SimulationRelation end ms

  -- If thread t follows its processor, which has reached q over the memory n, the source follows the machine to its state `mid`.
  pub SimulatedToEnd-followed : (t : ℕ) (ss : State) (ms mid : MachineState (List ℕ)) (th : Thread) (c q : Processor) (n : List ℕ)
      → SimulationRelation ss ms
      → slice_get ss.threads t ≡ Some th
      → slice_get ms.processors t ≡ Some c
      → (followed : SourceFollows source.threads t (thread_code program.threads t) (thread_code starts t) th ms.memory q n)
      → mid ≡ state (slice_set ms.processors t q) n
      → SimulatedToEnd ss (state_of (slice_set ss.threads t followed.now) n) mid
  SimulatedToEnd-followed t ss ms mid th c q n b was processor_at followed is =
      let end = state_of (slice_set ss.threads t followed.now) n in
      record {
        order = followed.moves.order;
        ran = rw b.words at (followed.moves.on ss.threads was);
        related =
            subst (SimulationRelation end) (sym is)
            (ThreadsCorrespond-set source LagAt ss ms b t th followed.now c q n was processor_at followed.simulated);
      }

  -- If the source follows to one state, and from there to another, it follows to the other.
  pub SimulatedToEnd-trans : {ss : State} (mid end : State) {ms over : MachineState (List ℕ)}
      → SimulatedToEnd ss mid ms
      → SimulatedToEnd mid end over
      → SimulatedToEnd ss end over
  SimulatedToEnd-trans {ss = ss} mid end a b = record {
    order = a.order ++ b.order;
    ran = SourceRunsTo-append source.threads a.order b.order ss mid end a.ran b.ran;
    related = b.related;
  }

  -- If the source already lags behind the machine, no step is needed.
  pub SimulatedToEnd-refl : {ss : State} {ms : MachineState (List ℕ)} → SimulationRelation ss ms → SimulatedToEnd ss ss ms
  SimulatedToEnd-refl b = record { order = []; ran = refl; related = b }

module _ (source : SourceTest) (program : X86Test) (starts : List (List ℕ)) (well_scoped : IsWellScopedSource source)
    (compiled : IsCompiled source program starts) where
  -- If thread t of the source lags behind its processor c, the source follows an event of t that leads from c to q and the
  -- memory n.
  SourceFollows-event : (e : Event) (ss : State) (ms : MachineState (List ℕ)) (th : Thread) (c q : Processor) (n : List ℕ)
      → cpu_of e < length source.threads
      → LagAt source program starts (cpu_of e) th c
      → EffectLeadsTo ms.memory (event_effect program.threads (length ms.memory) e c) q n
      → SourceFollows source.threads (cpu_of e) (thread_code program.threads (cpu_of e)) (thread_code starts (cpu_of e)) th
      ms.memory q n
  SourceFollows-event (Step t) ss ms th c q n lt simulated d =
      SourceFollows-step source.threads t (thread_code program.threads t) (thread_code starts t)
      (IsAllowedStatement-in_source source well_scoped t) (IsFencedAsNeeded-at source program starts compiled t lt) th c ms.memory
      simulated.ahead simulated.pending_stores simulated.in_bounds simulated.stage q n d
  SourceFollows-event (Drain t) ss ms th c q n lt simulated d = SourceFollows-drain source.threads t ms.memory q n simulated d
  SourceFollows-event (Evict t x) ss ms th c q n lt simulated d =
      absurd (not-EffectLeadsTo-evict_event program.threads (length ms.memory) t x c q ms.memory n d)

  -- If the source lags behind the machine, then after each event of the machine some steps lead it to a state that lags behind
  -- the machine.
  SimulatedToEnd-event : (e : Event) (ss : State) (ms mid : MachineState (List ℕ))
      → SimulationRelation source program starts ss ms
      → EventOccurrence program.threads e ms mid
      → (end : State) × SimulatedToEnd source program starts ss end mid
  SimulatedToEnd-event e ss ms mid b did =
      let t = cpu_of e in
      let in_range : t < length source.threads =
      omega (arith, slice_get_within ms.processors t did.from did.was, b.as_many_processors) in
      let th = ThreadsCorrespond-thread source (LagAt source program starts) ss ms b t in_range in
      let f = SourceFollows-event e ss ms _ did.from did.to did.words in_range (b.at t th.0 did.from th.1 did.was) did.does in
      (_, SimulatedToEnd-followed source program starts t ss ms mid th.0 did.from did.to did.words b th.1 did.was f did.state_is)

  -- If the source lags behind the machine, then after each run of the machine some steps lead it to a state that lags behind
  -- the machine.
  pub SimulatedToEnd-run : (es : List Event) (ss : State) {ms : MachineState (List ℕ)} (last : MachineState (List ℕ))
      → SimulationRelation source program starts ss ms
      → MachineRunsTo flat_memory program.threads es ms last
      → (end : State) × SimulatedToEnd source program starts ss end last
  SimulatedToEnd-run [] ss last b ran =
      (ss, SimulatedToEnd-refl source program starts (subst (λ a. SimulationRelation source program starts ss a) (sym ran) b))
  SimulatedToEnd-run (e ∷ es) ss {ms = ms} last b ran =
      let a = SimulatedToEnd-event e ss ms ran.0 b (EventOccurrence-of_event program.threads e ms ran.0 ran.1) in
      let c = SimulatedToEnd-run es a.0 last a.1.related ran.2 in
      (c.0, SimulatedToEnd-trans source program starts a.0 c.0 a.1 c.1)
