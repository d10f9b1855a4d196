-- The effect of a step, operation by operation, in the terms of a thread's run: the thread, its buffer and
-- memory after it. ToMachine and FromMachine compare a processor's step with the step of an execution's
-- thread by this.
use Rattle.lw_axiomatic.proofs.Common.{◌≡◌, ℕ, true, false, true≢false, List, [], ◌∷◌, ◌++◌, Option, Some}
use Rattle.lw_axiomatic.proofs.Common.{None, refl, sym, ap, ◌∙◌, slice_set, slice_index, operand_value}
use Rattle.lw_axiomatic.proofs.Common.{FenceWaits, SwapWaits, Operation, Set, Sum, Compare, Store, Load}
use Rattle.lw_axiomatic.proofs.Common.{Fence, Branch, needs_empty_buffer, Processor, newest_buffered}
use Rattle.lw_axiomatic.proofs.Common.{advance_processor, cond-true, if◌then◌else◌, is_locked, set_register}
use Rattle.lw_axiomatic.proofs.Common.{operation_effect, load_effect, EffectLeadsTo, ThreadState, state_after}
use Rattle.lw_axiomatic.proofs.Common.{word_written, reads, location_of, EffectLeadsTo-if_buffer_empty}
use Rattle.lw_axiomatic.proofs.EventKinds.{location_of-if_reads}

-- A processor without its buffer.
abbrev pub thread_of : Processor → ThreadState
thread_of p = record { position = p.position; regs = p.regs; zero_flag = p.zero_flag }

-- The word that was found, or the default.
abbrev pub found_or : Option ℕ → ℕ → ℕ
found_or None w = w
found_or (Some v) w = v

-- The word of a location for a processor with this buffer: its own newest, or memory's.
abbrev pub word_seen : List (ℕ × ℕ) → List ℕ → ℕ → ℕ
word_seen buffer m x = found_or (newest_buffered buffer x) (slice_index m x)

-- The word of a location for a processor, if there is a location, and 0 otherwise.
abbrev pub word_seen_at : Option ℕ → List (ℕ × ℕ) → List ℕ → ℕ
word_seen_at None buffer m = 0
word_seen_at (Some x) buffer m = word_seen buffer m x

-- The word that an operation reads, with this buffer and memory; 0 if it reads none.
abbrev pub word_for : Operation → List (ℕ × ℕ) → List ℕ → ℕ
word_for o buffer m = if reads o then word_seen_at (location_of o) buffer m else 0

-- The store buffer after an operation: with one more entry if it is a store.
abbrev pub buffer_after : Operation → Processor → List (ℕ × ℕ)
buffer_after (Store x v) p = p.buffer ++ (x, operand_value v p.regs) ∷ []
buffer_after o p = p.buffer

-- Memory with this word at the location, if there is one.
abbrev pub word_put : Option ℕ → ℕ → List ℕ → List ℕ
word_put None w m = m
word_put (Some x) w m = slice_set m x w

-- Memory after an operation: with its word if it is locked.
abbrev pub memory_after : Operation → List ℕ → List ℕ → ℕ → List ℕ
memory_after o regs m w = if is_locked o then word_put (location_of o) (word_written o regs w) m else m

-- The thread of an operation's processor, its buffer and memory after the step, and the empty buffer that it waited for.
pub record StepCase (o : Operation) (p q : Processor) (m n : List ℕ) : Type 0 where
  pub thread : thread_of q ≡ state_after o (thread_of p) (word_for o p.buffer m)
  pub buffer : q.buffer ≡ buffer_after o p
  pub memory : n ≡ memory_after o p.regs m (word_for o p.buffer m)
  pub waited : needs_empty_buffer o ≡ true → p.buffer ≡ []

-- A step that leads to a processor r with the operation's thread and buffer, preserves memory and waits for nothing satisfies `StepCase`.
StepCase-of_thread_only : {q r : Processor} {m n : List ℕ} (o : Operation) (p : Processor)
    → (q ≡ r) × (n ≡ m)
    → thread_of r ≡ state_after o (thread_of p) (word_for o p.buffer m)
    → r.buffer ≡ buffer_after o p
    → m ≡ memory_after o p.regs m (word_for o p.buffer m)
    → needs_empty_buffer o ≡ false
    → StepCase o p q m n
StepCase-of_thread_only o p d thread buffer memory free = record {
  thread = ap thread_of d.0 ∙ thread;
  buffer = ap (λ (s : Processor). s.buffer) d.0 ∙ buffer;
  memory = d.1 ∙ memory;
  waited = λ w. absurd (true≢false (sym w ∙ free));
}

-- A load's step satisfies `StepCase`, whether its word comes from the store buffer or from memory.
StepCase-load : (d x : ℕ) (p q : Processor) (m n : List ℕ) (f : Option ℕ)
    → newest_buffered p.buffer x ≡ f
    → EffectLeadsTo m (load_effect f x (λ w. advance_processor (set_register p d w))) q n
    → StepCase (Load d x) p q m n
StepCase-load d x p q m n None e does =
    StepCase-of_thread_only (Load d x) p does
    (ap (λ w. state_after (Load d x) (thread_of p) w) (ap (λ f. found_or f (slice_index m x)) (sym e))) refl refl refl
StepCase-load d x p q m n (Some v) e does =
    StepCase-of_thread_only (Load d x) p does
    (ap (λ w. state_after (Load d x) (thread_of p) w) (ap (λ f. found_or f (slice_index m x)) (sym e))) refl refl refl

-- A step of each operation satisfies `StepCase`.
pub StepCase-EffectLeadsTo : (o : Operation) (p q : Processor) (m n : List ℕ)
    → EffectLeadsTo m (operation_effect o p) q n
    → StepCase o p q m n
StepCase-EffectLeadsTo (Set d v) p q m n does = StepCase-of_thread_only (Set d v) p does refl refl refl refl
StepCase-EffectLeadsTo (Sum d a v) p q m n does = StepCase-of_thread_only (Sum d a v) p does refl refl refl refl
StepCase-EffectLeadsTo (Compare a v) p q m n does = StepCase-of_thread_only (Compare a v) p does refl refl refl refl
StepCase-EffectLeadsTo (Store x v) p q m n does = StepCase-of_thread_only (Store x v) p does refl refl refl refl
StepCase-EffectLeadsTo (Load d x) p q m n does = StepCase-load d x p q m n (newest_buffered p.buffer x) refl does
StepCase-EffectLeadsTo Fence p q m n does =
    let e = EffectLeadsTo-if_buffer_empty p.buffer FenceWaits _ m n q does in
    record { thread = ap thread_of e.1.0; buffer = ap (λ (s : Processor). s.buffer) e.1.0; memory = e.1.1; waited = λ _. e.0 }
StepCase-EffectLeadsTo (Branch c to) p q m n does = StepCase-of_thread_only (Branch c to) p does refl refl refl refl
StepCase-EffectLeadsTo o p q m n does =
    let e = EffectLeadsTo-if_buffer_empty p.buffer SwapWaits _ m n q does in
    let w : word_for o [] m ≡ word_for o p.buffer m = ap (λ b. word_for o b m) (sym e.0) in
    record {
      thread = ap thread_of e.1.0 ∙ ap (λ w. state_after o (thread_of p) w) w;
      buffer = ap (λ (s : Processor). s.buffer) e.1.0;
      memory = e.1.1 ∙ ap (λ w. memory_after o p.regs m w) w;
      waited = λ _. e.0;
    }

-- The word that an operation reads is the one that its processor sees at its location.
pub word_for-reads : (o : Operation) (b : List (ℕ × ℕ)) (m : List ℕ)
    → reads o ≡ true
    → (l : ℕ) × (location_of o ≡ Some l) × (word_for o b m ≡ word_seen b m l)
word_for-reads o b m e =
    let l = location_of-if_reads o e in (l.0, l.1, cond-true (reads o) _ 0 e ∙ ap (λ q. word_seen_at q b m) l.1)
