-- Effects over flat memory that commute: those that do not conflict, and a step with a drain that it commutes
-- with. This is the core of the law that independent events commute, which `api/Neighbours` lifts from effects
-- to events.
use Rattle.lw_tso.proofs.Common.{◌≡◌, ◌≢◌, ℕ, Bool, true, false, if◌then◌else◌, List, ◌∷◌, Option, Some, None}
use Rattle.lw_tso.proofs.Common.{refl, sym, ap, ◌∙◌, subst, slice_set, slice_index, ne_eqb, true≢false}
use Rattle.lw_tso.proofs.Common.{get_or-set_other, option_or, set_comm, same_Some, unwrap_or, Operation, Load}
use Rattle.lw_tso.proofs.Common.{Set, Sum, Compare, Store, Branch, changed_word, is_write, value_returned}
use Rattle.lw_tso.proofs.Common.{words_after, Processor, newest_buffered, EventEffect, Refused, LocalStep}
use Rattle.lw_tso.proofs.Common.{MemoryAccess, Eviction, operation_effect, load_effect, accessed_location}
use Rattle.lw_tso.proofs.Common.{event_writes, Access, DoNotConflict, CommutesWithDrain}
use Rattle.lw_tso.proofs.api.Effects.{EffectLeadsTo}
use Rattle.lw_memory.specs.declared.request.Access.TheVariants as to

-- ---- two effects

-- If the words m and n have the same word at x, an access of x returns the same in both.
value_returned-same_word : (m n : List ℕ) (x : ℕ) (access : Access)
    → slice_index m x ≡ slice_index n x
    → value_returned m x access ≡ value_returned n x access
value_returned-same_word m n x (to.Store w) same = refl
value_returned-same_word m n x _ same = ap Some same

-- If an access of y does not write, or y is another location than x, the word at x is unchanged.
words_after-other_location : (m : List ℕ) (y : ℕ) (access : Access) (x : ℕ)
    → (y ≡ x → is_write access ≡ false)
    → slice_index (words_after m y access) x ≡ slice_index m x
words_after-other_location m y to.Load x free = refl
words_after-other_location m y _ x free = get_or-set_other m y x _ 0 (λ e. true≢false (free (sym e)))

-- If y is another location than x, writing w at x before or after an access of y gives the same words.
words_after-slice_set_other : (m : List ℕ) (y : ℕ) (access : Access) (x w : ℕ)
    → y ≢ x
    → slice_set (words_after m y access) x w ≡ words_after (slice_set m x w) y access
words_after-slice_set_other m y to.Load x w ne = refl
words_after-slice_set_other m y (to.Store v) x w ne = set_comm m y x v w ne
words_after-slice_set_other m y (to.Update change) x w ne =
    set_comm m y x _ w ne ∙ ap (λ k. slice_set (slice_set m x w) y (changed_word change k)) (sym (get_or-set_other m x y w 0 ne))

-- If an effect leads from the words m to n, and does not write x, the word at x is the same in both.
slice_index-effect_elsewhere : (act : EventEffect) (m n : List ℕ) (q : Processor) (x : ℕ)
    → EffectLeadsTo m act q n
    → (accessed_location act ≡ Some x → event_writes act ≡ false)
    → slice_index n x ≡ slice_index m x
slice_index-effect_elsewhere (LocalStep next) m n q x d free = ap (λ k. slice_index k x) d.1
slice_index-effect_elsewhere (MemoryAccess y access next) m n q x d free =
    ap (λ k. slice_index k x) d.1 ∙ words_after-other_location m y access x (λ e. free (ap Some e))
slice_index-effect_elsewhere _ m n q x d free = absurd d

-- If an effect that does not access x leads from m to n, it leads from m with w at x to n with w at x.
EffectLeadsTo-slice_set_other : (act : EventEffect) (m n : List ℕ) (q : Processor) (x w : ℕ)
    → EffectLeadsTo m act q n
    → (accessed_location act ≡ Some x → ⊥)
    → EffectLeadsTo (slice_set m x w) act q (slice_set n x w)
EffectLeadsTo-slice_set_other (LocalStep next) m n q x w d free = (d.0, ap (λ k. slice_set k x w) d.1)
EffectLeadsTo-slice_set_other (MemoryAccess y access next) m n q x w d free =
    let ne : y ≢ x = λ e. free (ap Some e) in
    let answer = value_returned-same_word m (slice_set m x w) y access (sym (get_or-set_other m x y w 0 ne)) in
    (d.0 ∙ ap (λ a. next (unwrap_or a 0)) answer, ap (λ k. slice_set k x w) d.1 ∙ words_after-slice_set_other m y access x w ne)
EffectLeadsTo-slice_set_other _ m n q x w d free = absurd d

-- If an effect leads from m to n, preserves the word at x, and does not access x if the access of x writes, then it leads from
-- m after that access to n after that access.
EffectLeadsTo-after_access : (act : EventEffect) (m n : List ℕ) (q : Processor) (x : ℕ) (access : Access)
    → EffectLeadsTo m act q n
    → (is_write access ≡ true → accessed_location act ≡ Some x → ⊥)
    → slice_index n x ≡ slice_index m x
    → EffectLeadsTo (words_after m x access) act q (words_after n x access)
EffectLeadsTo-after_access act m n q x to.Load d free same = d
EffectLeadsTo-after_access act m n q x (to.Store w) d free same = EffectLeadsTo-slice_set_other act m n q x w d (free refl)
EffectLeadsTo-after_access act m n q x (to.Update change) d free same =
    let word = changed_word change (slice_index m x) in
    subst (λ w. EffectLeadsTo (slice_set m x word) act q (slice_set n x (changed_word change w))) (sym same)
    (EffectLeadsTo-slice_set_other act m n q x word d (free refl))

-- Two effects in sequence lead from the words m to the words n: a leads to the processor p, and then b to q.
pub record LeadInSequence (a b : EventEffect) (p q : Processor) (m n : List ℕ) : Type 0 where
  pub between : List ℕ
  pub first : EffectLeadsTo m a p between
  pub second : EffectLeadsTo between b q n

-- If two effects do not conflict, and lead to a state in one order, they lead to it in the other order too.
pub LeadInSequence-swap : (a b : EventEffect) (p q : Processor) (m n : List ℕ)
    → DoNotConflict a b
    → LeadInSequence a b p q m n
    → LeadInSequence b a q p m n
LeadInSequence-swap a (LocalStep next) p q m n free done =
    record { between = m; first = (done.second.0, refl); second = subst (EffectLeadsTo m a p) (sym done.second.1) done.first }
LeadInSequence-swap a (MemoryAccess x access next) p q m n free done =
    let same = slice_index-effect_elsewhere a m done.between p x done.first (λ at. (free x at refl).0) in
    let apart : is_write access ≡ true → accessed_location a ≡ Some x → ⊥ =
    λ writes at. true≢false (sym writes ∙ (free x at refl).1) in
    record {
      between = words_after m x access;
      first = (done.second.0 ∙ ap (λ w. next (unwrap_or w 0)) (value_returned-same_word done.between m x access same), refl);
      second =
          subst (EffectLeadsTo (words_after m x access) a p) (sym done.second.1)
          (EffectLeadsTo-after_access a m done.between p x access done.first apart same);
    }
LeadInSequence-swap a _ p q m n free done = absurd done.second

-- ---- a step, with one more entry

-- The processor with this entry as its oldest, before all others in its buffer.
abbrev pub with_oldest : ℕ × ℕ → Processor → Processor
with_oldest entry p = record p { buffer = entry ∷ p.buffer }

-- The same effect of the processor with this entry as its oldest, which stays in the buffer.
abbrev pub effect_keeping_oldest : ℕ × ℕ → EventEffect → EventEffect
effect_keeping_oldest entry (Refused stop) = Refused stop
effect_keeping_oldest entry (LocalStep next) = LocalStep (with_oldest entry next)
effect_keeping_oldest entry (MemoryAccess x access next) = MemoryAccess x access (λ w. with_oldest entry (next w))
effect_keeping_oldest entry (Eviction x) = Eviction x

-- If an effect leads to the processor q, it leads, with an oldest entry that stays in the buffer, to q with this entry.
pub EffectLeadsTo-keeping_oldest : (entry : ℕ × ℕ) (act : EventEffect) (m n : List ℕ) (q : Processor)
    → EffectLeadsTo m act q n
    → EffectLeadsTo m (effect_keeping_oldest entry act) (with_oldest entry q) n
EffectLeadsTo-keeping_oldest entry (Refused stop) m n q d = absurd d
EffectLeadsTo-keeping_oldest entry (Eviction x) m n q d = absurd d
EffectLeadsTo-keeping_oldest entry _ m n q d = (ap (with_oldest entry) d.0, d.1)

-- If an effect with an oldest entry that stays in the buffer leads to q, then q is a processor `new` with this entry, and the
-- effect without it leads to `new`.
pub EffectLeadsTo-without_oldest : (entry : ℕ × ℕ) (act : EventEffect) (m n : List ℕ) (q : Processor)
    → EffectLeadsTo m (effect_keeping_oldest entry act) q n
    → (new : Processor) × (q ≡ with_oldest entry new) × EffectLeadsTo m act new n
EffectLeadsTo-without_oldest entry (LocalStep next) m n q d = (next, d.0, (refl, d.1))
EffectLeadsTo-without_oldest entry (MemoryAccess x access next) m n q d =
    (next (unwrap_or (value_returned m x access) 0), d.0, (refl, d.1))
EffectLeadsTo-without_oldest entry _ m n q d = absurd d

-- The effect `with_entry`, of a processor with this entry as its oldest, is `act` with the entry still in the buffer, and does not access
-- the entry's location.
pub record LeavesAlone (entry : ℕ × ℕ) (act with_entry : EventEffect) : Type 0 where
  pub same : with_entry ≡ effect_keeping_oldest entry act
  pub free : accessed_location act ≡ Some entry.0 → ⊥

-- A local step of the processor with the entry is the same step with the entry kept, and does not access the entry's location.
LeavesAlone-local_step : (entry : ℕ × ℕ) (next : Processor)
    → LeavesAlone entry (LocalStep next) (LocalStep (with_oldest entry next))
LeavesAlone-local_step entry next = record { same = refl; free = λ e. cc }

-- If y is another location than the entry's, a load of y by the processor with the entry is the same load with the entry kept,
-- and does not access the entry's location. The word that the buffer has for y without the entry is o.
LeavesAlone-load : (entry : ℕ × ℕ) (o : Option ℕ) (here : Bool) (y : ℕ) (next : ℕ → Processor)
    → here ≡ false
    → entry.0 ≢ y
    → LeavesAlone entry (load_effect o y next)
    (load_effect (option_or o (if here then Some entry.1 else None)) y (λ w. with_oldest entry (next w)))
LeavesAlone-load entry (Some w) here y next not ne = LeavesAlone-local_step entry (next w)
LeavesAlone-load entry None true y next not ne = absurd (true≢false not)
LeavesAlone-load entry None _ y next not ne = record { same = refl; free = λ e. ne (sym (same_Some y entry.0 e)) }

-- If an operation commutes with draining an entry for its location, its effect on the processor with this entry is the same
-- effect with the entry kept, and does not access the entry's location.
pub LeavesAlone-operation : (entry : ℕ × ℕ) (o : Operation) (p : Processor)
    → CommutesWithDrain entry.0 o
    → LeavesAlone entry (operation_effect o p) (operation_effect o (with_oldest entry p))
LeavesAlone-operation entry (Load d y) p may =
    LeavesAlone-load entry (newest_buffered p.buffer y) _ y _ (ne_eqb entry.0 y may) may
LeavesAlone-operation entry (Set d v) p may = LeavesAlone-local_step entry _
LeavesAlone-operation entry (Sum d a v) p may = LeavesAlone-local_step entry _
LeavesAlone-operation entry (Compare a v) p may = LeavesAlone-local_step entry _
LeavesAlone-operation entry (Store y v) p may = LeavesAlone-local_step entry _
LeavesAlone-operation entry (Branch c k) p may = LeavesAlone-local_step entry _
LeavesAlone-operation entry _ p may = absurd (true≢false may)
