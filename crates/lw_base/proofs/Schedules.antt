-- The text of an event determines the event, so a schedule is read in one way. For the law that a text is at
-- most one schedule.
use Rattle.lw_base.proofs.Common.{byte, ◌≡◌, ℕ, zero, suc, ◌<◌, ◌+◌, List, [], ◌∷◌, length, refl, sym, ap}
use Rattle.lw_base.proofs.Common.{◌∙◌, subst, arith, map, slice_index_or, Contains, AllByRecursion}
use Rattle.lw_base.proofs.Common.{Contains-get_or, Bytes, NameTable, IsDuplicateFree, IsNameTable, IsEvent}
use Rattle.lw_base.proofs.Common.{event_text, IsSchedule, Event, Step, Drain, Evict}
use Rattle.lw_base.proofs.api.Lists.{not-cons_eq-if_heads_differ}

-- In a table without duplicates two indices in range with the same name are equal.
pub name_index-unique : (names : NameTable) (i j : ℕ)
    → IsDuplicateFree names
    → i < length names
    → j < length names
    → slice_index_or names i [] ≡ slice_index_or names j []
    → i ≡ j
name_index-unique [] i j once l m e = absurd (omega arith)
name_index-unique (n ∷ names) zero zero once l m e = refl
name_index-unique (n ∷ names) zero (suc j) once l m e =
    absurd (once.0 (subst (Contains names) (sym e) (Contains-get_or names j [] (omega arith))))
name_index-unique (n ∷ names) (suc i) zero once l m e =
    absurd (once.0 (subst (Contains names) e (Contains-get_or names i [] (omega arith))))
name_index-unique (n ∷ names) (suc i) (suc j) once l m e =
    ap suc (name_index-unique names i j once.1 (omega arith) (omega arith) e)

-- If the table has no duplicates, two events of the test with the same text are equal.
event_text-injective : (names : NameTable)
    → IsDuplicateFree names
    → (e f : Event)
    → IsEvent names e
    → IsEvent names f
    → event_text names e ≡ event_text names f
    → e ≡ f
event_text-injective names once (Step c) (Step d) h k same =
    let e : (byte "0") + c ≡ byte "0" + d = cc in
    let g : c ≡ d = omega arith in
    ap Step g
event_text-injective names once (Step c) (Drain d) h k same =
    absurd (not-cons_eq-if_heads_differ 80 68 _ _ (λ differ. omega arith) same)
event_text-injective names once (Step c) (Evict d l) h k same =
    absurd (not-cons_eq-if_heads_differ 80 69 _ _ (λ differ. omega arith) same)
event_text-injective names once (Drain c) (Step d) h k same =
    absurd (not-cons_eq-if_heads_differ 68 80 _ _ (λ differ. omega arith) same)
event_text-injective names once (Drain c) (Drain d) h k same =
    let e : (byte "0") + c ≡ byte "0" + d = cc in
    let g : c ≡ d = omega arith in
    ap Drain g
event_text-injective names once (Drain c) (Evict d l) h k same =
    absurd (not-cons_eq-if_heads_differ 68 69 _ _ (λ differ. omega arith) same)
event_text-injective names once (Evict c l) (Step d) h k same =
    absurd (not-cons_eq-if_heads_differ 69 80 _ _ (λ differ. omega arith) same)
event_text-injective names once (Evict c l) (Drain d) h k same =
    absurd (not-cons_eq-if_heads_differ 69 68 _ _ (λ differ. omega arith) same)
event_text-injective names once (Evict c l) (Evict d m) h k same =
    let e : (byte "0") + c ≡ byte "0" + d = cc in
    let g : c ≡ d = omega arith in
    let n : slice_index_or names l [] ≡ slice_index_or names m [] = cc in
    let p = name_index-unique names l m once h.1 k.1 n in
    cc

-- If the table has no duplicates, two lists of events of the test with the same texts are equal.
event_texts-injective : (names : NameTable)
    → IsDuplicateFree names
    → (es fs : List Event)
    → AllByRecursion (IsEvent names) es
    → AllByRecursion (IsEvent names) fs
    → map (event_text names) es ≡ map (event_text names) fs
    → es ≡ fs
event_texts-injective names once [] [] h k same = refl
event_texts-injective names once (e ∷ es) (f ∷ fs) h k same =
    let front : event_text names e ≡ event_text names f = cc in
    let rest : map (event_text names) es ≡ map (event_text names) fs = cc in
    let p = event_text-injective names once e f h.0 k.0 front in
    let q = event_texts-injective names once es fs h.1 k.1 rest in
    cc
event_texts-injective names once _ _ h k same = absurd cc

-- For a table of names, a text is a schedule of at most one list of events.
pub IsSchedule-unique : (names : NameTable)
    → IsNameTable names
    → (text : Bytes) (events others : List Event)
    → IsSchedule names text events
    → IsSchedule names text others
    → events ≡ others
IsSchedule-unique names table text events others is also =
    event_texts-injective names table.without_duplicates events others is.0 also.0 (sym is.1 ∙ also.1)
