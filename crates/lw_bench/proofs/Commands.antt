-- Which task or protocol the words of a command line name, case by case of the comparisons that the code
-- makes. The contracts of `command_of` and the functions that it calls are proved by these lemmas.
use Rattle.lw_bench.proofs.Common.{◌≡◌, ◌≤◌, ◌<◌, ◌-◌, ◌==◌, ℕ, Bool, true, false, not, nat_eq, Option, Some}
use Rattle.lw_bench.proofs.Common.{None, List, [], ◌∷◌, length, map, take, drop, inl, inr, refl, sym, ap, ◌∙◌}
use Rattle.lw_bench.proofs.Common.{subst, codes, arith, Bor, MatchOption, slice_index_or, take_all}
use Rattle.lw_bench.proofs.Common.{unsigned_Decides, pointwise, pointwise_decides, HoldsOfNothing}
use Rattle.lw_bench.proofs.Common.{cons-head_eq, Protocol, Task, States, Compile, Schedules, protocol_name}
use Rattle.lw_bench.proofs.Common.{IsProtocolOption, IsCommand}
use Rattle.lw_bench.specs.declared.command.Task.TheVariants.{Replay}

-- The arguments in memory.
abbrev pub Arguments : Type 0
Arguments = List (Bor (List ℕ))

-- The bytes of the arguments.
abbrev pub argument_texts : Arguments → List (List ℕ)
argument_texts words = map (λ (w : Bor (List ℕ)). w.now) words

-- The default past the last argument: an empty text.
abbrev pub no_argument : Bor (List ℕ)
no_argument = record { ref_ptr = (0, 0); now = [] }

-- The bytes of the argument at an index; empty past the last.
abbrev pub argument_at : Arguments → ℕ → List ℕ
argument_at words k = (slice_index_or words k no_argument).now

-- The arguments after the first.
abbrev arguments_after_first : Arguments → Arguments
arguments_after_first words = take (length words - 1) (drop 1 words)

-- The result r is right by the definition `Is`: its value is the arguments', and if it has none they have none.
abbrev IsResultOf : {X : Type 0} → (List (List ℕ) → X → Type 0) → List (List ℕ) → Option X → Type 0
IsResultOf Is words r = MatchOption r (HoldsOfNothing (Is words)) (Is words)

-- Equal lists of arguments have equal tails.
cons-injective_tail : {a b : List ℕ} {l k : List (List ℕ)} → a ∷ l ≡ b ∷ k → l ≡ k
cons-injective_tail same = cc

-- The empty list has no first item.
not-nil_eq_cons : (a : List ℕ) (l : List (List ℕ)) → [] ≡ a ∷ l → ⊥
not-nil_eq_cons a l same = cc

-- If the comparison says that two arguments do not differ, they are equal.
texts_equal-by_test : (a b : List ℕ) (differs : Bool) → differs ≡ not (pointwise nat_eq a b) → differs ≡ false → a ≡ b
texts_equal-by_test a b differs is same =
    (pointwise_decides unsigned_Decides a b).0 (not-cases (pointwise nat_eq a b) (sym is ∙ same))
  where
    -- If the negation of a test is false, the test is true.
    not-cases : (b : Bool) → not b ≡ false → b ≡ true
    not-cases true e = refl
    not-cases false e = cc

-- If the comparison says that two arguments differ, they are unequal.
not-texts_eq-by_test : (a b : List ℕ) (differs : Bool) → differs ≡ not (pointwise nat_eq a b) → differs ≡ true → a ≡ b → ⊥
not-texts_eq-by_test a b differs is other same =
    not-cases (pointwise nat_eq a b) ((pointwise_decides unsigned_Decides a b).1 same) (sym is ∙ other)
  where
    -- If a test is true, its negation is not.
    not-cases : (b : Bool) → b ≡ true → not b ≡ true → ⊥
    not-cases true e n = cc
    not-cases false e n = cc

-- The bytes of all arguments are those of the first, followed by those of the others.
texts-first_and_rest : (words : Arguments)
    → 1 ≤ length words
    → argument_texts words ≡ argument_at words 0 ∷ argument_texts (arguments_after_first words)
texts-first_and_rest [] many = absurd (omega (arith, many))
texts-first_and_rest (x ∷ rest) many =
    ap (λ (l : Arguments). x.now ∷ argument_texts l) (sym (take_all (length (x ∷ rest) - 1) rest (omega arith)))

-- The bytes of two arguments are those at index 0 and at index 1.
two_arguments : (words : Arguments)
    → 2 ≤ length words
    → length words < 3
    → argument_texts words ≡ argument_at words 0 ∷ argument_at words 1 ∷ []
two_arguments (x ∷ y ∷ []) many few = refl
two_arguments (x ∷ y ∷ z ∷ rest) many few = absurd (omega (arith, few))
two_arguments _ many few = absurd (omega (arith, many))

-- ---- the option

module _ (words : Arguments) (many : 2 ≤ length words) (few : length words < 3) (differs : Bool)
    (is : differs ≡ not (pointwise nat_eq (argument_at words 0) (codes "--protocol"))) where
  -- If the first of two arguments is `--protocol`, they name the protocol that the second names, or none.
  pub IsResultOf-IsProtocolOption : (r : Option Protocol)
      → differs ≡ false
      → MatchOption r (HoldsOfNothing (λ p. protocol_name p ≡ argument_at words 1)) (λ p. protocol_name p ≡ argument_at words 1)
      → IsResultOf IsProtocolOption (argument_texts words) r
  IsResultOf-IsProtocolOption (Some p) same known =
      inl (two_arguments words many few
      ∙ ap (λ n. n ∷ argument_at words 1 ∷ []) (texts_equal-by_test (argument_at words 0) (codes "--protocol") differs is same)
      ∙ ap (λ n. codes "--protocol" ∷ n ∷ []) (sym known))
  IsResultOf-IsProtocolOption None same none = go
    where
      -- If the second argument names no protocol, the two arguments name none.
      go : (p : Protocol) → IsProtocolOption (argument_texts words) p → ⊥
      go p (inl e) = none p (sym (cons-head_eq _ _ _ _ (cons-injective_tail (sym (two_arguments words many few) ∙ e))))
      go p (inr e) = not-nil_eq_cons _ _ (sym e.0 ∙ two_arguments words many few)

  -- If the first of two arguments is not `--protocol`, they name no protocol.
  pub not-IsProtocolOption-if_other_word : (p : Protocol) → differs ≡ true → IsProtocolOption (argument_texts words) p → ⊥
  not-IsProtocolOption-if_other_word p other (inl e) =
      not-texts_eq-by_test _ _ _ is other (cons-head_eq _ _ _ _ (sym (two_arguments words many few) ∙ e))
  not-IsProtocolOption-if_other_word p other (inr e) = not-nil_eq_cons _ _ (sym e.0 ∙ two_arguments words many few)

-- One argument, or more than two, name no protocol.
pub not-IsProtocolOption-if_other_count : (words : Arguments) (p : Protocol)
    → (length words ≡ 2 → ⊥)
    → (length words == 0) ≡ false
    → IsProtocolOption (argument_texts words) p
    → ⊥
not-IsProtocolOption-if_other_count [] p other some said = cc
not-IsProtocolOption-if_other_count (x ∷ []) p other some (inl e) = not-nil_eq_cons _ _ (cons-injective_tail e)
not-IsProtocolOption-if_other_count (x ∷ y ∷ []) p other some said = other refl
not-IsProtocolOption-if_other_count (x ∷ y ∷ z ∷ words) p other some (inl e) =
    not-nil_eq_cons _ _ (sym (cons-injective_tail (cons-injective_tail e)))
not-IsProtocolOption-if_other_count (x ∷ words) p other some (inr e) = not-nil_eq_cons _ _ (sym e.0)

-- ---- a task, by its name

-- Nothing follows the name of a command other than `replay`.
nothing_after_command : (name : List ℕ) (l : List (List ℕ)) (t : Task)
    → (name ≡ codes "replay" → ⊥)
    → IsCommand (name ∷ l) t
    → l ≡ []
nothing_after_command name l (Replay schedule protocol) other said = absurd (other (cons-head_eq _ _ _ _ said.1))
nothing_after_command name l States other said = cons-injective_tail said
nothing_after_command name l Compile other said = cons-injective_tail said
nothing_after_command name l Schedules other said = cons-injective_tail said

-- If the first argument is the name of a task without further arguments, all arguments name that task if it is the only one, and none
-- otherwise.
pub IsResultOf-IsCommand_one_word : (words : Arguments) (name : List ℕ) (task : Task) (r : Option Task)
    → 1 ≤ length words
    → argument_at words 0 ≡ name
    → (name ≡ codes "replay" → ⊥)
    → IsCommand (name ∷ []) task
    → MatchOption r (arguments_after_first words ≡ [] → ⊥) (λ given. (arguments_after_first words ≡ []) × (given ≡ task))
    → IsResultOf IsCommand (argument_texts words) r
IsResultOf-IsCommand_one_word words name task r many is other named = go r
  where
    -- The arguments are the first, which is the name, followed by the others.
    texts_split : argument_texts words ≡ name ∷ argument_texts (arguments_after_first words)
    texts_split = texts-first_and_rest words many ∙ ap (λ n. n ∷ argument_texts (arguments_after_first words)) is

    -- By whether arguments follow the first.
    go : (r : Option Task)
        → MatchOption r (arguments_after_first words ≡ [] → ⊥) (λ given. (arguments_after_first words ≡ []) × (given ≡ task))
        → IsResultOf IsCommand (argument_texts words) r
    go (Some given) told =
        subst (λ l. IsCommand l given) (sym (texts_split ∙ ap (λ (o : Arguments). name ∷ argument_texts o) told.0))
        (subst (IsCommand (name ∷ [])) (sym told.1) named)
    go None none =
        λ t said. none (texts_empty-inv _ (nothing_after_command _ _ t other (subst (λ l. IsCommand l t) texts_split said)))
      where
        -- If there are no texts of arguments, there are no arguments.
        texts_empty-inv : (o : Arguments) → argument_texts o ≡ [] → o ≡ []
        texts_empty-inv [] e = refl
        texts_empty-inv (x ∷ o) e = absurd (not-nil_eq_cons _ _ (sym e))

-- If the first argument is `replay`, the task of all arguments is that of `replay` with the others.
pub IsResultOf-IsCommand_replay : (words : Arguments) (r : Option Task)
    → 1 ≤ length words
    → argument_at words 0 ≡ codes "replay"
    → IsResultOf IsCommand (codes "replay" ∷ argument_texts (arguments_after_first words)) r
    → IsResultOf IsCommand (argument_texts words) r
IsResultOf-IsCommand_replay words r many is told =
    subst (λ l. IsResultOf IsCommand l r)
    (sym (texts-first_and_rest words many ∙ ap (λ n. n ∷ argument_texts (arguments_after_first words)) is)) told

-- If the arguments after the schedule are no option of a protocol, `replay` with the schedule and these is no command.
pub not-IsCommand-if_bad_option : (words : Arguments)
    → 1 ≤ length words
    → HoldsOfNothing (IsProtocolOption (argument_texts (arguments_after_first words)))
    → (task : Task)
    → IsCommand (codes "replay" ∷ argument_texts words) task
    → ⊥
not-IsCommand-if_bad_option words many none (Replay schedule protocol) said =
    let after_it =
    cons-injective_tail (cons-injective_tail (ap (λ l. codes "replay" ∷ l) (sym (texts-first_and_rest words many)) ∙ said.1)) in
    none protocol (subst (λ l. IsProtocolOption l protocol) (sym after_it) said.2)
not-IsCommand-if_bad_option words many none Compile said = omega (arith, cons-head_eq 114 99 _ _ (cons-head_eq _ _ _ _ said))
not-IsCommand-if_bad_option words many none _ said = omega (arith, cons-head_eq 114 115 _ _ (cons-head_eq _ _ _ _ said))

-- The empty list of arguments names no task.
pub not-IsCommand-if_no_arguments : (words : Arguments) (t : Task) → length words < 1 → IsCommand (argument_texts words) t → ⊥
not-IsCommand-if_no_arguments (x ∷ words) t few said = absurd (omega (arith, few))
not-IsCommand-if_no_arguments [] (Replay schedule protocol) few said = not-nil_eq_cons _ _ said.1
not-IsCommand-if_no_arguments [] States few said = not-nil_eq_cons _ _ said
not-IsCommand-if_no_arguments [] Compile few said = not-nil_eq_cons _ _ said
not-IsCommand-if_no_arguments [] Schedules few said = not-nil_eq_cons _ _ said

-- If the first argument is none of the four names, the arguments name no task.
pub not-IsCommand-if_other_word : (words : Arguments) (t : Task)
    → 1 ≤ length words
    → (argument_at words 0 ≡ codes "states" → ⊥)
    → (argument_at words 0 ≡ codes "compile" → ⊥)
    → (argument_at words 0 ≡ codes "schedules" → ⊥)
    → (argument_at words 0 ≡ codes "replay" → ⊥)
    → IsCommand (argument_texts words) t
    → ⊥
not-IsCommand-if_other_word words t many states compile schedules replay said =
    go t (subst (λ l. IsCommand l t) (texts-first_and_rest words many) said)
  where
    -- By the rule by which arguments name a task: each begins with another name.
    go : (t : Task) → IsCommand (argument_at words 0 ∷ argument_texts (arguments_after_first words)) t → ⊥
    go States said = states (cons-head_eq _ _ _ _ said)
    go Compile said = compile (cons-head_eq _ _ _ _ said)
    go Schedules said = schedules (cons-head_eq _ _ _ _ said)
    go (Replay schedule protocol) said = replay (cons-head_eq _ _ _ _ said.1)
