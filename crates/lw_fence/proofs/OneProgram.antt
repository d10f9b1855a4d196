-- A source has at most one compiled program. With `SomeProgram` it has exactly one, so 'the compiled program'
-- is a definition.
use Rattle.lw_fence.proofs.Common.{◌≡◌, ℕ, suc, List, [], ◌∷◌, length, Some, Bool, true, false, refl, sym, ap}
use Rattle.lw_fence.proofs.Common.{ap₂, ◌∙◌, arith, slice_get, slice_get_within, slice_get-in_range, Instr}
use Rattle.lw_fence.proofs.Common.{Stmt, SourceTest, X86Test, lowered_code, starts_from, IsCompiledThread}
use Rattle.lw_fence.proofs.Common.{IsCompiled}

-- Two lists of the same length with equal items are equal.
lists_equal-at_each_index : {X : Type 0} (xs ys : List X)
    → length xs ≡ length ys
    → ((k : ℕ) (x y : X) → slice_get xs k ≡ Some x → slice_get ys k ≡ Some y → x ≡ y)
    → xs ≡ ys
lists_equal-at_each_index [] [] as_many same = refl
lists_equal-at_each_index [] (y ∷ ys) as_many same = absurd (omega arith)
lists_equal-at_each_index (x ∷ xs) [] as_many same = absurd (omega arith)
lists_equal-at_each_index {X} (x ∷ xs) (y ∷ ys) as_many same =
    ap₂ (λ (z : X) (zs : List X). z ∷ zs) (same 0 x y refl refl)
    (lists_equal-at_each_index xs ys (omega arith) (λ k a b at and. same (suc k) a b at and))

-- If two lists of flags have the same length, and are set at the same indices, they are equal.
flags_equal-same_set : (fs gs : List Bool)
    → length fs ≡ length gs
    → ((k : ℕ) → slice_get fs k ≡ Some true → slice_get gs k ≡ Some true)
    → ((k : ℕ) → slice_get gs k ≡ Some true → slice_get fs k ≡ Some true)
    → fs ≡ gs
flags_equal-same_set fs gs as_many to from = lists_equal-at_each_index fs gs as_many flags_same_at
  where
    -- The flags a and b at an index are equal.
    flags_same_at : (k : ℕ) (a b : Bool) → slice_get fs k ≡ Some a → slice_get gs k ≡ Some b → a ≡ b
    flags_same_at k true true found_at f = refl
    flags_same_at k false false found_at f = refl
    flags_same_at k true false e f = let g = to k e in cc
    flags_same_at k false true e f = let g = from k f in cc

module _ (code : List Stmt) (instrs others : List Instr) (starts begins : List ℕ) (c : IsCompiledThread code instrs starts)
    (d : IsCompiledThread code others begins) where
  -- Two compilations of a thread have the same fences, since both set exactly the flags of the loads that need one.
  fences_equal : c.fences ≡ d.fences
  fences_equal =
      flags_equal-same_set c.fences d.fences (c.as_many ∙ sym d.as_many) (λ k e. (d.needed k).1 ((c.needed k).0 e))
      (λ k e. (c.needed k).1 ((d.needed k).0 e))

  -- They have the same starts, which the fences determine.
  starts_equal : starts ≡ begins
  starts_equal = c.starts_are ∙ ap (λ fs. starts_from 0 fs code) fences_equal ∙ sym d.starts_are

  -- They have the same instructions, which the fences and the starts determine.
  instrs_equal : instrs ≡ others
  instrs_equal = c.instrs_are ∙ ap₂ (λ s fs. lowered_code s fs code) starts_equal fences_equal ∙ sym d.instrs_are

module _ (s : SourceTest) (p q : X86Test) (starts begins : List (List ℕ)) (c : IsCompiled s p starts)
    (d : IsCompiled s q begins) where
  -- Two compiled programs of a source have the same threads.
  threads_equal : p.threads ≡ q.threads
  threads_equal = lists_equal-at_each_index p.threads q.threads (c.as_many ∙ sym d.as_many) codes_same_at
    where
      -- The codes at an index are equal.
      codes_same_at : (t : ℕ) (x y : List Instr) → slice_get p.threads t ≡ Some x → slice_get q.threads t ≡ Some y → x ≡ y
      codes_same_at t x y thread_at f =
          let lt = slice_get_within p.threads t x thread_at in
          let code = slice_get-in_range s.threads t (omega (arith, lt, c.as_many)) in
          let a = slice_get-in_range starts t (omega (arith, lt, c.as_many, c.as_many_starts)) in
          let b = slice_get-in_range begins t (omega (arith, lt, c.as_many, d.as_many_starts)) in
          instrs_equal code.0 x y a.0 b.0 (c.threads t code.0 x a.0 code.1 thread_at a.1) (d.threads t code.0 y b.0 code.1 f b.1)

  -- Two compiled programs of a source have the same starts.
  all_starts_equal : starts ≡ begins
  all_starts_equal = lists_equal-at_each_index starts begins (c.as_many_starts ∙ sym d.as_many_starts) starts_same_at
    where
      -- The starts at an index are equal.
      starts_same_at : (t : ℕ) (x y : List ℕ) → slice_get starts t ≡ Some x → slice_get begins t ≡ Some y → x ≡ y
      starts_same_at t x y found_at f =
          let lt = slice_get_within starts t x found_at in
          let code = slice_get-in_range s.threads t (omega (arith, lt, c.as_many_starts)) in
          let a = slice_get-in_range p.threads t (omega (arith, lt, c.as_many, c.as_many_starts)) in
          let b = slice_get-in_range q.threads t (omega (arith, lt, d.as_many, c.as_many_starts)) in
          starts_equal code.0 a.0 b.0 x y (c.threads t code.0 a.0 x code.1 a.1 found_at) (d.threads t code.0 b.0 y code.1 b.1 f)

  -- The compiled program of a source is unique, and so are its starts.
  pub IsCompiled-unique : (p ≡ q) × (starts ≡ begins)
  IsCompiled-unique = (tests_equal, all_starts_equal)
    where
      -- The heads are both that of the source.
      heads_equal : p.head ≡ q.head
      heads_equal = c.head ∙ sym d.head

      -- So the tests are equal.
      tests_equal : p ≡ q
      tests_equal = ap₂ (λ h ts. let t : X86Test = record { head = h; threads = ts } in t) heads_equal threads_equal
