-- The threads of a test, compiled in sequence. Lemmas for the loop of `compile_threads`.
use Rattle.lw_fence.proofs.Common.{◌≡◌, ℕ, ◌+◌, ◌⊎◌, inl, inr, List, [], ◌∷◌, ◌++◌, length, length-append}
use Rattle.lw_fence.proofs.Common.{Some, sym, ap, ◌∙◌, subst, subst₂, arith, slice_get, same_Some}
use Rattle.lw_fence.proofs.Common.{slice_get_within, slice_get-append_cases, Stmt, Instr, IsCompiledThread}

-- The first n threads of the source are compiled, to these instructions and starts.
pub record AreCompiled (codes : List (List Stmt)) (n : ℕ) (threads : List (List Instr)) (starts : List (List ℕ)) : Type 0 where
  pub as_many : length threads ≡ n
  pub as_many_starts : length starts ≡ n
  pub each : (t : ℕ) (code : List Stmt) (instrs : List Instr) (begins : List ℕ)
      → slice_get codes t ≡ Some code
      → slice_get threads t ≡ Some instrs
      → slice_get starts t ≡ Some begins
      → IsCompiledThread code instrs begins

module _ (codes : List (List Stmt)) where
  -- No instructions and no starts are those of the first 0 threads, compiled.
  pub AreCompiled-none : (threads : List (List Instr)) {starts : List (List ℕ)}
      → threads ≡ []
      → starts ≡ []
      → AreCompiled codes 0 threads starts
  AreCompiled-none threads no_threads no_starts = record {
    as_many = ap length no_threads;
    as_many_starts = ap length no_starts;
    each = λ t code instrs begins at there in_starts.
        absurd (omega (arith, slice_get_within threads t instrs there, ap length no_threads));
  }

  -- If the first n threads are compiled to these lists, appending the compiled thread n gives those of the first n + 1.
  pub AreCompiled-push : {n : ℕ} {threads next : List (List Instr)} {starts more : List (List ℕ)} {code : List Stmt}
      {instrs : List Instr} {begins : List ℕ}
      → AreCompiled codes n threads starts
      → slice_get codes n ≡ Some code
      → IsCompiledThread code instrs begins
      → next ≡ threads ++ instrs ∷ []
      → more ≡ starts ++ begins ∷ []
      → AreCompiled codes (n + 1) next more
  AreCompiled-push {n} {threads} {starts = starts} {code = code} {instrs} {begins} before found_at compiled e f = record {
    as_many = ap length e ∙ length-append threads (instrs ∷ []) ∙ ap (λ (k : ℕ). k + 1) before.as_many;
    as_many_starts = ap length f ∙ length-append starts (begins ∷ []) ∙ ap (λ k. k + 1) before.as_many_starts;
    each = λ t c i b in_codes in_next in_more.
        compiled_at_index t c i b in_codes
        (slice_get-append_cases threads instrs i t (subst (λ (l : List (List Instr)). slice_get l t ≡ Some i) e in_next))
        (slice_get-append_cases starts begins b t (subst (λ (l : List (List ℕ)). slice_get l t ≡ Some b) f in_more));
  }
    where
      -- By whether the index is one of the earlier threads or of the new one.
      compiled_at_index : (t : ℕ) (c : List Stmt) (i : List Instr) (b : List ℕ)
          → slice_get codes t ≡ Some c
          → (slice_get threads t ≡ Some i) ⊎ ((t ≡ length threads) × (instrs ≡ i))
          → (slice_get starts t ≡ Some b) ⊎ ((t ≡ length starts) × (begins ≡ b))
          → IsCompiledThread c i b
      compiled_at_index t c i b in_codes (inl old) (inl old_too) = before.each t c i b in_codes old old_too
      compiled_at_index t c i b in_codes (inl old) (inr last) =
          absurd (omega (arith, slice_get_within threads t i old, last.0, before.as_many, before.as_many_starts))
      compiled_at_index t c i b in_codes (inr last) (inl old) =
          absurd (omega (arith, slice_get_within starts t b old, last.0, before.as_many, before.as_many_starts))
      compiled_at_index t c i b in_codes (inr last) (inr last_too) =
          let here : n ≡ t = sym (last.0 ∙ before.as_many) in
          let same = same_Some code c (sym found_at ∙ ap (λ (k : ℕ). slice_get codes k) here ∙ in_codes) in
          subst₂ (IsCompiledThread c) last.1 last_too.1
          (subst (λ (l : List Stmt). IsCompiledThread l instrs begins) same compiled)
