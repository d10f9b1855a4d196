-- The proof by hand of `Refusing::shrink`, against the contract that the trait `Allocator` states for every
-- allocator. `walk` goes through the body: it calls the inner allocator, whose result is returned as it is
-- (`leave`), for a shrink is no request and is not counted.
-- `Refused` says how such a proof is read.
use Rattle.lw_test_reader.proofs.Steps.{◌≡◌, ℕ, ◌^◌, ◌<◌, Bool, List, [], ◌∷◌, refl, sym, subst, T, w64, Bor, Ura, Fn, a_type}
use Rattle.lw_test_reader.proofs.Steps.{dnil, dcons, Val, vint, vptr, has_ty, WT, inst_fn, SProp, ent, never_e, Lft, Share, Fml}
use Rattle.lw_test_reader.proofs.Steps.{ftrue, flft, Memory, Routine, WpFn, Tables, Logic, Item, ⋆, ‵, raw, ◌⊛◌, some, later}
use Rattle.lw_test_reader.proofs.Steps.{given, ◌$◌, ◌∵◌, !, qed, by, move, keep, use0, use1, split, split3, join, pick, learn}
use Rattle.lw_test_reader.proofs.Steps.{rewrite, fsplit, fjoin, await, stop, fld, addr, no_more, and_then, returns, enter}
use Rattle.lw_test_reader.proofs.Steps.{alloc_all, pass_all, free_all, look_at, get, through, sets, lands_as, ◌⊑◌, ⊑_trans, Fun}
use Rattle.lw_test_reader.proofs.Steps.{tables, fm_of, WpFn-mono, usize, RawPtr, RefOf, yes, hidden_shr, bounded, param, layout}
use Rattle.lw_test_reader.proofs.Steps.{uint_vals, uint_Tells, RattleType, owns, Ptr, block_ptr, null_ptr, ptr_val, rawptr_vals}
use Rattle.lw_test_reader.proofs.Steps.{rawptr_Tells, shr_vals, Slot, plain, types_at, nothing, calls_at, Ended, Clauses}
use Rattle.lw_test_reader.proofs.Steps.{triple_of, Triple, Contract, entered, Stays, stay_dropped, walk_of, walked, walk_Meets}
use Rattle.lw_test_reader.proofs.Steps.{Goes-dropped, Al, seen, token, Answer, answer_val, Answer-typed, Shrinks, resize_key}
use Rattle.lw_test_reader.proofs.Steps.{Resizes, at_resizes, left_by, Resizes-goes, Resizes-gives, result_of, result_own, asked}
use Rattle.lw_test_reader.proofs.Steps.{heard_all, leaves}
use contract.Running.{tables_of}
use Rattle.std.specs.Allocator.{block_with_items}
use Rattle.lw_test_reader.proofs.Refused.{Whole, Counts, inner_at, count_at, fields}
use Rattle.lw_test_reader.specs.contracts.refusing.RefusingAllocator.shrink as f
use Rattle.lw_test_reader.specs.contracts.refusing.RefusingAllocator.shrink.Key as key
use Rattle.lw_test_reader.proofs.refusing.RefusingAllocator.shrink.Statement as stated
use Rattle.lw_test_reader.proofs.refusing.RefusingAllocator.shrink.Code as code

module _ (Z : Al) (X : RattleType) where
  -- The function's code, at these types.
  abbrev here : Fn
  here = inst_fn (bounded (a_type ∷ a_type ∷ []) (Z.row, (X, tt)) (dcons Z.d (dcons Z.drops dnil))) code.function

  -- The parameter `self`: a `&` to the allocator.
  abbrev self : Slot 3
  self = RefOf (0 ∷ []) tt (plain (λ _. Whole Z)) (λ _. tt)

  -- A parameter of type `usize`.
  abbrev number : Slot 3
  number = plain (λ _. usize)

  -- The parameter that is a pointer.
  abbrev pointer : Slot 3
  pointer = plain (λ _. RawPtr)

  -- The function's signature, and what it keeps until its end.
  abbrev ended : Ended
  ended = f.ended Z.row X Z.g Z.d Z.drops

  -- Each parameter is dropped at the end.
  abbrev stayed : Stays ended.signature.params ended.kept
  stayed = (
    stay_dropped self yes,
    (stay_dropped pointer yes, (stay_dropped number yes, (stay_dropped number yes, (stay_dropped number yes, tt)))),
  )

module _ (Z : Al) (X : RattleType) {M : Type 1} {𝓤 : Ura M} (𝓛 : Logic 𝓤) (at_mem : Memory → SProp 𝓤) (run : Routine → Fun 𝓤)
    (𝓣 : Tables 𝓤 𝓛.H) (resizes : Triple 𝓤 (𝓣.C (resize_key Z X 3)) (Resizes Z X (Shrinks X) 𝓛 at_mem run)) where
  open 𝓛 use {H}

  -- The clauses that the trait states for the function.
  abbrev clauses : Clauses 𝓤 (ended Z X)
  clauses = f.clauses Z.row X Z.g Z.d Z.drops 𝓛 at_mem run

  -- The contract of the call of the allocator inside.
  abbrev Called : Contract 𝓤
  Called = Resizes Z X (Shrinks X) 𝓛 at_mem run

  module _ (κ ρ κT : Lft) (q s qT : Share) (within : κ ⊑ ρ) (r : Bor (Whole Z).Denot) (len old new : ℕ) (xs : List X.Denot) where
    -- What a call is bound to: lifetimes with their shares, the arguments, and their values.
    abbrev bound : Ptr → (walk_of 𝓛 (ended Z X) (stayed Z X) clauses).Ghost
    bound x = (
      (
        (κ, (ρ, (κT, tt))),
        (q, (s, (qT, tt))),
        (within, tt),
        (r, (x, (len, (old, (new, tt))))),
        (shr_vals r, (rawptr_vals x, (uint_vals w64 len, (uint_vals w64 old, (uint_vals w64 new, tt))))),
      ),
      xs,
    )

    -- The values of the arguments.
    abbrev passed : Ptr → List Val
    passed x = vptr r.ref_ptr.0 r.ref_ptr.1 ∷ ptr_val x ∷ vint w64 len ∷ vint w64 old ∷ vint w64 new ∷ []

    -- The postcondition of the call.
    abbrev Post : Ptr → Val → SProp 𝓤
    Post x = (walk_of 𝓛 (ended Z X) (stayed Z X) clauses).post (bound x)

    -- The allocator inside.
    abbrev h : Z.row.Denot
    h = r.now.inner

    -- The block with its items, at the old length.
    abbrev block : Ptr → Fml
    block x = block_with_items (token Z h) (param 1 X) x len old xs

    -- The tokens of the lifetimes.
    abbrev tokens : Item 𝓤
    tokens = ‵ (flft κ q) ⊛ ‵ (flft ρ s) ⊛ ‵ (flft κT qT) ⊛ ‵ ftrue

    -- What the call gets: the tokens, the arguments, and what its precondition gives.
    abbrev entry : Ptr → List (Item 𝓤)
    entry x = (tokens ⊛ ‵ (owns (types_at (ended Z X).signature.params (bound x).0.0) (bound x).0.3 (bound x).0.4))
        ∷ raw (asked 𝓛 (ρ ⊑ Z.row.lives) (κT ⊑ X.lives) (Shrinks X len old new) (block x)) ∷ []

    module _ (b o : ℕ) where
      -- What the call of the allocator inside leaves with a result.
      abbrev left : Answer.Denot → Fml
      left = left_by Z X (Shrinks X) 𝓛 at_mem run κ κT q qT (inner_at Z r.ref_ptr) h b o len old new xs

      -- The result of the call inside, and what comes with it, satisfy the postcondition.
      leave : (v : Val) (c : Bool × (ℕ × ℕ)) → v ≡ answer_val c.0 c.1.0 c.1.1
          → ent 𝓤 (⋆ 𝓛 (tokens ∷ ‵ (left (result_of c.0 c.1.0 c.1.1)) ∷ [])) (Post (block_ptr b o) v)
      leave v c is =
          let answer : Answer.Denot = result_of c.0 c.1.0 c.1.1 in
          qed 𝓛 (tokens ∷ ‵ (left answer) ∷ []) ∵ move ! (1 ∷ []) $
          use0 𝓛 (‵ (Answer.own_val answer (answer_val c.0 c.1.0 c.1.1 ∷ []))) (result_own 𝓛 c.0 c.1.0 c.1.1) $
          rewrite ! 0 (λ (w : Val). ‵ (Answer.own_val answer (w ∷ []))) (sym is) refl $
          nothing ! $ nothing ! $ fjoin ! $ nothing ! $ fjoin ! $ nothing ! $ fjoin ! $ nothing ! $ fjoin ! $ nothing ! $ fjoin ! $
          -- [what remains of the parameters; the result; the block; the tokens]
          move ! (3 ∷ 0 ∷ 1 ∷ 2 ∷ []) $ by ! (leaves 𝓛 (ended Z X) (stayed Z X) clauses (bound (block_ptr b o)) v answer
          (tt, (tt, (tt, (tt, (tt, tt))))) (tt, (tt, (tt, (tt, (tt, tt))))))

    -- The body, run from the precondition, ends with the postcondition.
    walk : len < 2 ^ 64
        → old < 2 ^ 64
        → new < 2 ^ 64
        → (x : Ptr)
        → ent 𝓤 ((walk_of 𝓛 (ended Z X) (stayed Z X) clauses).pre (bound x)) (WpFn 𝓤 H 𝓣.C 𝓣.Λ (here Z X) (passed x) (Post x))
    walk fits_len fits_old fits_new null_ptr =
        qed 𝓛 (entry null_ptr) ∵ move ! (1 ∷ []) $
        heard_all ! (ρ ⊑ Z.row.lives) (κT ⊑ X.lives) (Shrinks X len old new) (block null_ptr) (λ _ _ _.
        fsplit ! $ keep ! (0 ∷ []) $ by ! (never_e 𝓤 _))
    walk fits_len fits_old fits_new (block_ptr b o) =
        let x : Ptr = block_ptr b o in
        let p : ℕ × ℕ = r.ref_ptr in
        let at : ℕ × ℕ = inner_at Z p in
        let at_call : Called.Ghost = at_resizes Z X (Shrinks X) 𝓛 at_mem run κ κT q qT at h b o len old new xs in
        qed 𝓛 (entry x) ∵ move ! (1 ∷ []) $
        heard_all ! (ρ ⊑ Z.row.lives) (κT ⊑ X.lives) (Shrinks X len old new) (block x) (λ lives lives_T sizes. move ! (1 ∷ []) $
        split ! $ split3 ! $ move ! (2 ∷ []) $ split ! $
        -- [the token of κT; nothing; the token of κ; the token of ρ; what the parameters own; the block]
        move ! (4 ∷ []) $ fsplit ! $ fsplit ! $ move ! (1 ∷ []) $
        use1 𝓛 (‵ (seen Z κ at h) ⊛ ‵ (hidden_shr Counts κ r.now.requests (count_at Z p).0 (count_at Z p).1)) (fields Z 𝓛 κ p r.now) $
        split ! $ keep ! (8 ∷ 0 ∷ 6 ∷ 4 ∷ 7 ∷ []) $
        -- [the block; a `&` to the allocator inside; the tokens of κ, κT and ρ]
        enter ! 𝓣.C 𝓣.Λ (here Z X) (passed x) (Post x) $ alloc_all ! (λ l. pass_all ! refl
        ((tt, tt), ((tt, tt), ((tt, record { fits = fits_len }), ((tt, record { fits = fits_old }), ((tt, record { fits = fits_new }), tt))))) $
        sets ! (addr ! (through ! refl (fld ! refl (stop !)))) refl (tt, tt) $
        move ! (2 ∷ 3 ∷ []) $ join ! $ move ! (2 ∷ 0 ∷ []) $ join ! $ move ! (1 ∷ 0 ∷ []) $ join ! $
        use1 𝓛 (raw (Called.pre at_call)) (Resizes-goes Z X (Shrinks X) 𝓛 at_mem run κ κT q qT at h b o len old new xs
        (⊑_trans κ ρ Z.row.lives within lives) lives_T sizes fits_len fits_old fits_new) $
        calls_at ! (fm_of 𝓤 H 𝓛.laws 𝓣) Called resizes at_call (and_then ! (get ! refl) (and_then ! (get ! refl)
        (and_then ! (get ! refl) (and_then ! (get ! refl) (and_then ! (get ! refl) (no_more !)))))) (λ v.
        use1 𝓛 (later (some (λ (c : Bool × (ℕ × ℕ)). given (v ≡ answer_val c.0 c.1.0 c.1.1) (‵ (left b o (result_of c.0 c.1.0 c.1.1))))
        ⊛ ‵ (flft κ q) ⊛ ‵ (flft κT qT)))
        (Resizes-gives Z X (Shrinks X) 𝓛 at_mem run κ κT q qT at h b o len old new xs v) $ await ! tt $ split3 ! $
        pick ! (λ c. learn ! (λ is.
        let typed : T (has_ty (layout Answer) v) × WT v =
        subst (λ (w : Val). T (has_ty (layout Answer) w) × WT w) (sym is) (Answer-typed c.0 c.1.0 c.1.1) in
        lands_as ! refl refl typed $ returns ! (look_at ! 0 refl) $ free_all ! refl $
        nothing ! $ move ! (3 ∷ 0 ∷ []) $ join ! $ move ! (3 ∷ 0 ∷ []) $ join ! $ move ! (2 ∷ 0 ∷ []) $ join ! $
        by ! (leave b o v c is))))))

-- `shrink` satisfies its contract.
pub shrink_spec : {M : Type 1} → stated.statement M
unfolding tables_of
shrink_spec 𝓤 𝓛 𝓜 𝓡 wired Y X LY LX g d d' met _ =
    let Z : Al = record { row = Y; laws = LY; g = g; d = d; drops = d' } in
    let 𝓣 : Tables 𝓤 𝓛.H = tables_of 𝓤 𝓛.H 𝓜 (tables 𝓤 𝓛.H 𝓜 𝓡 𝓡.env) in
    let c = f.clauses Y X g d d' 𝓛 𝓜.mem 𝓡.returns in
    let runs = WpFn 𝓤 𝓛.H 𝓣.C 𝓣.Λ (here Z X) in
    let gone = Goes-dropped 𝓛 3 (number Z X) yes (λ κs x w. refl) in
    entered 𝓤 𝓛.H (triple_of 𝓛 (f.signature Y X) (f.spec Y X g d d' 𝓛 𝓜.mem 𝓡.returns)) 𝓣.C 𝓣.Λ
    (key.name (bounded (a_type ∷ a_type ∷ []) (Y, (X, tt)) (dcons d (dcons d' dnil)))) (here Z X)
    (code.unfolded 𝓤 𝓛.H 𝓜 𝓡 wired (Y, (X, tt)) d d')
    (walk_Meets 𝓛 (ended Z X) (stayed Z X) (
      Goes-dropped 𝓛 3 (self Z X) yes (λ κs x w. refl),
      (Goes-dropped 𝓛 3 (pointer Z X) yes (λ κs x w. refl), (gone, (gone, (gone, tt)))),
    ) c runs (WpFn-mono 𝓤 𝓛.H 𝓛.laws 𝓣 (here Z X))
    (walked 𝓛 (ended Z X) (stayed Z X) c runs
    (λ κs. (shr_vals, (rawptr_vals, (uint_vals w64, (uint_vals w64, (uint_vals w64, tt))))))
    (λ κs. ((λ x vs is. is.0), (rawptr_Tells, (uint_Tells w64, (uint_Tells w64, (uint_Tells w64, tt))))))
    (λ κs qs bounds x xs are.
    walk Z X 𝓛 𝓜.mem 𝓡.returns 𝓣 (met.shrink d' X LX) κs.0 κs.1.0 κs.1.1.0 qs.0 qs.1.0 qs.1.1.0 bounds.0 x.0 x.1.1.0 x.1.1.1.0
    x.1.1.1.1.0 xs are.1.1.0.1 are.1.1.1.0.1 are.1.1.1.1.0.1 x.1.0)))
