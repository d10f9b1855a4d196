-- The proof by hand of `Refusing::deallocate`, against the contract that the trait `Allocator` states for
-- every allocator. `walk` goes through the body: the block and its token go to the inner allocator, and
-- nothing is counted. The null pointer never comes here, for no token belongs to it.
-- `Refused` says how such a proof is read.
use Rattle.lw_test_reader.proofs.Steps.{◌≡◌, ℕ, ◌^◌, ◌<◌, List, [], ◌∷◌, refl, w64, Bor, Ura, Ty, Fn, a_type, dnil, dcons, Val}
use Rattle.lw_test_reader.proofs.Steps.{vint, vptr, vunit, inst_fn, SProp, ent, never_e, Lft, Share, Fml, ftrue, ffalse}
use Rattle.lw_test_reader.proofs.Steps.{fsep, flft, froom, Memory, size, align, capped, Routine, WpFn, Tables, Logic, Item, ⋆}
use Rattle.lw_test_reader.proofs.Steps.{‵, raw, ◌⊛◌, later, given, ◌$◌, ◌∵◌, !, qed, by, move, keep, use1, split, split3, join}
use Rattle.lw_test_reader.proofs.Steps.{learn, fsplit, fjoin, feq_i, await, stop, fld, addr, of_opd, unit_lit, no_more}
use Rattle.lw_test_reader.proofs.Steps.{and_then, returns, enter, alloc_all, pass_all, free_all, look_at, get, through, sets}
use Rattle.lw_test_reader.proofs.Steps.{lands_as, ◌⊑◌, ⊑_trans, Fun, fact, tables, fm_of, WpFn-mono, usize, RawPtr, RefOf, yes}
use Rattle.lw_test_reader.proofs.Steps.{hidden_shr, bounded, uint_vals, uint_Tells, owns, Ptr, block_ptr, null_ptr, ptr_val}
use Rattle.lw_test_reader.proofs.Steps.{rawptr_vals, rawptr_Tells, shr_vals, Slot, plain, types_at, heard, nothing, calls_at}
use Rattle.lw_test_reader.proofs.Steps.{Ended, Clauses, triple_of, Triple, entered, Stays, stay_dropped, walk_of, walked}
use Rattle.lw_test_reader.proofs.Steps.{walk_Meets, Goes-dropped, Al, seen, token, gives_key, Gives, at_gives, Gives-goes}
use Rattle.lw_test_reader.proofs.Steps.{Gives-Gives, leaves}
use contract.Running.{tables_of}
use Rattle.lw_test_reader.proofs.Refused.{Whole, Counts, inner_at, count_at, fields}
use Rattle.lw_test_reader.specs.contracts.refusing.RefusingAllocator.deallocate as f
use Rattle.lw_test_reader.specs.contracts.refusing.RefusingAllocator.deallocate.Key as key
use Rattle.lw_test_reader.proofs.refusing.RefusingAllocator.deallocate.Statement as stated
use Rattle.lw_test_reader.proofs.refusing.RefusingAllocator.deallocate.Code as code

module _ (Z : Al) where
  -- The function's code, at these types.
  abbrev here : Fn
  here = inst_fn (bounded (a_type ∷ []) (Z.row, tt) (dcons Z.d (dcons Z.drops dnil))) code.function

  -- The parameter `self`: a `&` to the allocator.
  abbrev self : Slot 2
  self = RefOf (0 ∷ []) tt (plain (λ _. Whole Z)) (λ _. tt)

  -- A parameter of type `usize`.
  abbrev number : Slot 2
  number = plain (λ _. usize)

  -- The parameter that is a pointer.
  abbrev pointer : Slot 2
  pointer = plain (λ _. RawPtr)

  -- The function's signature, and what it keeps until its end.
  abbrev ended : Ended
  ended = f.ended Z.row Z.g Z.d Z.drops

  -- Each parameter is dropped at the end.
  abbrev stayed : Stays ended.signature.params ended.kept
  stayed = (stay_dropped self yes, (stay_dropped pointer yes, (stay_dropped number yes, (stay_dropped number yes, tt))))

module _ (Z : Al) {M : Type 1} {𝓤 : Ura M} (𝓛 : Logic 𝓤) (at_mem : Memory → SProp 𝓤) (run : Routine → Fun 𝓤) (𝓣 : Tables 𝓤 𝓛.H)
    (gives : Triple 𝓤 (𝓣.C (gives_key Z)) (Gives Z 𝓛 at_mem run)) where
  open 𝓛 use {H}

  -- The clauses that the trait states for the function.
  abbrev clauses : Clauses 𝓤 (ended Z)
  clauses = f.clauses Z.row Z.g Z.d Z.drops 𝓛 at_mem run

  module _ (κ ρ : Lft) (q s : Share) (within : κ ⊑ ρ) (r : Bor (Whole Z).Denot) (n a : ℕ) (τ : Ty) where
    -- What a call is bound to: lifetimes with their shares, the arguments, and their values.
    abbrev bound : Ptr → (walk_of 𝓛 (ended Z) (stayed Z) clauses).Ghost
    bound x = (
      (
        (κ, (ρ, tt)),
        (q, (s, tt)),
        (within, tt),
        (r, (x, (n, (a, tt)))),
        (shr_vals r, (rawptr_vals x, (uint_vals w64 n, (uint_vals w64 a, tt)))),
      ),
      τ,
    )

    -- The values of the arguments.
    abbrev passed : Ptr → List Val
    passed x = vptr r.ref_ptr.0 r.ref_ptr.1 ∷ ptr_val x ∷ vint w64 n ∷ vint w64 a ∷ []

    -- The postcondition of the call.
    abbrev Post : Ptr → Val → SProp 𝓤
    Post x = (walk_of 𝓛 (ended Z) (stayed Z) clauses).post (bound x)

    -- The size and the alignment passed are those of the type τ.
    abbrev Asked : Type 0
    Asked = (capped (size τ) ≡ n) × (capped (align τ) ≡ a)

    -- The allocator inside.
    abbrev h : Z.row.Denot
    h = r.now.inner

    -- The tokens of the lifetimes.
    abbrev tokens : Item 𝓤
    tokens = ‵ (flft κ q) ⊛ ‵ (flft ρ s) ⊛ ‵ ftrue

    -- What the call gets: the tokens, the arguments, and what its precondition gives.
    abbrev entry : Ptr → Fml → List (Item 𝓤)
    entry x block = (tokens ⊛ ‵ (owns (types_at (ended Z).signature.params (bound x).0.0) (bound x).0.3 (bound x).0.4))
        ∷ (raw (fact 𝓤 (ρ ⊑ Z.row.lives)) ⊛ raw (fact 𝓤 Asked) ⊛ ‵ block) ∷ []

    -- After the block is given back, the tokens satisfy the postcondition.
    given_back : (x : Ptr) → ent 𝓤 (⋆ 𝓛 (tokens ∷ [])) (Post x vunit)
    given_back x =
        qed 𝓛 (tokens ∷ []) ∵ nothing ! $ feq_i ! (List Val) (vunit ∷ []) (vunit ∷ []) refl $
        nothing ! $ nothing ! $ fjoin ! $ nothing ! $ fjoin ! $ nothing ! $ fjoin ! $ nothing ! $ fjoin ! $
        -- [what remains of the parameters; the result; nothing; the tokens]
        move ! (3 ∷ 0 ∷ 1 ∷ 2 ∷ []) $
        by ! (leaves 𝓛 (ended Z) (stayed Z) clauses (bound x) vunit tt (tt, (tt, (tt, (tt, tt)))) (tt, (tt, (tt, (tt, tt)))))

    -- The body, run from the precondition, ends with the postcondition.
    walk : n < 2 ^ 64
        → a < 2 ^ 64
        → (x : Ptr)
        → ent 𝓤 ((walk_of 𝓛 (ended Z) (stayed Z) clauses).pre (bound x)) (WpFn 𝓤 H 𝓣.C 𝓣.Λ (here Z) (passed x) (Post x))
    walk fits_n fits_a null_ptr =
        qed 𝓛 (entry null_ptr (fsep ffalse (token Z h τ null_ptr))) ∵
        move ! (1 ∷ []) $ split3 ! $ move ! (2 ∷ []) $ fsplit ! $ keep ! (0 ∷ []) $ by ! (never_e 𝓤 _)
    walk fits_n fits_a (block_ptr b o) =
        let x : Ptr = block_ptr b o in
        let p : ℕ × ℕ = r.ref_ptr in
        let at : ℕ × ℕ = inner_at Z p in
        let at_call : (Gives Z 𝓛 at_mem run).Ghost = at_gives Z 𝓛 at_mem run κ q at h b o n a τ in
        qed 𝓛 (entry x (fsep (froom τ b o) (token Z h τ x))) ∵
        move ! (1 ∷ []) $ split3 ! $ heard ! (ρ ⊑ Z.row.lives) (λ lives. heard ! Asked (λ asked. move ! (1 ∷ []) $
        split ! $ split ! $ move ! (2 ∷ []) $ fsplit ! $ fsplit ! $ keep ! (1 ∷ 3 ∷ 4 ∷ 5 ∷ []) $
        use1 𝓛 (‵ (seen Z κ at h) ⊛ ‵ (hidden_shr Counts κ r.now.requests (count_at Z p).0 (count_at Z p).1)) (fields Z 𝓛 κ p r.now) $
        split ! $ keep ! (4 ∷ 0 ∷ 2 ∷ 3 ∷ []) $
        -- [the block; a `&` to the allocator inside; the token of κ; the token of ρ]
        enter ! 𝓣.C 𝓣.Λ (here Z) (passed x) (Post x) $ alloc_all ! (λ l.
        pass_all ! refl ((tt, tt), ((tt, tt), ((tt, record { fits = fits_n }), ((tt, record { fits = fits_a }), tt)))) $
        sets ! (addr ! (through ! refl (fld ! refl (stop !)))) refl (tt, tt) $
        fsplit ! $ move ! (2 ∷ 3 ∷ []) $ join ! $ move ! (2 ∷ 0 ∷ []) $ join ! $ move ! (1 ∷ 0 ∷ []) $ join ! $
        use1 𝓛 (raw ((Gives Z 𝓛 at_mem run).pre at_call))
        (Gives-goes Z 𝓛 at_mem run κ q at h (⊑_trans κ ρ Z.row.lives within lives) b o n a τ asked.0 asked.1 fits_n fits_a) $
        calls_at ! (fm_of 𝓤 H 𝓛.laws 𝓣) (Gives Z 𝓛 at_mem run) gives at_call
        (and_then ! (get ! refl) (and_then ! (get ! refl) (and_then ! (get ! refl) (and_then ! (get ! refl) (no_more !))))) (λ v.
        use1 𝓛 (later (given (v ≡ vunit) (‵ (flft κ q)))) (Gives-Gives Z 𝓛 at_mem run κ q at h b o n a τ v) $ await ! tt $
        learn ! (λ is. lands_as ! is refl (tt, tt) $
        sets ! (of_opd ! (unit_lit !)) refl (tt, tt) $ returns ! (look_at ! 0 refl) $ free_all ! refl $
        join ! $ by ! (given_back x))))))

-- `deallocate` satisfies its contract.
pub deallocate_spec : {M : Type 1} → stated.statement M
unfolding tables_of
deallocate_spec 𝓤 𝓛 𝓜 𝓡 wired Y L g d d' met _ =
    let Z : Al = record { row = Y; laws = L; g = g; d = d; drops = d' } in
    let 𝓣 : Tables 𝓤 𝓛.H = tables_of 𝓤 𝓛.H 𝓜 (tables 𝓤 𝓛.H 𝓜 𝓡 𝓡.env) in
    let c = f.clauses Y g d d' 𝓛 𝓜.mem 𝓡.returns in
    let runs = WpFn 𝓤 𝓛.H 𝓣.C 𝓣.Λ (here Z) in
    let gone = Goes-dropped 𝓛 2 (number Z) yes (λ κs x w. refl) in
    entered 𝓤 𝓛.H (triple_of 𝓛 (f.signature Y) (f.spec Y g d d' 𝓛 𝓜.mem 𝓡.returns)) 𝓣.C 𝓣.Λ
    (key.name (bounded (a_type ∷ []) (Y, tt) (dcons d (dcons d' dnil)))) (here Z) (code.unfolded 𝓤 𝓛.H 𝓜 𝓡 wired (Y, tt) d d')
    (walk_Meets 𝓛 (ended Z) (stayed Z)
    (Goes-dropped 𝓛 2 (self Z) yes (λ κs x w. refl), (Goes-dropped 𝓛 2 (pointer Z) yes (λ κs x w. refl), (gone, (gone, tt)))) c
    runs (WpFn-mono 𝓤 𝓛.H 𝓛.laws 𝓣 (here Z))
    (walked 𝓛 (ended Z) (stayed Z) c runs (λ κs. (shr_vals, (rawptr_vals, (uint_vals w64, (uint_vals w64, tt)))))
    (λ κs. ((λ x vs is. is.0), (rawptr_Tells, (uint_Tells w64, (uint_Tells w64, tt))))) (λ κs qs bounds x τ are.
    walk Z 𝓛 𝓜.mem 𝓡.returns 𝓣 (met.deallocate d') κs.0 κs.1.0 qs.0 qs.1.0 bounds.0 x.0 x.1.1.0 x.1.1.1.0 τ are.1.1.0.1
    are.1.1.1.0.1 x.1.0)))
