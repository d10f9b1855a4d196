-- The proof by hand of `Refusing::allocate`, against the contract that the trait `Allocator` states for every
-- allocator. `walk` goes through the body: it calls `refuse_next`, and then either returns `Err` (`Post-null`)
-- or calls the inner allocator, whose block and its token become those of the whole (`Post-block`).
-- `Refused` says how such a proof is read.
use Rattle.lw_test_reader.proofs.Steps.{ℕ, ◌^◌, ◌<◌, ◌≡◌, Bool, true, false, List, [], ◌∷◌, Ok, Err, refl, w64, Bor, Ura}
use Rattle.lw_test_reader.proofs.Steps.{Ty, Fn, a_type, dnil, dcons, Val, vint, vptr, vbool, inst_fn, SProp, ent}
use Rattle.lw_test_reader.proofs.Steps.{Lft, Share, ftrue, flft, froom, Memory, size, align, capped, Routine, WpFn, Tables, Logic}
use Rattle.lw_test_reader.proofs.Steps.{Item, ⋆, ‵, raw, ◌⊛◌, some, later, given, at_ret, ◌$◌, ◌∵◌, !, qed, by, move, keep}
use Rattle.lw_test_reader.proofs.Steps.{use0, use1, use2, split, join, pick, learn, fsplit, fjoin, await, heard, nothing}
use Rattle.lw_test_reader.proofs.Steps.{agg, stop, fld, addr, lit, no_more, and_then, first, branches, skips, exec, returns}
use Rattle.lw_test_reader.proofs.Steps.{returns_within, enter, alloc_all, pass_all, free_all, look_at, get, through, sets, lands_as, env}
use Rattle.lw_test_reader.proofs.Steps.{◌⊑◌, ⊑_trans, Fun, fact, tables, fm_of, WpFn-mono, usize, RefOf, yes, bounded}
use Rattle.lw_test_reader.proofs.Steps.{hidden_shr, uint_vals, uint_Tells, owns, block_ptr, shr_vals, Slot, plain, types_at}
use Rattle.lw_test_reader.proofs.Steps.{calls_at, Ended, Clauses, at_exit, triple_of, Triple, entered, cited, after, leaves}
use Rattle.lw_test_reader.proofs.Steps.{Stays, stay_dropped, walk_of, walked, walk_Meets, Goes-dropped, Al, seen, token}
use Rattle.lw_test_reader.proofs.Steps.{Answer, answer_val, Answer-typed, Answer-Ok, Answer-err}
use Rattle.lw_test_reader.proofs.Steps.{takes_key, Takes, at_takes, Answered, Takes-goes, Takes-gives, answers}
use contract.Running.{tables_of}
use Rattle.lw_test_reader.proofs.Refused.{Whole, Counts, inner_at, count_at, fields, Refuses, at_refuses, Refuses-goes, Refuses-gives}
use Rattle.lw_test_reader.proofs.refusing.Requests.refuse_next.Symbol as counting
use Rattle.lw_test_reader.proofs.refusing.Requests.refuse_next.Met as counted
use Rattle.lw_test_reader.specs.contracts.refusing.RefusingAllocator.allocate as f
use Rattle.lw_test_reader.specs.contracts.refusing.RefusingAllocator.allocate.Key as key
use Rattle.lw_test_reader.proofs.refusing.RefusingAllocator.allocate.Statement as stated
use Rattle.lw_test_reader.proofs.refusing.RefusingAllocator.allocate.Code as code

module _ (Z : Al) where
  -- The function's code, at these types.
  abbrev here : Fn
  here = inst_fn (bounded (a_type ∷ []) (Z.row, tt) (dcons Z.d (dcons Z.drops dnil))) code.function

  -- The parameter `self`: a `&` to the allocator.
  abbrev self : Slot 2
  self = RefOf (0 ∷ []) tt (plain (λ _. Whole Z)) (λ _. tt)

  -- A parameter of type `usize`.
  abbrev number : Slot 2
  number = plain (λ _. usize)

  -- The function's signature, and what it keeps until its end.
  abbrev ended : Ended
  ended = f.ended Z.row Z.g Z.d Z.drops

  -- Each parameter is dropped at the end.
  abbrev stayed : Stays ended.signature.params ended.kept
  stayed = (stay_dropped self yes, (stay_dropped number yes, (stay_dropped number yes, tt)))

module _ (Z : Al) {M : Type 1} {𝓤 : Ura M} (𝓛 : Logic 𝓤) (at_mem : Memory → SProp 𝓤) (run : Routine → Fun 𝓤) (𝓣 : Tables 𝓤 𝓛.H)
    (takes : Triple 𝓤 (𝓣.C (takes_key Z)) (Takes Z 𝓛 at_mem run))
    (refuses : Triple 𝓤 (𝓣.C counting.name) (Refuses 𝓛 at_mem run)) where
  open 𝓛 use {H}

  -- The clauses that the trait states for the function.
  abbrev clauses : Clauses 𝓤 (ended Z)
  clauses = f.clauses Z.row Z.g Z.d Z.drops 𝓛 at_mem run

  module _ (κ ρ : Lft) (q s : Share) (within : κ ⊑ ρ) (r : Bor (Whole Z).Denot) (n a : ℕ) (τ : Ty) where
    -- What a call is bound to: lifetimes with their shares, the arguments, and their values.
    abbrev bound : (walk_of 𝓛 (ended Z) (stayed Z) clauses).Ghost
    bound =
        (((κ, (ρ, tt)), (q, (s, tt)), (within, tt), (r, (n, (a, tt))), (shr_vals r, (uint_vals w64 n, (uint_vals w64 a, tt)))), τ)

    -- The values of the arguments.
    abbrev passed : List Val
    passed = vptr r.ref_ptr.0 r.ref_ptr.1 ∷ vint w64 n ∷ vint w64 a ∷ []

    -- The postcondition of the call.
    abbrev Post : Val → SProp 𝓤
    Post = (walk_of 𝓛 (ended Z) (stayed Z) clauses).post bound

    -- What the clauses ensure of a result.
    abbrev left : Answer.Denot → SProp 𝓤
    left answer = (clauses bound.0.0 bound.0.3).ensures τ answer (at_exit (ended Z) bound.0.0 bound.0.3 (tt, (tt, (tt, tt))))

    -- The size and the alignment passed are those of the type τ.
    abbrev Asked : Type 0
    Asked = (capped (size τ) ≡ n) × (capped (align τ) ≡ a)

    -- The allocator inside.
    abbrev h : Z.row.Denot
    h = r.now.inner

    -- The tokens of the lifetimes.
    abbrev tokens : Item 𝓤
    tokens = ‵ (flft κ q) ⊛ ‵ (flft ρ s) ⊛ ‵ ftrue

    -- A result with what the clauses ensure of it, and the tokens, satisfy the postcondition.
    leave : (v : Val) (answer : Answer.Denot) → ent 𝓤 (⋆ 𝓛 (‵ (Answer.own_val answer (v ∷ [])) ∷ raw (left answer) ∷ tokens ∷ [])) (Post v)
    leave v answer =
        qed 𝓛 (‵ (Answer.own_val answer (v ∷ [])) ∷ raw (left answer) ∷ tokens ∷ []) ∵
        nothing ! $ nothing ! $ fjoin ! $ nothing ! $ fjoin ! $ nothing ! $ fjoin ! $
        -- [what remains of the parameters; the result; what comes with it; the tokens]
        move ! (3 ∷ 0 ∷ 1 ∷ 2 ∷ []) $
        by ! (leaves 𝓛 (ended Z) (stayed Z) clauses bound v answer (tt, (tt, (tt, tt))) (tt, (tt, (tt, tt))))

    -- The result `Err` satisfies the postcondition.
    Post-null : ent 𝓤 (⋆ 𝓛 (tokens ∷ [])) (Post (answer_val false 0 0))
    Post-null =
        qed 𝓛 (tokens ∷ []) ∵
        nothing ! $ use0 𝓛 (‵ (Answer.own_val (Err (record {})) (answer_val false 0 0 ∷ []))) (Answer-err 𝓛) $
        by ! (leave (answer_val false 0 0) (Err (record {})))

    -- A block from the allocator inside, with its token, satisfies the postcondition.
    Post-block : (b o : ℕ) → ent 𝓤 (⋆ 𝓛 (tokens ∷ ‵ (froom τ b o) ∷ ‵ (token Z h τ (block_ptr b o)) ∷ [])) (Post (answer_val true b o))
    Post-block b o =
        qed 𝓛 (tokens ∷ ‵ (froom τ b o) ∷ ‵ (token Z h τ (block_ptr b o)) ∷ []) ∵
        move ! (1 ∷ 2 ∷ []) $ fjoin ! $
        use0 𝓛 (‵ (Answer.own_val (Ok (block_ptr b o)) (answer_val true b o ∷ []))) (Answer-Ok 𝓛 b o) $
        by ! (leave (answer_val true b o) (Ok (block_ptr b o)))

    -- The body, run from the precondition, ends with the postcondition.
    walk : n < 2 ^ 64
        → a < 2 ^ 64
        → ent 𝓤 ((walk_of 𝓛 (ended Z) (stayed Z) clauses).pre bound) (WpFn 𝓤 H 𝓣.C 𝓣.Λ (here Z) passed Post)
    walk fits_n fits_a =
        let p : ℕ × ℕ = r.ref_ptr in
        let at : ℕ × ℕ = inner_at Z p in
        let count : ℕ × ℕ = count_at Z p in
        let counts : Counts.Denot = r.now.requests in
        let at_call : (Takes Z 𝓛 at_mem run).Ghost = at_takes Z 𝓛 at_mem run κ q at h n a τ in
        let at_count : (Refuses 𝓛 at_mem run).Ghost = at_refuses 𝓛 at_mem run κ q count counts in
        qed 𝓛 ((tokens ⊛ ‵ (owns (types_at (ended Z).signature.params bound.0.0) bound.0.3 bound.0.4))
        ∷ (raw (fact 𝓤 (ρ ⊑ Z.row.lives)) ⊛ raw (fact 𝓤 Asked)) ∷ []) ∵
        move ! (1 ∷ []) $ split ! $ heard ! (ρ ⊑ Z.row.lives) (λ lives. heard ! Asked (λ asked.
        split ! $ split ! $ move ! (2 ∷ []) $ fsplit ! $ fsplit ! $ keep ! (1 ∷ 3 ∷ 4 ∷ []) $
        use1 𝓛 (‵ (seen Z κ at h) ⊛ ‵ (hidden_shr Counts κ counts count.0 count.1)) (fields Z 𝓛 κ p r.now) $
        split ! $ move ! (1 ∷ 2 ∷ []) $
        -- [a `&` to the count; the token of κ; a `&` to the allocator inside; the token of ρ]
        enter ! 𝓣.C 𝓣.Λ (here Z) passed Post $ alloc_all ! (λ l.
        pass_all ! refl ((tt, tt), ((tt, record { fits = fits_n }), ((tt, record { fits = fits_a }), tt))) $
        sets ! (addr ! (through ! refl (fld ! refl (stop !)))) refl (tt, tt) $
        use2 𝓛 (raw ((Refuses 𝓛 at_mem run).pre at_count)) (Refuses-goes 𝓛 at_mem run κ q count counts) $
        calls_at ! (fm_of 𝓤 H 𝓛.laws 𝓣) (Refuses 𝓛 at_mem run) refuses at_count (and_then ! (get ! refl) (no_more !)) (λ u.
        use1 𝓛 (later (some (λ (t : Bool). given (u ≡ vbool t) (‵ (flft κ q)))))
        (Refuses-gives 𝓛 at_mem run κ q count counts u) $ await ! tt $
        pick ! (λ t. learn ! (λ is. lands_as ! is refl (tt, tt) $
        -- [the token of κ; a `&` to the allocator inside; the token of ρ]
        first ! $ branches ! (get ! refl)
        (λ is_refused. sets ! (agg ! (no_more !)) refl (tt, tt) $
        sets ! (agg ! (and_then ! (lit ! tt) (and_then ! (get ! refl) (no_more !)))) refl (Answer-typed false 0 0) $
        returns_within ! Post refl (look_at ! 0 refl) $ free_all ! refl $
        move ! (0 ∷ 2 ∷ []) $ join ! $ keep ! (0 ∷ []) $ by ! Post-null)
        (λ is_granted. skips ! $
        exec ! 𝓣.C 𝓣.Λ (env (here Z).locals l) (after 3 (here Z).body) (at_ret (env (here Z).locals l) Post) $
        sets ! (addr ! (through ! refl (fld ! refl (stop !)))) refl (tt, tt) $
        move ! (1 ∷ 0 ∷ []) $ use2 𝓛 (raw ((Takes Z 𝓛 at_mem run).pre at_call))
        (Takes-goes Z 𝓛 at_mem run κ q at h (⊑_trans κ ρ Z.row.lives within lives) n a τ asked.0 asked.1 fits_n fits_a) $
        calls_at ! (fm_of 𝓤 H 𝓛.laws 𝓣) (Takes Z 𝓛 at_mem run) takes at_call
        (and_then ! (get ! refl) (and_then ! (get ! refl) (and_then ! (get ! refl) (no_more !)))) (λ v.
        use1 𝓛 (later (raw (Answered Z 𝓛 at_mem run h τ v) ⊛ ‵ (flft κ q)))
        (Takes-gives Z 𝓛 at_mem run κ q at h n a τ v) $ await ! tt $ split ! $
        -- [the result; the token of κ; the token of ρ]
        answers Z ! at_mem run h τ v
        (λ b o ok. lands_as ! ok refl (Answer-typed true b o) $ returns ! (look_at ! 0 refl) $ free_all ! refl $
        move ! (2 ∷ 3 ∷ []) $ join ! $ by ! (Post-block b o))
        (λ none. lands_as ! none refl (Answer-typed false 0 0) $ returns ! (look_at ! 0 refl) $ free_all ! refl $
        join ! $ by ! Post-null)))))))))

-- `allocate` satisfies its contract.
pub allocate_spec : {M : Type 1} → stated.statement M
unfolding tables_of
allocate_spec 𝓤 𝓛 𝓜 𝓡 wired Y L g d d' met _ =
    let Z : Al = record { row = Y; laws = L; g = g; d = d; drops = d' } in
    let 𝓣 : Tables 𝓤 𝓛.H = tables_of 𝓤 𝓛.H 𝓜 (tables 𝓤 𝓛.H 𝓜 𝓡 𝓡.env) in
    let c = f.clauses Y g d d' 𝓛 𝓜.mem 𝓡.returns in
    let runs = WpFn 𝓤 𝓛.H 𝓣.C 𝓣.Λ (here Z) in
    let gone = Goes-dropped 𝓛 2 (number Z) yes (λ κs x w. refl) in
    let counts =
    cited 𝓤 𝓛.H _ 𝓜 𝓡 𝓡.env counting.name (𝓡.env counting.name) refl
    (counted.met 𝓤 𝓛 𝓜 𝓡 (code.calls-lw_test_reader::refusing::Requests::refuse_next 𝓡.env wired)) in
    entered 𝓤 𝓛.H (triple_of 𝓛 (f.signature Y) (f.spec Y g d d' 𝓛 𝓜.mem 𝓡.returns)) 𝓣.C 𝓣.Λ
    (key.name (bounded (a_type ∷ []) (Y, tt) (dcons d (dcons d' dnil)))) (here Z) (code.unfolded 𝓤 𝓛.H 𝓜 𝓡 wired (Y, tt) d d')
    (walk_Meets 𝓛 (ended Z) (stayed Z) (Goes-dropped 𝓛 2 (self Z) yes (λ κs x w. refl), (gone, (gone, tt))) c runs
    (WpFn-mono 𝓤 𝓛.H 𝓛.laws 𝓣 (here Z))
    (walked 𝓛 (ended Z) (stayed Z) c runs (λ κs. (shr_vals, (uint_vals w64, (uint_vals w64, tt))))
    (λ κs. ((λ x vs is. is.0), (uint_Tells w64, (uint_Tells w64, tt)))) (λ κs qs bounds x τ are.
    walk Z 𝓛 𝓜.mem 𝓡.returns 𝓣 (met.allocate d') counts κs.0 κs.1.0 qs.0 qs.1.0 bounds.0 x.0 x.1.0 x.1.1.0 τ are.1.0.1
    are.1.1.0.1)))
