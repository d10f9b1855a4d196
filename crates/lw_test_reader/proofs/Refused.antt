-- What the bodies of the refusing allocator share: a `&` to it is a `&` to each of its fields, and its count at a call.
-- Each lemma holds in every model `𝓛` of the toolchain's separation logic (`Logic`). The file `Rooms` of lw_arena says how such proofs are read.
--     Whole, Counts                    the rows of the allocator and of its count
--     inner_at, count_at               where its two fields lie
--     fields                           a `&` to it is a `&` to the allocator inside and one to the count
--     Refuses, at_refuses              the contract of `refuse_next`, and what it is called at
--     Refuses-goes, Refuses-gives      what it is handed, a `&` and its lifetime's token, and what a caller has of it:
--                                      a truth value and the token
use Rattle.lw_test_reader.proofs.Steps.{◌≡◌, ℕ, Bool, List, [], ◌∷◌, refl, Ura, Val, vbool, vptr, SProp, ent, sep, id⊢}
use Rattle.lw_test_reader.proofs.Steps.{Lft, Share, ftrue, fsep, flft, Memory, size, align, Routine, Logic, sem, Fun, RattleType}
use Rattle.lw_test_reader.proofs.Steps.{‵, raw, ◌⊛◌, some, later, ◌$◌, ◌∵◌, !, qed, move, keep, use1, split, join, pick, fsplit, fjoin}
use Rattle.lw_test_reader.proofs.Steps.{feq_i, await, nothing, hidden_shr, layout, param, Contract, triple_of, Al, seen}
use Rattle.std.proofs.Common.{◌+◌, ap}
use base.Logic.{ex, guard}
use prog.Memory.{up}
use types.Kit.{feq_l, check, show, updating, now as at_once, done}
use denote.Opens.{unhide}
use denote.Builtin.{bool}
use denote.Steps.{only}
use Rattle.std.proofs.alloc.Calls.{α}
use Rattle.lw_test_reader.specs.contracts.refusing.Requests as requests
use Rattle.lw_test_reader.specs.contracts.refusing.Requests.refuse_next as callee
use Rattle.lw_test_reader.specs.contracts.refusing.Refusing as refusing

-- The row of the count's type.
abbrev pub Counts : RattleType
Counts = requests.the_row

module _ (Z : Al) where
  -- The row of the refusing allocator's type, over the allocator inside.
  abbrev pub Whole : RattleType
  Whole = refusing.the_row (param 0 Z.row)

  -- Where the allocator inside lies, in an allocator at p.
  abbrev pub inner_at : ℕ × ℕ → ℕ × ℕ
  inner_at p = (p.0, p.1 + up (align (α Z)) 0)

  -- Where the count lies, in an allocator at p.
  abbrev pub count_at : ℕ × ℕ → ℕ × ℕ
  count_at p = (p.0, p.1 + up (align (layout Counts)) (up (align (α Z)) 0 + size (α Z)))

  module _ {M : Type 1} {𝓤 : Ura M} (𝓛 : Logic 𝓤) (κ : Lft) (p : ℕ × ℕ) (h : Whole.Denot) where
    -- A `&` to the allocator inside and a `&` to the count.
    abbrev pub Fields : SProp 𝓤
    Fields = sep 𝓤 (sem 𝓛 (seen Z κ (inner_at p) h.inner)) (sem 𝓛 (hidden_shr Counts κ h.requests (count_at p).0 (count_at p).1))

    -- A `&` to the whole allocator is a `&` to each of its two fields.
    pub fields : ent 𝓤 (sem 𝓛 (hidden_shr Whole κ h p.0 p.1)) Fields
    fields =
        qed 𝓛 (‵ (hidden_shr Whole κ h p.0 p.1) ∷ []) ∵ unhide ! $ fsplit ! $ fsplit ! $
        -- [the allocator inside; the fields after it; what follows the fields]
        move ! (1 ∷ []) $ fsplit ! $ keep ! (2 ∷ 0 ∷ []) $ done !

module _ {M : Type 1} {𝓤 : Ura M} (𝓛 : Logic 𝓤) (at_mem : Memory → SProp 𝓤) (run : Routine → Fun 𝓤) where
  open 𝓛 use {H, A}

  -- The contract of `refuse_next`.
  abbrev pub Refuses : Contract 𝓤
  Refuses = triple_of 𝓛 callee.signature (callee.spec 𝓛 at_mem run)

  module _ (κ : Lft) (q : Share) (p : ℕ × ℕ) (counted : Counts.Denot) where
    -- What `refuse_next` is called with: a `&` to the count at p.
    abbrev pub at_refuses : Refuses.Ghost
    at_refuses = (((κ, tt), (q, tt), tt, (record { ref_ptr = p; now = counted }, tt), (vptr p.0 p.1 ∷ [], tt)), tt)

    -- A `&` to the count, and its lifetime's token, satisfy the precondition of the call.
    pub Refuses-goes : ent 𝓤 (sep 𝓤 (sem 𝓛 (hidden_shr Counts κ counted p.0 p.1)) (A.lft κ q)) (Refuses.pre at_refuses)
    Refuses-goes =
        qed 𝓛 (‵ (hidden_shr Counts κ counted p.0 p.1) ∷ ‵ (flft κ q) ∷ []) ∵
        feq_i ! (List Val) (vptr p.0 p.1 ∷ []) (vptr p.0 p.1 ∷ []) refl $ fjoin ! $
        nothing ! $ move ! (1 ∷ []) $ fjoin ! $
        -- [what the parameters own; the token]
        nothing ! $ move ! (2 ∷ []) $ join ! $ join ! $
        nothing ! $ move ! (1 ∷ []) $ done !

    -- The call has returned this truth value, and gives the lifetime's token back.
    abbrev pub Told : Val → Bool → SProp 𝓤
    Told v t = guard 𝓤 (v ≡ vbool t) (A.lft κ q)

    -- After the call there are a truth value and the lifetime's token.
    pub Refuses-gives : (v : Val) → ent 𝓤 (Refuses.post at_refuses v) (H.⇛ (ex 𝓤 (Told v)))
    Refuses-gives v =
        qed 𝓛 (raw (Refuses.post at_refuses v) ∷ []) ∵ updating ! $
        use1 𝓛 (later (some (λ (t : Bool). ((‵ (flft κ q) ⊛ ‵ ftrue) ⊛ ‵ (bool.own_val t (v ∷ [])))
        ⊛ some (λ (ws : Unit {0} × Unit {0}). ‵ (fsep ftrue ftrue) ⊛ ‵ ftrue)))) (id⊢ 𝓤 _) $ await ! tt $
        pick ! (λ t. split ! $ split ! $ move ! (1 ∷ []) $ feq_l ! (λ is. split ! $ at_once ! $
        show ! (Told v) t $ check ! (ap only is) $ keep ! (0 ∷ []) $ done !))
