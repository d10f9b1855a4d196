-- Lemmas for the proofs by hand, which follow a function's body statement by statement: slots of parameters, what runs after an arm of a
-- match, a struct of one pointer as the machine represents it, and a pair of two values. `Rooms` says how these proofs are read.
use Rattle.std.proofs.Common.{◌≡◌, ℕ, zero, suc, List, [], ◌∷◌, ◌++◌, refl, ◌∙◌, lit<}
use seplogic.Ra.Ura.{Ura}
use mir.Syntax.{Body, ty_ptr, ty_struct, tcons, tnil}
use mir.Val.{Val, vstruct, vcons, vnil, of_list}
use base.Logic.{ent, emp, sep}
use base.Fml.{Fml}
use prog.Wp.{Env, Calls, Loops, Wp, after_seq}
use types.Logic.{Logic, sem}
use types.Kit.{Post, any_q, post, ‵, ◌$◌, ◌∵◌, !, qed, move, fjoin, fpack, feq_i, done}
use denote.RattleType.{RattleType, Valss}
use denote.Builtin.{unit}
use denote.RawPtr.{Ptr, RawPtr, block_ptr, null_ptr, ptr_val}
use denote.Shadow.{shadow, makes_shadow}
use denote.Signature.{Slot, plain}
use denote.Steps.{nothing}
use denote.Struct.Struct.{Struct, within}
use denote.Struct.Declared.{shape}
use denote.Struct.Tuple.{Tuple, tuple_type}
use Rattle.std.proofs.cell.Inside.{Good}

-- The slot of the parameter at an index, in the list of all slots.
abbrev pub slot_of_index : {n : ℕ} → ℕ → List (Slot n) → Slot n
slot_of_index k [] = plain (λ _. unit)
slot_of_index zero (s ∷ ss) = s
slot_of_index (suc k) (s ∷ ss) = slot_of_index k ss

-- What an arm of a match must reach, so that the body b runs after it and reaches q.
abbrev pub then_runs : {M : Type 1} {𝓤 : Ura M} (𝓛 : Logic 𝓤)
    → Calls 𝓤 𝓛.H
    → Loops 𝓤 𝓛.H
    → Env 𝓤 𝓛.H
    → Body
    → Post 𝓤 𝓛.H
    → Post 𝓤 𝓛.H
then_runs {𝓤 = 𝓤} 𝓛 C Λ E b q = any_q (after_seq 𝓤 𝓛.H (Wp 𝓤 𝓛.H C Λ E b (post 𝓤 𝓛.H q)) (post 𝓤 𝓛.H q))

-- The machine value of a struct whose only field is a pointer.
abbrev pub pointer_struct : Ptr → Val
pointer_struct p = vstruct (vcons (ptr_val p) vnil)

-- What a struct of one pointer owns by that field, whatever the struct's name.
abbrev pub owns_pointer_struct : Ptr → List Val → Fml
owns_pointer_struct p = (Struct (record { name = []; args = []; types = []; fields = RawPtr ∷ [] })).own_val (p, tt)

-- The machine values owned as a struct of one pointer are exactly `pointer_struct` of the pointer. (`shadow P` is what is true of P without any memory.)
pub pointer_struct-if_owned : (p : Ptr) (vs : List Val) → shadow (owns_pointer_struct p vs) → vs ≡ pointer_struct p ∷ []
pointer_struct-if_owned p vs s = s.1.0 ∙ (λ i. vstruct (of_list (s.1.1.0 i ++ [])) ∷ [])

-- `pointer_struct` of a pointer can always be owned as a struct of one pointer, since no memory is needed for it.
pub owns_pointer_struct-always : {M : Type 1} {𝓤 : Ura M} (𝓛 : Logic 𝓤) (p : Ptr)
    → ent 𝓤 (emp 𝓤) (sem 𝓛 (owns_pointer_struct p (pointer_struct p ∷ [])))
owns_pointer_struct-always 𝓛 p =
    makes_shadow 𝓛 (owns_pointer_struct p (pointer_struct p ∷ [])) (λ _. (tt, (tt, tt)))
    ((ptr_val p ∷ [], tt), (refl, (refl, tt)))

-- Each pointer has the machine type of pointers.
pub Good-pointer : (p : Ptr) → Good ty_ptr (ptr_val p)
Good-pointer (block_ptr b o) = (tt, tt)
Good-pointer null_ptr = (tt, record { fits = lit< tt })

-- `pointer_struct` of a pointer has the machine type of a struct of one pointer.
pub Good-pointer_struct : (p : Ptr) → Good (ty_struct [] (tcons ty_ptr tnil)) (pointer_struct p)
Good-pointer_struct (block_ptr b o) = (tt, (tt, tt))
Good-pointer_struct null_ptr = (tt, (record { fits = lit< tt }, tt))

-- The machine value of a pair.
abbrev pub pair_val : Val → Val → Val
pair_val u v = vstruct (vcons u (vcons v vnil))

-- Two values that are owned are owned as a pair.
pub own_pair : {M : Type 1} {𝓤 : Ura M} (𝓛 : Logic 𝓤) (R S : RattleType) (x : R.Denot) (y : S.Denot) (u v : Val)
    → ent 𝓤 (sep 𝓤 (sem 𝓛 (R.own_val x (u ∷ []))) (sem 𝓛 (S.own_val y (v ∷ []))))
    (sem 𝓛 ((Tuple (R ∷ S ∷ [])).own_val (x, y) (pair_val u v ∷ [])))
own_pair 𝓛 R S x y u v =
    let both : List Val = pair_val u v ∷ [] in
    qed 𝓛 (‵ (R.own_val x (u ∷ [])) ∷ ‵ (S.own_val y (v ∷ [])) ∷ []) ∵
    nothing ! $ move ! (2 ∷ 0 ∷ []) $ fjoin ! $ move ! (1 ∷ 0 ∷ []) $ fjoin ! $ feq_i ! (List Val) both both refl $ fjoin ! $
    fpack ! (Valss (R ∷ S ∷ [])) (within (shape (tuple_type (R ∷ S ∷ []))) (x, (y, tt)) both) (u ∷ [], (v ∷ [], tt)) $ done !
