-- The two cases of the result of `take`, and a block as room for a type with the right to give it back. `Rooms` says how its proofs are read.
use Rattle.std.proofs.Common.{◌≡◌, ℕ, ◌^◌, ◌<◌, ◌≤◌, List, [], ◌∷◌, ◌++◌, IfSome, None, Some, refl, sym, ap, subst, ◌∙◌, arith}
use seplogic.Ra.Ura.{Ura}
use mir.Syntax.{Ty, Width, w8, w16, w32, w64, w128}
use mir.Val.{Val, vcons, vnil, of_list, bytes}
use base.Logic.{ent, sep, wand, apply∗}
use base.Fml.{fwand, froom}
use prog.Memory.{size, capped}
use prog.Align.{Dv, align_w, align-bytes}
use prog.Capped.{capped_is, capped_small}
use types.Logic.{Logic, sem}
use types.Kit.{Item, Goal, Seq, ‵, raw, ◌⊛◌, ◌$◌, ◌∵◌, !, qed, by, move, drop, use1, use2, split, frame, assume, rewrite, fsplit, fpick, fpack, feq_l, done}
use types.Match.{live}
use denote.RattleType.{RattleType}
use denote.RawPtr.{block_ptr}
use denote.Shadow.{pure_l}
use denote.Steps.{only}
use Rattle.std.specs.contracts.option.Option as option
use Rattle.lw_arena.specs.Sizes.{block_units}
use Rattle.lw_arena.specs.Ownership.{units, memory, block_token}
use Rattle.lw_arena.specs.contracts.block.Block as block
use Rattle.lw_arena.proofs.Classes.{FitsClass-of_size, block_units-positive}
use Rattle.lw_arena.proofs.Rooms.{room-of_type, memory-of_room, goal-of_memory}
use Rattle.lw_arena.proofs.ByHand.{pointer_struct, owns_pointer_struct, pointer_struct-if_owned}

-- The type of the result of `take`: a block, or none.
abbrev pub TakeResult : RattleType
TakeResult = option.the_row block.the_row

-- What `take` ensures of its result for n bytes of alignment a.
abbrev pub TakeEnsures : ℕ → ℕ → TakeResult.Denot → Type 0
TakeEnsures n a x = IfSome x (λ b. (b.units ≡ block_units n) × (n < 2 ^ 63) × (a ≤ 16))

-- The alignment of each number divides 16, so every unit is aligned for it.
alignment-divides_16 : (w : Width) → Dv (bytes w) 16
alignment-divides_16 w8 = tt
alignment-divides_16 w16 = tt
alignment-divides_16 w32 = tt
alignment-divides_16 w64 = tt
alignment-divides_16 w128 = tt

-- The right to exchange the room of a τ for all k units is the right to give the block's memory back.
wand-room_to_memory : {M : Type 1} {𝓤 : Ura M} (𝓛 : Logic 𝓤) (τ : Ty) (k b o : ℕ)
    → ent 𝓤 (wand 𝓤 (𝓛.H.room τ b o) (𝓛.H.room (units k) b o)) (sem 𝓛 (fwand (froom τ b o) (memory k (block_ptr b o))))
wand-room_to_memory {𝓤 = 𝓤} 𝓛 τ k b o =
    let Room = 𝓛.H.room τ b o in
    let Whole = 𝓛.H.room (units k) b o in
    qed 𝓛 (raw (wand 𝓤 Room Whole) ∷ []) ∵ assume ! (raw Room) $ use2 𝓛 (raw Whole) (apply∗ 𝓤 Room Whole) $ by ! (memory-of_room 𝓛 k b o)

-- A block of the class of n bytes is room for a τ of n bytes, together with the block's token: the right to free the block for that room.
pub block_token-of_room : {M : Type 1} {𝓤 : Ura M} (𝓛 : Logic 𝓤) (τ : Ty) (b o n : ℕ)
    → capped (size τ) ≡ n
    → n < 2 ^ 63
    → ent 𝓤 (𝓛.H.room (units (block_units n)) b o) (sep 𝓤 (𝓛.H.room τ b o) (sem 𝓛 (block_token τ (block_ptr b o))))
block_token-of_room {𝓤 = 𝓤} 𝓛 τ b o n sized small =
    let short : size τ < 2 ^ 63 = capped_small (size τ) (omega arith) in
    let same : n ≡ size τ = sym sized ∙ capped_is (size τ) (omega arith) in
    let k = block_units (size τ) in
    let Whole = 𝓛.H.room (units k) b o in
    let Room = 𝓛.H.room τ b o in
    qed 𝓛 (‵ (froom (units (block_units n)) b o) ∷ []) ∵ rewrite ! 0 (λ (m : ℕ). ‵ (froom (units (block_units m)) b o)) same refl $
    use1 𝓛 (raw Room ⊛ raw (wand 𝓤 Room Whole))
    (room-of_type 𝓛 τ k b o (FitsClass-of_size (size τ) short).holds (subst (λ (m : ℕ). Dv m 16) (sym (align-bytes τ)) (alignment-divides_16 (align_w τ)))) $
    split ! $ frame ! $ use1 𝓛 (‵ (fwand (froom τ b o) (memory k (block_ptr b o)))) (wand-room_to_memory 𝓛 τ k b o) $
    fpack ! (size τ < 2 ^ 63) (λ _. fwand (froom τ b o) (memory k (block_ptr b o))) short $ done !

module _ {M : Type 1} {𝓤 : Ura M} {𝓛 : Logic 𝓤} {K : Type 0} {Γ : List (Item 𝓤)} {G : Goal 𝓤 𝓛.H} where
  -- A goal about the result of `take` holds if it holds when that is a block in memory, and when it is none.
  pub goal-of_take_result : K → (n a : ℕ) (x : TakeResult.Denot) (v : Val) → TakeEnsures n a x
      → ((b o : ℕ) → n < 2 ^ 63 → v ≡ live 1 (vcons (pointer_struct (block_ptr b o)) vnil) → Seq K 𝓛 (‵ (froom (units (block_units n)) b o) ∷ Γ) G)
      → (v ≡ live 0 vnil → Seq K 𝓛 Γ G) → Seq K 𝓛 (‵ (TakeResult.own_val x (v ∷ [])) ∷ Γ) G
  goal-of_take_result t n a None v said some none =
      fpick t (λ us. fsplit t $ feq_l t (λ is. fpick t (λ vss. fsplit t $ feq_l t (λ are. drop t $
      none (ap only is ∙ ap (λ (ws : List Val). live 0 (of_list ws)) are)))))
  goal-of_take_result t n a (Some x) v said some none =
      fpick t (λ us. fsplit t $ feq_l t (λ is. fpick t (λ vss. fsplit t $ feq_l t (λ are. fsplit t $ move t (1 ∷ []) $ drop t $ fsplit t $
      pure_l t (owns_pointer_struct x.at vss.0) (λ s.
      rewrite t 0 (λ (k : ℕ). ‵ (memory k x.at)) said.0 refl $ goal-of_memory t (block_units n) x.at (block_units-positive n) (λ b o lies.
      some b o said.1 (ap only is ∙ ap (λ (ws : List Val). live 1 (of_list ws)) (are ∙ ap (λ (ws : List Val). ws ++ []) (pointer_struct-if_owned x.at vss.0 s))
      ∙ (λ i. live 1 (vcons (pointer_struct (lies i)) vnil)))))))))
