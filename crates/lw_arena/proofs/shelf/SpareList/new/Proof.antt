-- `new` makes an empty list: it has no block, so it needs no memory.
-- `Rooms` says how such a proof is read.
use Rattle.std.proofs.Common.{◌≡◌, List, [], ◌∷◌, ◌++◌, refl, lit<, w64}
use mir.Syntax.{Fn}
use mir.Val.{Val, vint}
use base.Logic.{SProp, emp}
use base.Fml.{ftrue}
use prog.Wp.{WpFn}
use contract.Monad.{fact, fact_i}
use contract.Running.{tables}
use types.Kit.{‵, raw, ◌⊛◌, prop, ◌$◌, ◌∵◌, !, qed, by, move, drop, use0, split, regoal, fsplit, fjoin}
use types.Part.{agg}
use types.Run.{lit, no_more, and_then, returns, enter}
use types.ByLocal.{alloc_all, pass_all, free_all, look_at, sets}
use denote.RattleType.{owns}
use denote.RawPtr.{null_ptr}
use denote.Signature.{types_at}
use denote.Steps.{nothing}
use denote.Triple.Entry.{alive}
use denote.Triple.Walked.{Stays, stay_dropped, walk_of, Goes-dropped}
use Rattle.std.proofs.raw_atomic.Walks.{proved_at, leaves}
use Rattle.lw_arena.proofs.ByHand.{slot_of_index, pointer_struct, owns_pointer_struct, owns_pointer_struct-always}
use Rattle.lw_arena.specs.contracts.shelf.SpareList as list
use Rattle.lw_arena.specs.contracts.shelf.SpareList.new.{ended, clauses}
use Rattle.lw_arena.specs.contracts.shelf.SpareList.new.Key.{name as key}
use Rattle.lw_arena.proofs.shelf.SpareList.new.Statement.{statement}
use Rattle.lw_arena.proofs.shelf.SpareList.new.Code as code

-- What the function still owns of each parameter when it returns: nothing.
abbrev stays : Stays ended.signature.params ended.kept
stays = (stay_dropped (slot_of_index 0 ended.signature.params) ended.kept.0, tt)

-- `new` satisfies its contract.
pub new_spec : {M : Type 1} → statement M
new_spec 𝓤 𝓛 𝓜 𝓡 wired =
    let H = 𝓛.H in
    let c = clauses 𝓛 𝓜.mem 𝓡.returns in
    let fn : Fn = code.function in
    let C = (tables 𝓤 H 𝓜 𝓡 𝓡.env).C in
    let Λ = (tables 𝓤 H 𝓜 𝓡 𝓡.env).Λ in
    proved_at 𝓛 ended stays c 𝓜 𝓡 (Goes-dropped 𝓛 0 (slot_of_index 0 ended.signature.params) ended.kept.0 (λ κs x f. refl), tt)
    key fn (code.unfolded 𝓤 H 𝓜 𝓡 wired) (λ z are.
    let Post : Val → SProp 𝓤 = (walk_of 𝓛 ended stays c).post z in
    let a = z.0.3 in
    let vss = z.0.4 in
    let n = a.0 in
    let y : (list.the_row).Denot = record { first = null_ptr; units = n; count = 0 } in
    let Said : Type 0 = (n ≡ n) × (0 ≡ 0) in
    qed 𝓛 ((raw (alive 𝓛 ended.signature z.0.0 z.0.1) ⊛ ‵ (owns (types_at ended.signature.params z.0.0) a vss)) ∷ ‵ ftrue ∷ []) ∵
    move ! (1 ∷ []) $ drop ! $ split ! $ move ! (1 ∷ []) $ fsplit ! $ drop ! $ drop ! $
    regoal ! (λ (us : List Val). prop (WpFn 𝓤 H C Λ fn us Post)) (λ i. are.0.0 i ++ []) refl $
    enter ! C Λ fn (vint w64 n ∷ []) Post $ alloc_all ! (λ l. pass_all ! refl ((tt, record { fits = are.0.1 }), tt) $
    sets ! (agg ! (and_then ! (lit ! tt) (no_more !))) refl (tt, (record { fits = lit< tt }, tt)) $
    returns ! (look_at ! 0 refl) $ free_all ! refl $
    nothing ! $ use0 𝓛 (‵ (owns_pointer_struct null_ptr (pointer_struct null_ptr ∷ []))) (owns_pointer_struct-always 𝓛 null_ptr) $ fjoin ! $
    use0 𝓛 (raw (fact 𝓤 Said)) (fact_i 𝓤 Said (emp 𝓤) (refl, refl)) $
    nothing ! $ nothing ! $ fjoin ! $ move ! (3 ∷ 0 ∷ 2 ∷ 1 ∷ []) $
    by ! (leaves 𝓛 ended stays c z (pointer_struct null_ptr) y (tt, tt) (tt, tt))))
