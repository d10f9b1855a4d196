-- The names that a proof by hand of a body uses, exported again from where they are defined.
pub use Rattle.std.proofs.Common.{◌≡◌, ℕ, ◌^◌, ◌<◌, Bool, true, false, T, List, [], ◌∷◌, Ok, Err, refl, sym, subst, w64, Bor}
pub use seplogic.Ra.Ura.{Ura}
pub use mir.Syntax.{Ty, Fn, a_type, dnil, dcons}
pub use mir.Val.{Val, vint, vptr, vbool, vunit, has_ty, WT}
pub use mir.MapTy.{inst_fn}
pub use base.Logic.{SProp, ent, sep, id⊢, never_e}
pub use base.Fml.{Lft, Share, Fml, ftrue, ffalse, fsep, flft, froom}
pub use prog.Memory.{Memory, size, align, capped}
pub use prog.Routine.{Routine}
pub use prog.Wp.{WpFn, Tables}
pub use types.Logic.{Logic, sem}
pub use types.Kit.{Item, ⋆, ‵, raw, ◌⊛◌, some, later, given, at_ret, ◌$◌, ◌∵◌, !, qed, by, move, keep, use0, use1, use2}
pub use types.Kit.{split, split3, join, pick, learn, rewrite, fsplit, fjoin, feq_i, await}
pub use types.Part.{agg}
pub use types.Run.{stop, fld, addr, of_opd, unit_lit, lit, no_more, and_then, first, branches, skips, exec, returns, returns_within, enter}
pub use types.ByLocal.{alloc_all, pass_all, free_all, look_at, get, through, sets, lands_as, env}
pub use contract.BorrowLft.{◌⊑◌, ⊑_trans}
pub use contract.Monad.{Fun, fact}
pub use contract.Running.{tables}
pub use sound.WpLaws.{fm_of, WpFn-mono}
pub use denote.Builtin.{usize, RawPtr, RefOf}
pub use denote.Exit.{yes}
pub use denote.Memory.{hidden_shr}
pub use denote.Param.{bounded, param, layout}
pub use denote.Plain.{uint_vals, uint_Tells}
pub use denote.RattleType.{RattleType, owns}
pub use denote.RawPtr.{Ptr, block_ptr, null_ptr, ptr_val, rawptr_vals, rawptr_Tells}
pub use denote.Ref.{shr_vals}
pub use denote.Signature.{Slot, plain, types_at}
pub use denote.Steps.{heard, nothing}
pub use denote.Triple.Call.{calls_at}
pub use denote.Triple.Clauses.{Ended, Clauses, at_exit}
pub use denote.Triple.Spec.{triple_of}
pub use denote.Triple.Statement.{Triple, Contract}
pub use denote.Triple.Table.{entered, cited}
pub use denote.Triple.Walked.{Stays, stay_dropped, walk_of, walked, walk_Meets, Goes-dropped}
pub use Rattle.std.proofs.alloc.Calls.{Al, seen, token, Answer, answer_val, Answer-typed, Answer-Ok, Answer-err}
pub use Rattle.std.proofs.alloc.Calls.{takes_key, Takes, at_takes, Answered, Takes-goes, Takes-gives, answers}
pub use Rattle.std.proofs.alloc.Calls.{gives_key, Gives, at_gives, Gives-goes, Gives-Gives}
pub use Rattle.std.proofs.alloc.Resizes.{Shrinks, resize_key, Resizes, at_resizes, left_by, Resizes-goes, Resizes-gives}
pub use Rattle.std.proofs.alloc.Resizes.{result_of, result_own, asked, heard_all}
pub use Rattle.std.proofs.alloc.Shapes.{after}
pub use Rattle.std.proofs.raw_atomic.Walks.{leaves}
