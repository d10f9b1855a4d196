-- The memory that blocks and free lists own, and the right to free a block.
use Rattle.std.specs.Prelude.{ℕ, zero, suc, ◌^◌, ◌<◌, []}
use mir.Syntax.{Ty, w128, ty_int, ty_ptr, ty_array, ty_struct, tcons, tnil}
use mir.Val.{Val, vstruct, vcons, vnil}
use prog.Memory.{size}
use base.Fraction.{full_share}
use base.Fml.{Fml, ffalse, ftrue, fsep, fex, fwand, fat, froom}
use denote.RawPtr.{Ptr, block_ptr, null_ptr, ptr_val, room_for}
use Rattle.lw_arena.specs.Sizes.{block_units}

-- The type of k units of memory: 16 bytes each, aligned to 16.
abbrev pub units : ℕ → Ty
units k = ty_array (ty_int w128) k

-- The k units of memory at p, with any content. If k is 0, p may be any pointer.
abbrev pub memory : ℕ → Ptr → Fml
memory zero p = ftrue
memory (suc k) p = room_for (units (suc k)) p

-- The layout of `Node` in memory.
abbrev pub node_type : Ty
node_type = ty_struct [] (tcons ty_ptr tnil)

-- The machine value of a node.
abbrev pub node_val : Ptr → Val
node_val next = vstruct (vcons (ptr_val next) vnil)

-- A free block of k units at p: a node that points to next, and the right to have the whole block for the memory of that node.
abbrev pub link : ℕ → Ptr → Ptr → Fml
link k null_ptr next = ffalse
link k (block_ptr b o) next =
    fsep (fat full_share node_type b o (node_val next)) (fwand (froom node_type b o) (froom (units k) b o))

-- The n free blocks of k units that are linked from p on.
abbrev pub chain : ℕ → ℕ → Ptr → Fml
chain k zero p = ftrue
chain k (suc n) p = fex Ptr (λ next. fsep (link k p next) (chain k n next))

-- The right to free the block of a τ at p: with the memory of the τ it is the whole block again. It names no arena, so any arena accepts
-- it.
abbrev pub block_token : Ty → Ptr → Fml
block_token τ p = fex (size τ < 2 ^ 63) (λ _. fwand (room_for τ p) (memory (block_units (size τ)) p))
