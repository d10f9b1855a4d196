-- The texts of an initial block's initializers, one by one, as the code writes them. The loops of block.rt
-- write them so.
use Rattle.lw_x86.proofs.Common.{◌≡◌, ℕ, List, [], ◌∷◌, map, refl, flat_map, range_with_len, flat_map-append}
use Rattle.lw_x86.proofs.Common.{Bytes, TestHead, Register, Location, thread_registers, all_registers}
use Rattle.lw_x86.proofs.Common.{locations, initializer_text, register_initializer}

-- The text of a location's initializer.
abbrev pub location_initializer : TestHead → ℕ → Bytes
location_initializer head x = initializer_text head (Location x)

-- The text of a register's initializer; empty if the register starts with 0.
abbrev pub initializer_of_register : TestHead → ℕ → ℕ → Bytes
initializer_of_register head t r = register_initializer head (Register t r)

-- The concatenated texts of the initializers of a thread's registers.
abbrev pub thread_initializers : TestHead → ℕ → Bytes
thread_initializers head t = flat_map (register_initializer head) (thread_registers t)

-- A `flat_map` of a `map` is a `flat_map`.
flat_map-map : {X Y : Type 0} (f : Y → Bytes) (g : X → Y) (xs : List X) → flat_map f (map g xs) ≡ flat_map (λ x. f (g x)) xs
flat_map-map f g [] = refl
flat_map-map f g (x ∷ xs) = rw (flat_map-map f g xs) refl

-- A `flat_map` of a `flat_map` is a single `flat_map`.
flat_map-flat_map : {X Y : Type 0} (f : Y → Bytes) (g : X → List Y) (xs : List X)
    → flat_map f (flat_map g xs) ≡ flat_map (λ x. flat_map f (g x)) xs
flat_map-flat_map f g [] = refl
flat_map-flat_map f g (x ∷ xs) = rw (flat_map-append f (g x), flat_map-flat_map f g xs) refl

-- The texts of the locations' initializers, index by index.
pub initializer_texts-locations : (head : TestHead) (len : ℕ)
    → flat_map (initializer_text head) (locations len) ≡ flat_map (location_initializer head) (range_with_len 0 len)
initializer_texts-locations head len = flat_map-map (initializer_text head) (λ x. Location x) (range_with_len 0 len)

-- The texts of the registers' initializers, thread by thread.
pub initializer_texts-registers : (head : TestHead) (threads : ℕ)
    → flat_map (register_initializer head) (all_registers threads)
    ≡ flat_map (thread_initializers head) (range_with_len 0 threads)
initializer_texts-registers head threads = flat_map-flat_map (register_initializer head) thread_registers _
