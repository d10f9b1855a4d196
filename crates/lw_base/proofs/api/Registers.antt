-- A token names at most one register. So a cell of a test is read in one way.
use Rattle.lw_base.proofs.Common.{byte, registers, ◌≡◌, ℕ, suc, ◌+◌, ◌<◌, [], ◌∷◌, Some, None, Option, refl}
use Rattle.lw_base.proofs.Common.{sym, ap, ◌∙◌, arith, if◌then◌else◌, codes, bytes_eq, Bytes, Arch, Source}
use Rattle.lw_base.proofs.Common.{X86, IsRegisterName, register_name, lowercase_if_x86}

-- The index of the x86 register that a text in small letters names; `None` if it names none.
abbrev x86_register_of : Bytes → Option ℕ
x86_register_of w =
    if bytes_eq w (codes "eax")
    then Some 0
    else (if bytes_eq w (codes "ebx")
    then Some 1
    else (if bytes_eq w (codes "ecx")
    then Some 2
    else (if bytes_eq w (codes "edx")
    then Some 3
    else (if bytes_eq w (codes "esi") then Some 4 else (if bytes_eq w (codes "edi") then Some 5 else None)))))

-- The name of an x86 register, in small letters, names that register.
x86_register_of-register_name : (r : ℕ) → r < registers → x86_register_of (lowercase_if_x86 X86 (register_name X86 r)) ≡ Some r
x86_register_of-register_name (suc (suc (suc (suc (suc (suc r)))))) h = absurd (omega arith)
x86_register_of-register_name _ h = refl

-- If a token names the registers r and q of a language, they are the same.
pub register_of_name-unique : (arch : Arch) (w : Bytes) (r q : ℕ) → IsRegisterName arch w r → IsRegisterName arch w q → r ≡ q
register_of_name-unique Source w r q h k =
    let e : byte "r" ∷ (byte "0" + r) ∷ [] ≡ byte "r" ∷ (byte "0" + q) ∷ [] = h.1 ∙ sym k.1 in
    let f : byte "0" + r ≡ byte "0" + q = cc in
    omega arith
register_of_name-unique X86 w r q h k =
    let e : Some r ≡ Some q =
    sym (x86_register_of-register_name r h.0) ∙ ap x86_register_of (h.1 ∙ sym k.1) ∙ x86_register_of-register_name q k.0 in
    cc
