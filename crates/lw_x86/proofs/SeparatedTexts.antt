-- Parts of a line, each after what separates it from the one before: the invariant of the loops that write a
-- header, a row or a list, and what holds at their end.
use Rattle.lw_x86.proofs.Common.{◌≡◌, ℕ, suc, ◌+◌, ◌≤◌, List, [], ◌∷◌, ◌++◌, length, length-take, take, arith}
use Rattle.lw_x86.proofs.Common.{append_assoc, append-nil, Some, slice_get, take_all, ◌==◌, false, refl}
use Rattle.lw_x86.proofs.Common.{Result, OnOk, is_ok, if◌then◌else◌, nat_tests, flat_map-append}
use Rattle.lw_x86.proofs.Common.{slice_get_within, joined, Bytes, take-suc, written-append, written-two_parts}
use Rattle.lw_x86.proofs.Common.{OnOk-push_str, separator}

-- Appending a part appends the separator and that part to the joined text.
joined-snoc : (between : Bytes) (parts : List Bytes) (part : Bytes)
    → joined between (parts ++ part ∷ []) ≡ joined between parts ++ (separator (length parts) between ++ part)
joined-snoc between [] part = append-nil part
joined-snoc between (first ∷ parts) part =
    let later : (suc (length parts) == 0) ≡ false = grind (arith, nat_tests) in
    rw (later, flat_map-append (λ p. between ++ p) parts (part ∷ []), append-nil (between ++ part), append_assoc first) refl

module _ (between : Bytes) (parts : List Bytes) (k : ℕ) (start out : Bytes)
    (before : out ≡ start ++ joined between (take k parts)) where
  -- Writing the next part after its separator extends the first k parts to `k + 1`.
  pub joined_prefix-push : (part new : Bytes)
      → slice_get parts k ≡ Some part
      → new ≡ out ++ (separator k between ++ part)
      → new ≡ start ++ joined between (take (k + 1) parts)
  joined_prefix-push part new is written =
      let next : k + 1 ≡ suc k = omega arith in
      let long : length (take k parts) ≡ k = omega (arith, length-take k parts, slice_get_within parts k part is) in
      rw (
        next,
        take-suc parts k part is,
        joined-snoc between (take k parts) part,
        long,
        ← append_assoc start (joined between (take k parts)),
        ← before,
      ) written

  -- If there are at most k parts, all parts of the line were written.
  pub joined_prefix-whole : length parts ≤ k → out ≡ start ++ joined between parts
  joined_prefix-whole all = rw (← take_all k parts all) before

-- If what precedes a line's parts was written, then the parts, and then the line's end, the line was written.
pub OnOk-line_written : {T E : Type 0} (answer : Result T E) (start front parts back : Bytes) {opened told end : Bytes}
    → opened ≡ start ++ front
    → told ≡ opened ++ parts
    → end ≡ (if is_ok answer then told ++ back else told)
    → OnOk answer (end ≡ start ++ (front ++ (parts ++ back)))
OnOk-line_written answer start front parts back {opened} {told} {end} opens tells ends =
    written-two_parts answer start end (front ++ parts) back (written-append start opened told front parts opens tells)
    (append_assoc front parts back) (OnOk-push_str answer told end back ends)
