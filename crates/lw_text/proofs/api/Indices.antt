-- In a range from 0 each number is its own index. The page of a replay is printed by this.
use Rattle.lw_text.proofs.Common.{◌≡◌, ℕ, ◌<◌, ◌≤◌, List, length, take, get_or, ap, ◌∙◌, arith, zero-add}
use Rattle.lw_text.proofs.Common.{get_or-take, length-take, range_with_len, get_or-range_with_len}
use Rattle.lw_text.proofs.Common.{length-range_with_len}

-- In a prefix of the range from 0, the number at index k is k.
pub is_index : (n len : ℕ) {k x : ℕ} {all xs : List ℕ}
    → all ≡ range_with_len 0 n
    → xs ≡ take len all
    → k < length xs
    → x ≡ get_or xs k x
    → x ≡ k
is_index n len {k = k} {x = x} {xs = xs} e f lt is =
    let cut : xs ≡ take len (range_with_len 0 n) = f ∙ ap (take len) e in
    let short : length xs ≤ n = omega (arith, ap length cut, length-take len (range_with_len 0 n), length-range_with_len 0 n) in
    let at = get_or-take len _ k x (omega (arith, ap length cut, length-take len (range_with_len 0 n))) in
    is ∙ ap (λ l. get_or l k x) cut ∙ at ∙ get_or-range_with_len 0 n k x (omega arith) ∙ zero-add k
