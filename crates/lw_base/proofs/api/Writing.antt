-- Texts that are written in sequence. For every function that writes: its text is the concatenation of what
-- its calls have written, unless memory ran out.
use Rattle.lw_base.proofs.Common.{◌≡◌, ℕ, suc, ◌+◌, ◌<◌, ◌≤◌, List, ◌∷◌, ◌++◌, length, drop, get_or}
use Rattle.lw_base.proofs.Common.{append_assoc, drop-cons, zero-add, sym, ap, ◌∙◌, arith, flat_map}
use Rattle.lw_base.proofs.Common.{append-nil, Result, Ok, Err, OnOk, is_ok, if◌then◌else◌, range_with_len}
use Rattle.lw_base.proofs.Common.{get_or-range_with_len, length-range_with_len, drop_all, Bytes}

-- If first was written, and then second was, unless memory ran out, and the two make whole, then whole was.
pub written-two_parts : {T E : Type 0} {mid whole : Bytes} (answer : Result T E) (start end first second : Bytes)
    → mid ≡ start ++ first
    → first ++ second ≡ whole
    → OnOk answer (end ≡ mid ++ second)
    → OnOk answer (end ≡ start ++ whole)
written-two_parts (Err x) start end first second before together written = tt
written-two_parts (Ok x) start end first second before together written =
    written ∙ ap (λ t. t ++ second) before ∙ append_assoc start first second ∙ ap (λ t. start ++ t) together

-- If `push_str` appended the text if it succeeded, and nothing otherwise, then the text was appended unless it failed.
pub OnOk-push_str : {T E : Type 0} (answer : Result T E) (start end text : Bytes)
    → end ≡ (if is_ok answer then start ++ text else start)
    → OnOk answer (end ≡ start ++ text)
OnOk-push_str (Err x) start end text told = tt
OnOk-push_str (Ok x) start end text told = told

-- If text was written, and whole is the same text, then whole was written.
pub written-equal_text : {T E : Type 0} (answer : Result T E) (start end text whole : Bytes)
    → text ≡ whole
    → OnOk answer (end ≡ start ++ text)
    → OnOk answer (end ≡ start ++ whole)
written-equal_text (Err x) start end text whole same written = tt
written-equal_text (Ok x) start end text whole same written = written ∙ ap (λ t. start ++ t) same

-- ---- A loop over items, whose texts are written in sequence: what is written, followed by the texts of the remaining items, makes goal.

module _ {X : Type 0} (f : X → Bytes) (xs : List X) (k : ℕ) (out goal : Bytes)
    (before : out ++ flat_map f (drop k xs) ≡ goal) where
  -- Writing one more item's text preserves that what is written, followed by the remaining texts, makes goal.
  pub items_written-push : (x : X) (new : Bytes)
      → k < length xs
      → x ≡ get_or xs k x
      → new ≡ out ++ f x
      → new ++ flat_map f (drop (k + 1) xs) ≡ goal
  items_written-push x new lt is written =
      let next : suc k ≡ k + 1 = omega arith in
      let here : drop k xs ≡ x ∷ drop (k + 1) xs =
      drop-cons xs k x lt ∙ ap (λ y. y ∷ drop (suc k) xs) (sym is) ∙ ap (λ (n : ℕ). x ∷ drop n xs) next in
      let rest = flat_map f (drop (k + 1) xs) in
      ap (λ t. t ++ rest) written ∙ append_assoc out (f x) rest ∙ ap (λ t. out ++ t) (sym (ap (flat_map f) here)) ∙ before

  -- When the texts of all items are written, what is written is goal.
  pub items_written-all : length xs ≤ k → out ≡ goal
  items_written-all le = sym (ap (λ l. out ++ flat_map f l) (drop_all k xs le) ∙ append-nil out) ∙ before

-- If first was written, and then second, then their concatenation was.
pub written-append : (start mid end first second : Bytes)
    → mid ≡ start ++ first
    → end ≡ mid ++ second
    → end ≡ start ++ (first ++ second)
written-append start mid end first second before written =
    written ∙ ap (λ t. t ++ second) before ∙ append_assoc start first second

-- ---- The same for a loop over the numbers below len.

module _ (f : ℕ → Bytes) (len k : ℕ) (out goal : Bytes) (before : out ++ flat_map f (drop k (range_with_len 0 len)) ≡ goal) where
  -- Writing the text of one more number preserves that what is written, followed by the remaining texts, makes goal.
  pub numbers_written-push : (new : Bytes)
      → k < len
      → new ≡ out ++ f k
      → new ++ flat_map f (drop (k + 1) (range_with_len 0 len)) ≡ goal
  numbers_written-push new lt written =
      let is = sym (get_or-range_with_len 0 len k k lt ∙ zero-add k) in
      items_written-push f _ k out goal before k new (omega (arith, length-range_with_len 0 len)) is written

  -- When the texts of all numbers are written, what is written is goal.
  pub numbers_written-all : len ≤ k → out ≡ goal
  numbers_written-all le =
      items_written-all f (range_with_len 0 len) k out goal before (omega (arith, length-range_with_len 0 len))
