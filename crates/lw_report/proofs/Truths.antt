-- Outcomes with the same observed words give the proposition the same truth value; and the truth of a
-- proposition follows from that of its parts. For the law about observed words, and for the cases of `holds`.
use Rattle.lw_report.proofs.Common.{final_word, ◌≡◌, ℕ, ◌⊎◌, inl, inr, Bool, true, false, List, [], ◌∷◌, ◌++◌}
use Rattle.lw_report.proofs.Common.{length, map, ◌||◌, refl, sym, ap, ◌∙◌, subst, filter, not, ◌==◌, ◌&&◌}
use Rattle.lw_report.proofs.Common.{slice_index, slice_index_or, true≢false, cases_Bool, or_cases, or_right}
use Rattle.lw_report.proofs.Common.{Formula, Reg_is, Word_is, Not, And, Or, TestHead, FinalState}
use Rattle.lw_report.proofs.Common.{MentionsOnly, Seen, Register, Location, seen_eq, all_registers, locations}
use Rattle.lw_report.proofs.Common.{has_seen, seen_eq-sound, seen_eq-refl, has_seen-append_left}
use Rattle.lw_report.proofs.Common.{has_seen-append_right, has_seen-register, has_seen-location, is_named}
use Rattle.lw_report.proofs.Common.{is_observed, observed_words, is_true}

-- If f and g give the same words for all names of a list that pass p, and s is in the list and passes p, they agree on s.
map_filter-same_at_member : (f g : Seen → ℕ) (p : Seen → Bool) (us : List Seen) (s : Seen)
    → map f (filter p us) ≡ map g (filter p us)
    → has_seen us s ≡ true
    → p s ≡ true
    → f s ≡ g s
map_filter-same_at_member f g p [] s e h k = absurd cc
map_filter-same_at_member f g p (u ∷ us) s e h k =
    go (cases_Bool (p u)) (or_cases (seen_eq u s) (has_seen us s) h) (map_filter-same_at_member f g p us s)
  where
    -- By whether the head passes p, and whether it is s.
    go : (p u ≡ true) ⊎ (p u ≡ false)
        → (seen_eq u s ≡ true) ⊎ (has_seen us s ≡ true)
        → (map f (filter p us) ≡ map g (filter p us) → has_seen us s ≡ true → p s ≡ true → f s ≡ g s)
        → f s ≡ g s
    go (inl t) (inl same) rest =
        let both : f u ∷ map f (filter p us) ≡ g u ∷ map g (filter p us) = rw t at e in
        subst (λ (x : Seen). f x ≡ g x) (seen_eq-sound u s same) cc
    go (inl t) (inr there) rest =
        let both : f u ∷ map f (filter p us) ≡ g u ∷ map g (filter p us) = rw t at e in
        let later : map f (filter p us) ≡ map g (filter p us) = cc in
        rest later there k
    go (inr t) (inl same) rest =
        let is = seen_eq-sound u s same in
        let clash = ap p is ∙ k in
        absurd cc
    go (inr t) (inr there) rest = let later = rw t at e in rest later there k

module _ (threads locs : ℕ) (o p : FinalState) where
  -- If two outcomes agree on all registers and locations that a formula names, it has the same truth value in both.
  is_true-same_words : (phi : Formula)
      → MentionsOnly threads locs phi
      → ((s : Seen)
      → has_seen (all_registers threads ++ locations locs) s ≡ true
      → is_named phi s ≡ true
      → final_word o s ≡ final_word p s)
      → is_true phi o ≡ is_true phi p
  is_true-same_words (Reg_is t r n) speaks same =
      ap (λ (w : ℕ). w == n)
      (same (Register t r)
      (has_seen-append_left (all_registers threads) (locations locs) (Register t r)
      (has_seen-register threads t r speaks.0 speaks.1)) (seen_eq-refl (Register t r)))
  is_true-same_words (Word_is x n) speaks same =
      ap (λ (w : ℕ). w == n)
      (same (Location x)
      (has_seen-append_right (all_registers threads) (locations locs) (Location x) (has_seen-location locs x speaks.0))
      (seen_eq-refl (Location x)))
  is_true-same_words (Not phi) speaks same = ap not (is_true-same_words phi speaks same)
  is_true-same_words (And phi psi) speaks same =
      let right = is_true-same_words psi speaks.1 (λ s h k. same s h (or_right _ (is_named psi s) k)) in
      rw ((is_true-same_words phi speaks.0 (λ s h k. same s h (rw k refl))), right) refl
  is_true-same_words (Or phi psi) speaks same =
      let right = is_true-same_words psi speaks.1 (λ s h k. same s h (or_right _ (is_named psi s) k)) in
      rw ((is_true-same_words phi speaks.0 (λ s h k. same s h (rw k refl))), right) refl
  is_true-same_words _ speaks same = refl

-- If two outcomes have the same observed words, the test's proposition has the same truth value in both.
pub is_true-same_observed_words : (head : TestHead) (o p : FinalState)
    → MentionsOnly head.threads (length head.locs) head.proposition
    → observed_words head o ≡ observed_words head p
    → is_true head.proposition o ≡ is_true head.proposition p
is_true-same_observed_words head o p speaks e =
    is_true-same_words head.threads (length head.locs) o p head.proposition speaks (λ s h k.
    map_filter-same_at_member (final_word o) (final_word p) (is_observed head)
    (all_registers head.threads ++ locations (length head.locs)) s e h (rw k refl))

-- If p is true, so is `p or q`.
pub or-left_true : (b p q : Bool) → b ≡ true → b ≡ p → b ≡ (p || q)
or-left_true true true q e h = refl
or-left_true true false q e h = absurd (true≢false h)
or-left_true false p q e h = absurd (true≢false (sym e))

-- If p is false, `p or q` equals q.
pub or-left_false : (b a p q : Bool) → a ≡ false → a ≡ p → b ≡ q → b ≡ (p || q)
or-left_false b false false q e h is = is
or-left_false b false true q e h is = absurd (true≢false (sym h))
or-left_false b true p q e h is = absurd (true≢false e)

-- If p is true, `p and q` equals q.
pub and-left_true : (b a p q : Bool) → a ≡ true → a ≡ p → b ≡ q → b ≡ (p && q)
and-left_true b true true q e h is = is
and-left_true b true false q e h is = absurd (true≢false h)
and-left_true b false p q e h is = absurd (true≢false (sym e))

-- If p is false, so is `p and q`.
pub and-left_false : (a p q : Bool) → a ≡ false → a ≡ p → a ≡ (p && q)
and-left_false false false q e h = refl
and-left_false false true q e h = absurd (true≢false (sym h))
and-left_false true p q e h = absurd (true≢false e)

-- If what is read is a register's word in the outcome, the code's test of it is the truth of the equation.
pub is_true-register_test : {regs : List (List ℕ)} {i j t r : ℕ} (o : FinalState) (n : ℕ)
    → regs ≡ o.regs
    → i ≡ t
    → j ≡ r
    → (slice_index (slice_index_or regs i []) j == n) ≡ is_true (Reg_is t r n) o
is_true-register_test o n are is_thread is_register = rw (are, is_thread, is_register) refl

-- If what is read is a location's word in the outcome, the code's test of it is the truth of the equation.
pub is_true-location_test : {words : List ℕ} {i x : ℕ} (o : FinalState) (n : ℕ)
    → words ≡ o.words
    → i ≡ x
    → (slice_index words i == n) ≡ is_true (Word_is x n) o
is_true-location_test o n are is_location = rw (are, is_location) refl
