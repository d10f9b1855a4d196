-- Pieces of a schedule that have the shape of an event, and pieces that are rejected. For `parse_event` and
-- `parse_eviction`, which must be right when they fail.
use Rattle.lw_base.proofs.Common.{byte, All-from_recursion, rules, ◌≡◌, ◌≢◌, ◌⊎◌, not, ℕ, ◌<◌, ◌+◌, ◌==◌, inl}
use Rattle.lw_base.proofs.Common.{inr, true, false, [], ◌∷◌, ◌++◌, length, refl, sym, ap, ◌∙◌, subst, arith}
use Rattle.lw_base.proofs.Common.{true≢false, eqb-true, append-nil, slice_get, slice_index_or, Some, Contains}
use Rattle.lw_base.proofs.Common.{not-false, agree_below_at, nat_tests, Contains-get_or, slice_get_within}
use Rattle.lw_base.proofs.Common.{get_or_from_slice_get, is_ascii_digit, AllByRecursion, list_all, Bytes}
use Rattle.lw_base.proofs.Common.{NameTable, DoesNotContain, IsSplitAtFirst, first_byte_is, most_threads}
use Rattle.lw_base.proofs.Common.{IsUnreservedName, IsNameShaped, IsNameTable, are_digits, HasEventParts}
use Rattle.lw_base.proofs.Common.{HasEventShape, IsCpu, IsFaultyPiece, IsEvent, event_text, HasBadDigits}
use Rattle.lw_base.proofs.Common.{Event, Step, Drain, Evict, ScheduleCause, Word, Cpu, Memory}
use Rattle.lw_base.proofs.api.Lists.{not-cons_eq-if_heads_differ}
use Rattle.lw_base.specs.declared.fault.ScheduleCause.TheVariants.{Location}

-- Equal texts have equal rests after their first bytes.
cons-tail_eq : (a b : ℕ) (u v : Bytes) → a ∷ u ≡ b ∷ v → u ≡ v
cons-tail_eq a b u v same = cc

-- Digits do not contain a `:`.
no_colon : (ds : Bytes) → list_all is_ascii_digit ds ≡ true → AllByRecursion (λ b. b ≢ byte ":") ds
no_colon [] h = tt
no_colon (b ∷ ds) h =
    let front : is_ascii_digit b ≡ true = search rules in
    let rest : list_all is_ascii_digit ds ≡ true = search rules in
    ((λ e. let k : is_ascii_digit (byte ":") ≡ true = rw e at front in absurd (true≢false (sym k))), no_colon ds rest)

-- The digits of an event, of which there is at least one, do not contain a `:`.
event_digits-no_colon : (ds : Bytes) → are_digits ds ≡ true → AllByRecursion (λ b. b ≢ byte ":") ds
event_digits-no_colon [] h = tt
event_digits-no_colon (b ∷ ds) h = let some : (length (b ∷ ds) == 0) ≡ false = search rules in no_colon (b ∷ ds) (rw some at h)

-- If a text is split at a `:` in two ways, and no `:` is before it in either, the two are the same.
colon_split-unique : (a c n m : Bytes)
    → AllByRecursion (λ b. b ≢ byte ":") a
    → AllByRecursion (λ b. b ≢ byte ":") c
    → a ++ byte ":" ∷ n ≡ c ++ byte ":" ∷ m
    → (a ≡ c) × (n ≡ m)
colon_split-unique [] [] n m h k e = (refl, cc)
colon_split-unique [] (d ∷ c) n m h k e = absurd (k.0 cc)
colon_split-unique (b ∷ a) [] n m h k e = absurd (h.0 cc)
colon_split-unique (b ∷ a) (d ∷ c) n m h k e = let p = colon_split-unique a c n m h.1 k.1 cc in (cc, p.1)

-- Not all bytes of a text with a `:` in it differ from `:`.
not-no_colon-of_append : (ds n : Bytes) → AllByRecursion (λ b. b ≢ byte ":") (ds ++ byte ":" ∷ n) → ⊥
not-no_colon-of_append [] n h = h.0 refl
not-no_colon-of_append (b ∷ ds) n h = not-no_colon-of_append ds n h.1

-- A text after `E` that has no `:` is rejected, since it does not have the shape of an event.
pub IsFaultyPiece-no_colon : (names : NameTable) (text : Bytes)
    → AllByRecursion (λ b. b ≢ byte ":") text
    → IsFaultyPiece names (byte "E" ∷ text) Word
IsFaultyPiece-no_colon names text others ds shape = go shape.1
  where
    -- By the letter with which the parts say that the piece begins: it is `E`, and then the text has a `:`.
    go : HasEventParts (byte "E" ∷ text) ds → ⊥
    go (inl e) = not-cons_eq-if_heads_differ (byte "E") (byte "P") _ _ (λ k. omega arith) e
    go (inr (inl e)) = not-cons_eq-if_heads_differ (byte "E") (byte "D") _ _ (λ k. omega arith) e
    go (inr (inr h)) =
        not-no_colon-of_append ds h.0
        (subst (AllByRecursion (λ b. b ≢ byte ":")) (cons-tail_eq (byte "E") (byte "E") _ _ h.2) others)

-- A text after `E`, split at its first `:`.
module _ (names : NameTable) (text digits name : Bytes) (cut : text ≡ digits ++ byte ":" ∷ name)
    (others : AllByRecursion (λ b. b ≢ byte ":") digits) where
  -- If `E` and the text have the shape of an event with the digits ds, these come before the `:`, and a name-shaped text after it.
  HasEventShape-eviction_inv : (ds : Bytes) → HasEventShape (byte "E" ∷ text) ds → (digits ≡ ds) × IsNameShaped name
  HasEventShape-eviction_inv ds shape = go shape.1
    where
      -- By the letter with which the parts say that the piece begins: it is `E`, and the text has one split at its first `:`.
      go : HasEventParts (byte "E" ∷ text) ds → (digits ≡ ds) × IsNameShaped name
      go (inl e) = absurd (not-cons_eq-if_heads_differ (byte "E") (byte "P") _ _ (λ k. omega arith) e)
      go (inr (inl e)) = absurd (not-cons_eq-if_heads_differ (byte "E") (byte "D") _ _ (λ k. omega arith) e)
      go (inr (inr h)) =
          let e : digits ++ byte ":" ∷ name ≡ ds ++ byte ":" ∷ h.0 = sym cut ∙ cons-tail_eq (byte "E") (byte "E") _ _ h.2 in
          let p = colon_split-unique digits ds name h.0 others (event_digits-no_colon ds shape.0) e in
          (p.0, subst IsNameShaped (sym p.1) h.1)

  -- If the text after the `:` is not name-shaped, the piece is rejected, since it does not have the shape of an event.
  pub IsFaultyPiece-no_name : (IsNameShaped name → ⊥) → IsFaultyPiece names (byte "E" ∷ text) Word
  IsFaultyPiece-no_name none ds shape = none (HasEventShape-eviction_inv ds shape).1

  -- If the text before the `:` is rejected for a cause, as no digits or no processor's index, so is the piece.
  pub IsFaultyPiece-no_cpu : IsNameShaped name
      → (e : ScheduleCause)
      → HasBadDigits digits e
      → IsFaultyPiece names (byte "E" ∷ text) e
  IsFaultyPiece-no_cpu named Word bad =
      λ ds shape. true≢false (sym shape.0 ∙ ap are_digits (sym (HasEventShape-eviction_inv ds shape).0) ∙ bad)
  IsFaultyPiece-no_cpu named Cpu bad = (digits, (bad.0, inr (inr (name, named, ap (λ t. byte "E" ∷ t) cut))), bad.1)
  IsFaultyPiece-no_cpu named _ bad = absurd bad

  -- If a processor's digit is before the `:`, and after it a name that is not in the table, the piece is rejected for that.
  pub IsFaultyPiece-no_location : IsNameShaped name
      → IsCpu digits
      → (Contains names name → ⊥)
      → IsFaultyPiece names (byte "E" ∷ text) Location
  IsFaultyPiece-no_location named cpu missing = (digits, name, cpu, named, ap (λ t. byte "E" ∷ t) cut, missing)

  -- If the digit of processor c is before the `:`, and after it the name of location l, `E` and the text are that eviction's.
  pub IsEventText-eviction : (c l : ℕ)
      → c < most_threads
      → digits ≡ (byte "0" + c) ∷ []
      → slice_get names l ≡ Some name
      → ((c < most_threads) × (l < length names))
      × (byte "E" ∷ (byte "0" + c) ∷ byte ":" ∷ slice_index_or names l [] ≡ byte "E" ∷ text)
  IsEventText-eviction c l h digit at =
      let named : slice_index_or names l [] ≡ name = get_or_from_slice_get names l name [] at in
      ((h, slice_get_within names l name at), ap (λ t. byte "E" ∷ t) (rw (cut, digit, named) refl))

-- The text of a processor's index, which is one digit, consists of digits.
are_digits-cpu_index : (c : ℕ) → c < most_threads → are_digits ((byte "0" + c) ∷ []) ≡ true
are_digits-cpu_index c h = agree_below_at (λ d. are_digits ((byte "0" + d) ∷ [])) (λ d. true) most_threads c refl h

-- For a table of names, the text of an event of the test has the shape of an event, with the digit of a processor.
HasEventShape-event_text : (names : NameTable)
    → IsNameTable names
    → (e : Event)
    → IsEvent names e
    → (ds : Bytes) × IsCpu ds × HasEventShape (event_text names e) ds
HasEventShape-event_text names table (Step c) is = ((byte "0" + c) ∷ [], (c, is, refl), (are_digits-cpu_index c is, inl refl))
HasEventShape-event_text names table (Drain c) is =
    ((byte "0" + c) ∷ [], (c, is, refl), (are_digits-cpu_index c is, inr (inl refl)))
HasEventShape-event_text names table (Evict c l) is = (
  (byte "0" + c) ∷ [],
  (c, is.0, refl),
  (
    are_digits-cpu_index c is.0,
    inr (inr (slice_index_or names l [], (All-from_recursion IsUnreservedName names table.are_unreserved l [] is.1).0.0, refl)),
  ),
)

-- A piece has the shape of an event with at most one text of digits.
HasEventShape-unique : (w ds es : Bytes) → HasEventShape w ds → HasEventShape w es → ds ≡ es
HasEventShape-unique w ds es shape other = go shape.1 other.1
  where
    -- By the letters with which the parts of w begin: they are the same, and so are the digits after them.
    go : HasEventParts w ds → HasEventParts w es → ds ≡ es
    go (inl e) (inl f) = cons-tail_eq (byte "P") (byte "P") _ _ (sym e ∙ f)
    go (inl e) (inr (inl f)) = absurd (not-cons_eq-if_heads_differ (byte "P") (byte "D") _ _ (λ k. omega arith) (sym e ∙ f))
    go (inl e) (inr (inr f)) = absurd (not-cons_eq-if_heads_differ (byte "P") (byte "E") _ _ (λ k. omega arith) (sym e ∙ f.2))
    go (inr (inl e)) (inl f) = absurd (not-cons_eq-if_heads_differ (byte "D") (byte "P") _ _ (λ k. omega arith) (sym e ∙ f))
    go (inr (inl e)) (inr (inl f)) = cons-tail_eq (byte "D") (byte "D") _ _ (sym e ∙ f)
    go (inr (inl e)) (inr (inr f)) =
        absurd (not-cons_eq-if_heads_differ (byte "D") (byte "E") _ _ (λ k. omega arith) (sym e ∙ f.2))
    go (inr (inr e)) (inl f) = absurd (not-cons_eq-if_heads_differ (byte "E") (byte "P") _ _ (λ k. omega arith) (sym e.2 ∙ f))
    go (inr (inr e)) (inr (inl f)) =
        absurd (not-cons_eq-if_heads_differ (byte "E") (byte "D") _ _ (λ k. omega arith) (sym e.2 ∙ f))
    go (inr (inr e)) (inr (inr f)) =
        let same : ds ++ byte ":" ∷ e.0 ≡ es ++ byte ":" ∷ f.0 = cons-tail_eq (byte "E") (byte "E") _ _ (sym e.2 ∙ f.2) in
        (colon_split-unique ds es e.0 f.0 (event_digits-no_colon ds shape.0) (event_digits-no_colon es other.0) same).0

-- For a table of names, a piece that is rejected for a cause is the text of no event of the test.
pub not-event_text-if_faulty : (names : NameTable)
    → IsNameTable names
    → (w : Bytes) (cause : ScheduleCause)
    → IsFaultyPiece names w cause
    → (e : Event)
    → IsEvent names e
    → event_text names e ≡ w
    → ⊥
not-event_text-if_faulty names table w Word faulty e is same =
    let s = HasEventShape-event_text names table e is in faulty s.0 (subst (λ v. HasEventShape v s.0) same s.2)
not-event_text-if_faulty names table w Cpu faulty e is same =
    let s = HasEventShape-event_text names table e is in
    faulty.2 (subst IsCpu (HasEventShape-unique w s.0 faulty.0 (subst (λ v. HasEventShape v s.0) same s.2) faulty.1) s.1)
not-event_text-if_faulty names table w Location (ds, n, cpu, text, is_word, missing) (Step c) is same =
    not-cons_eq-if_heads_differ (byte "P") (byte "E") _ _ (λ k. omega arith) (same ∙ is_word)
not-event_text-if_faulty names table w Location (ds, n, cpu, text, is_word, missing) (Drain c) is same =
    not-cons_eq-if_heads_differ (byte "D") (byte "E") _ _ (λ k. omega arith) (same ∙ is_word)
not-event_text-if_faulty names table w Location (ds, n, cpu, text, is_word, missing) (Evict c l) is same =
    let e : (byte "0" + c) ∷ byte ":" ∷ slice_index_or names l [] ≡ ds ++ byte ":" ∷ n =
    cons-tail_eq (byte "E") (byte "E") _ _ (same ∙ is_word) in
    let d : ds ≡ (byte "0" + cpu.0) ∷ [] = cpu.2 in
    let named : slice_index_or names l [] ≡ n = cc in
    missing (subst (Contains names) named (Contains-get_or names l [] is.1))
not-event_text-if_faulty names table w Memory faulty e is same = absurd faulty

-- ---- Pieces without a `:`, and without an event's letter.

-- A text all of whose bytes differ from b does not contain b.
DoesNotContain-if_all_differ : (b : ℕ) (front : Bytes) → AllByRecursion (λ c. not (c == b) ≡ true) front → DoesNotContain b front
DoesNotContain-if_all_differ b [] all = tt
DoesNotContain-if_all_differ b (c ∷ front) all = (differ, DoesNotContain-if_all_differ b front all.1)
  where
    -- The head differs from b, since the comparison says so.
    differ : c ≢ b
    differ e = let k = subst (λ d. not (d == b) ≡ true) e all.0 in grind (arith, nat_tests)

-- A text does not contain b if nothing remains after its longest prefix of other bytes.
pub DoesNotContain-if_no_rest : {text : Bytes} (b : ℕ) (front rest : Bytes)
    → text ≡ front ++ rest
    → AllByRecursion (λ c. not (c == b) ≡ true) front
    → length rest ≡ 0
    → DoesNotContain b text
DoesNotContain-if_no_rest b front [] parts all none =
    subst (DoesNotContain b) (sym (parts ∙ append-nil front)) (DoesNotContain-if_all_differ b front all)
DoesNotContain-if_no_rest b front (c ∷ rest) parts all none = absurd (omega (arith, none))

-- A text is split at b if b follows its longest prefix of other bytes.
pub IsSplitAtFirst-longest_prefix : {text rest others : Bytes} {x : ℕ} (b : ℕ) (front : Bytes)
    → text ≡ front ++ rest
    → AllByRecursion (λ c. not (c == b) ≡ true) front
    → first_byte_is (λ c. not (c == b)) rest ≡ false
    → rest ≡ x ∷ others
    → IsSplitAtFirst b text front others
IsSplitAtFirst-longest_prefix {others} {x} b front parts all longest is =
    (parts ∙ ap (λ r. front ++ r) (is ∙ ap (λ y. y ∷ others) first), DoesNotContain-if_all_differ b front all)
  where
    -- The byte after the prefix is b, since the test for other bytes fails at it.
    first : x ≡ b
    first = eqb-true x b (not-false (x == b) (ap (first_byte_is (λ c. not (c == b))) (sym is) ∙ longest))

-- An empty piece does not have the shape of an event.
pub not-HasEventShape-nil : (w ds : Bytes) → length w ≡ 0 → HasEventShape w ds → ⊥
not-HasEventShape-nil [] ds none shape = go shape.1
  where
    -- By the letter with which the parts begin: the empty piece has none.
    go : HasEventParts [] ds → ⊥
    go (inl e) = cc
    go (inr (inl e)) = cc
    go (inr (inr h)) = let e = h.2 in cc
not-HasEventShape-nil (b ∷ w) ds none shape = omega (arith, none)

-- If a piece with an event's parts begins with `P` or `D`, its digits are the rest.
HasEventParts-digits_eq_rest : (w rest ds : Bytes)
    → (w ≡ byte "P" ∷ rest) ⊎ (w ≡ byte "D" ∷ rest)
    → HasEventParts w ds
    → rest ≡ ds
HasEventParts-digits_eq_rest w rest ds (inl e) (inl f) = cons-tail_eq (byte "P") (byte "P") _ _ (sym e ∙ f)
HasEventParts-digits_eq_rest w rest ds (inl e) (inr (inl f)) =
    absurd (not-cons_eq-if_heads_differ (byte "P") (byte "D") _ _ (λ k. omega arith) (sym e ∙ f))
HasEventParts-digits_eq_rest w rest ds (inl e) (inr (inr f)) =
    absurd (not-cons_eq-if_heads_differ (byte "P") (byte "E") _ _ (λ k. omega arith) (sym e ∙ f.2))
HasEventParts-digits_eq_rest w rest ds (inr e) (inl f) =
    absurd (not-cons_eq-if_heads_differ (byte "D") (byte "P") _ _ (λ k. omega arith) (sym e ∙ f))
HasEventParts-digits_eq_rest w rest ds (inr e) (inr (inl f)) = cons-tail_eq (byte "D") (byte "D") _ _ (sym e ∙ f)
HasEventParts-digits_eq_rest w rest ds (inr e) (inr (inr f)) =
    absurd (not-cons_eq-if_heads_differ (byte "D") (byte "E") _ _ (λ k. omega arith) (sym e ∙ f.2))

-- A piece that begins with `P` or `D` has an event's parts, with the rest as its digits.
HasEventParts-step_or_drain : (w rest : Bytes) → (w ≡ byte "P" ∷ rest) ⊎ (w ≡ byte "D" ∷ rest) → HasEventParts w rest
HasEventParts-step_or_drain w rest (inl e) = inl e
HasEventParts-step_or_drain w rest (inr e) = inr (inl e)

-- A piece that begins with `P` or `D`, followed by anything else than digits, does not have the shape of an event.
not-HasEventShape-if_no_digits : (w rest : Bytes)
    → (w ≡ byte "P" ∷ rest) ⊎ (w ≡ byte "D" ∷ rest)
    → are_digits rest ≡ false
    → (ds : Bytes)
    → HasEventShape w ds
    → ⊥
not-HasEventShape-if_no_digits w rest is bad ds shape =
    true≢false (sym (subst (λ r. are_digits r ≡ true) (sym (HasEventParts-digits_eq_rest w rest ds is shape.1)) shape.0) ∙ bad)

-- A piece that begins with `P` or `D` is rejected for a cause for which its rest is rejected as digits.
IsFaultyPiece-bad_digits : (names : NameTable) (w rest : Bytes)
    → (w ≡ byte "P" ∷ rest) ⊎ (w ≡ byte "D" ∷ rest)
    → (cause : ScheduleCause)
    → HasBadDigits rest cause
    → IsFaultyPiece names w cause
IsFaultyPiece-bad_digits names w rest is Word bad = not-HasEventShape-if_no_digits w rest is bad
IsFaultyPiece-bad_digits names w rest is Cpu bad = (rest, (bad.0, HasEventParts-step_or_drain w rest is), bad.1)
IsFaultyPiece-bad_digits names w rest is _ bad = absurd bad

-- A piece that begins with `P` is rejected for a cause for which its rest is rejected as digits.
pub IsFaultyPiece-bad_step : (names : NameTable) (w rest : Bytes) (x : ℕ) (cause : ScheduleCause)
    → w ≡ x ∷ rest
    → x ≡ byte "P"
    → HasBadDigits rest cause
    → IsFaultyPiece names w cause
IsFaultyPiece-bad_step names w rest x cause is letter bad =
    IsFaultyPiece-bad_digits _ w rest (inl (is ∙ ap (λ y. y ∷ rest) letter)) _ bad

-- A piece that begins with `D` is rejected for a cause for which its rest is rejected as digits.
pub IsFaultyPiece-bad_drain : (names : NameTable) (w rest : Bytes) (x : ℕ) (cause : ScheduleCause)
    → w ≡ x ∷ rest
    → x ≡ byte "D"
    → HasBadDigits rest cause
    → IsFaultyPiece names w cause
IsFaultyPiece-bad_drain names w rest x cause is letter bad =
    IsFaultyPiece-bad_digits _ w _ (inr (is ∙ ap (λ y. y ∷ rest) letter)) _ bad

-- A piece that is x followed by rest is y followed by remainder, if x is y and rest is remainder.
pub cons_eq-same_parts : (w rest remainder : Bytes) (x y : ℕ) → w ≡ x ∷ rest → x ≡ y → rest ≡ remainder → y ∷ remainder ≡ w
cons_eq-same_parts w rest remainder x y is letter same_rest = sym (is ∙ ap (λ z. z ∷ rest) letter ∙ ap (λ r. y ∷ r) same_rest)
