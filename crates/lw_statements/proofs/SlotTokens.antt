-- What tokens give at slots, as the reader computes it. The functions that bind tokens to slots, and that
-- search the forms, go by these lemmas.
use Rattle.lw_statements.proofs.Common.{◌≡◌, ℕ, zero, suc, ◌+◌, ◌<◌, ◌≤◌, Bool, true, false, true≢false, eqb}
use Rattle.lw_statements.proofs.Common.{Option, Some, None, List, [], ◌∷◌, length, take, get_or, refl, sym}
use Rattle.lw_statements.proofs.Common.{ap, ◌∙◌, subst, arith, MatchBool, MatchOption, IsTrue, ◌↔◌, Contains}
use Rattle.lw_statements.proofs.Common.{is_some, bytes_eq, eqb-true, All, take_all, bytes_eq-Decides}
use Rattle.lw_statements.proofs.Common.{All-contains, All-more, Bytes, TokenList, Arch, Operand}
use Rattle.lw_statements.proofs.Common.{IsUnreservedName, IsRegisterName, lowercase_if_x86, IsNumber, Token}
use Rattle.lw_statements.proofs.Common.{token_texts, Slot, Keyword, SlotBindings, IsOperand, Spelling}
use Rattle.lw_statements.proofs.Common.{SlotValue, Filling, Gives, Fills, BeginsWith, CanFill, no_bindings}
use Rattle.lw_statements.proofs.Common.{bind_slot, bindings_of, IsAcceptedLength}
use Rattle.lw_base.specs.declared.operand.Operand.TheVariants as operand

-- A token that is neither a register nor a number is no operand.
pub no_operand-if_no_register_or_number : (arch : Arch) (w : Bytes)
    → ((r : ℕ) → IsRegisterName arch w r → ⊥)
    → ((n : ℕ) → IsNumber w n → ⊥)
    → (v : Operand)
    → IsOperand arch w v
    → ⊥
no_operand-if_no_register_or_number arch w reg num (operand.Register r) h = reg r h
no_operand-if_no_register_or_number arch w reg num (operand.Number n) h = num n h

-- The result for a token, whether it is an allowed name or not, is what it gives at the slot of a location or label.
pub taken_name : (t : Bytes) (made : SlotBindings) (result : Option SlotBindings)
    → MatchOption result (IsUnreservedName t → ⊥) (λ all. IsUnreservedName t × (all ≡ made))
    → MatchOption result ((x : Bytes) → (t ≡ x) × IsUnreservedName x → ⊥)
    (λ all. (x : Bytes) × ((t ≡ x) × IsUnreservedName x) × (all ≡ made))
taken_name t made None h = λ x is. h (subst IsUnreservedName (sym is.0) is.1)
taken_name t made (Some all) h = (t, (refl, h.0), h.1)

module _ {W Form Stmt : Type 0} (spelling : Spelling W Form Stmt) where
  -- The result is what was found after the token of this index, with what the token gives at the slot; or `None`, and the slot does not
  -- accept the token.
  abbrev pub IsTaken : (slot : Slot W) → Bytes → ℕ → SlotBindings → Option SlotBindings → Type 0
  IsTaken slot t k found result =
      MatchOption result ((g : SlotValue slot) → Gives spelling t slot g → ⊥)
      (λ all. (g : SlotValue slot) × Gives spelling t slot g × (all ≡ bind_slot k slot g found))

  -- The result is true, and `all` is what was found after the token with what the token gives at the slot; or it is false, and the slot
  -- does not accept the token.
  abbrev pub IsAdded : (slot : Slot W) → Bytes → ℕ → SlotBindings → Bool → SlotBindings → Type 0
  IsAdded slot t k found b all =
      MatchBool b ((g : SlotValue slot) × Gives spelling t slot g × (all ≡ bind_slot k slot g found))
      ((g : SlotValue slot) → Gives spelling t slot g → ⊥)

  -- The result is true, and `all` is what the tokens give at the slots, where the first token has this index; or it is false, and the
  -- tokens do not fill the slots.
  abbrev pub AreTaken : TokenList → ℕ → (slots : List (Slot W)) → Bool → SlotBindings → Type 0
  AreTaken ts k slots b all =
      MatchBool b ((f : Filling slots) × Fills spelling ts slots f × (all ≡ bindings_of k slots f))
      ((f : Filling slots) → Fills spelling ts slots f → ⊥)

  -- If what follows a token was found at the other slots, and the token is added, then the tokens are taken together.
  pub AreTaken-cons : (rest : List (Slot W)) (slot : Slot W) (ts : TokenList) (t : Bytes) (k : ℕ) (found all : SlotBindings)
      (b : Bool)
      → (f : Filling rest) × Fills spelling ts rest f × (found ≡ bindings_of (k + 1) rest f)
      → IsAdded slot t k found b all
      → AreTaken (t ∷ ts) k (slot ∷ rest) b all
  AreTaken-cons rest slot ts t k found all false after h = λ g s. h g.0 s.0
  AreTaken-cons rest slot ts t k found all true (f, fills, is) (g, gives, made) =
      ((g, f), (gives, fills), made ∙ ap (bind_slot k slot g) is)

  -- The comparison of a token with a keyword says whether the keyword's slot accepts it.
  pub keyword_equal-iff_Gives : (w : W) (t : Bytes) (b : Bool)
      → b ≡ bytes_eq (lowercase_if_x86 spelling.language.arch (spelling.text_of w)) (lowercase_if_x86 spelling.language.arch t)
      → IsTrue b ↔ Gives spelling t (Keyword w) tt
  keyword_equal-iff_Gives w t b is =
      let d = bytes_eq-Decides _ (lowercase_if_x86 spelling.language.arch t) in (λ yes. d.0 (sym is ∙ yes), λ same. is ∙ d.1 same)

  -- A keyword before the tokens, at its slot, does not change what is found, since a keyword gives nothing.
  pub AreTaken-after_keyword : (rest : List (Slot W)) (w : W) (ts : TokenList) (t : Bytes) (k : ℕ) (b : Bool) (all : SlotBindings)
      → Gives spelling t (Keyword w) tt
      → AreTaken ts (k + 1) rest b all
      → AreTaken (t ∷ ts) k (Keyword w ∷ rest) b all
  AreTaken-after_keyword rest w ts t k false all here h = λ f s. h f.1 s.1
  AreTaken-after_keyword rest w ts t k true all here (f, fills, is) = ((tt, f), (here, fills), is)

  -- The empty list of tokens fills no list of slots that is not empty.
  pub not-Fills-if_no_tokens : (rest : List (Slot W)) (slot : Slot W) (tokens : List Token)
      → length tokens ≡ 0
      → (f : Filling (slot ∷ rest))
      → Fills spelling (token_texts tokens) (slot ∷ rest) f
      → ⊥
  not-Fills-if_no_tokens rest slot [] b = λ f h. h
  not-Fills-if_no_tokens rest slot (t ∷ tokens) b = absurd (omega (arith, b))

  -- If there are no slots, nothing is found, and the result is whether there are no tokens either.
  pub AreTaken-no_slots : (slots : List (Slot W)) (tokens : List Token) (k : ℕ) (b : Bool) (all : SlotBindings)
      → length slots ≡ 0
      → b ≡ eqb (length tokens) 0
      → all ≡ no_bindings
      → AreTaken (token_texts tokens) k slots b all
  AreTaken-no_slots [] [] k true all a e is = (tt, tt, is)
  AreTaken-no_slots [] (t ∷ tokens) k false all a e is = λ f s. s
  AreTaken-no_slots [] [] k false all a e is = absurd (true≢false (sym e))
  AreTaken-no_slots [] (t ∷ tokens) k true all a e is = absurd (omega (arith, eqb-true (length (t ∷ tokens)) 0 (sym e)))
  AreTaken-no_slots (slot ∷ slots) tokens k b all a e is = absurd (omega (arith, a))

  -- Tokens fill no list of slots of another length.
  pub not-Fills-other_count : (slots : List (Slot W)) (tokens : List Token)
      → (length slots ≡ length tokens → ⊥)
      → (f : Filling slots)
      → Fills spelling (token_texts tokens) slots f
      → ⊥
  not-Fills-other_count [] [] differ f h = differ refl
  not-Fills-other_count [] (t ∷ tokens) differ f h = h
  not-Fills-other_count (slot ∷ slots) [] differ f h = h
  not-Fills-other_count (slot ∷ slots) (t ∷ tokens) differ f h =
      not-Fills-other_count slots tokens (λ e. differ (ap suc e)) f.1 h.1

  -- A slot accepts a token if and only if something is found of it there.
  pub is_some-iff_CanFill : (t : Bytes) (slot : Slot W) (k : ℕ) (found : SlotBindings) (result : Option SlotBindings)
      → IsTaken slot t k found result
      → IsTrue (is_some result) ↔ CanFill spelling (t ∷ []) (slot ∷ [])
  is_some-iff_CanFill t slot k found None h = (λ e. absurd cc, λ s. absurd (h s.0.0 s.1.0))
  is_some-iff_CanFill t slot k found (Some all) h = (λ e. ((h.0, tt), (h.1, tt)), λ s. refl)

  -- ---- how far tokens match a statement

  -- If there are no slots, none is reached.
  pub IsAcceptedLength-no_slots : (slots : List (Slot W)) (ts : TokenList)
      → length slots ≡ 0
      → IsAcceptedLength spelling ts slots 0
  IsAcceptedLength-no_slots [] ts a = refl
  IsAcceptedLength-no_slots (slot ∷ slots) ts a = absurd (omega (arith, a))

  -- If there are no tokens, no slot is reached.
  pub IsAcceptedLength-no_tokens : (slots : List (Slot W)) (tokens : List Token)
      → length tokens ≡ 0
      → IsAcceptedLength spelling (token_texts tokens) slots 0
  IsAcceptedLength-no_tokens [] tokens b = refl
  IsAcceptedLength-no_tokens (slot ∷ slots) [] b = refl
  IsAcceptedLength-no_tokens (slot ∷ slots) (t ∷ tokens) b = absurd (omega (arith, b))

  -- With a token before them that the first slot accepts, tokens reach one slot further.
  pub IsAcceptedLength-cons : (rest : List (Slot W)) (slot : Slot W) (ts : TokenList) (t : Bytes) (k : ℕ)
      → CanFill spelling (t ∷ []) (slot ∷ [])
      → IsAcceptedLength spelling ts rest k
      → IsAcceptedLength spelling (t ∷ ts) (slot ∷ rest) (1 + k)
  IsAcceptedLength-cons rest slot ts t k stands h = let e : 1 + k ≡ suc k = omega arith in rw e (stands, h)

  -- Tokens reach at most as many slots as there are slots and tokens.
  pub IsAcceptedLength-in_range : (slots : List (Slot W)) (ts : TokenList) (n : ℕ)
      → IsAcceptedLength spelling ts slots n
      → (n ≤ length slots) × (n ≤ length ts)
  IsAcceptedLength-in_range [] ts n h = (omega (arith, h), omega (arith, h))
  IsAcceptedLength-in_range (slot ∷ slots) [] n h = (omega (arith, h), omega (arith, h))
  IsAcceptedLength-in_range (slot ∷ slots) (t ∷ ts) zero h = (omega arith, omega arith)
  IsAcceptedLength-in_range (slot ∷ slots) (t ∷ ts) (suc n) h =
      let r = IsAcceptedLength-in_range slots ts n h.1 in (omega (arith, r.0), omega (arith, r.1))

  -- The number of slots that tokens reach is unique: of two such numbers neither is greater.
  pub IsAcceptedLength-at_most : (ts : TokenList) (slots : List (Slot W)) (m n : ℕ)
      → IsAcceptedLength spelling ts slots m
      → IsAcceptedLength spelling ts slots n
      → m ≤ n
  IsAcceptedLength-at_most ts [] m n h k = omega (arith, h)
  IsAcceptedLength-at_most [] (slot ∷ slots) m n h k = omega (arith, h)
  IsAcceptedLength-at_most (t ∷ ts) (slot ∷ slots) zero n h k = omega arith
  IsAcceptedLength-at_most (t ∷ ts) (slot ∷ slots) (suc m) zero h k = absurd (k h.0)
  IsAcceptedLength-at_most (t ∷ ts) (slot ∷ slots) (suc m) (suc n) h k =
      let less = IsAcceptedLength-at_most ts slots m n h.1 k.1 in omega (arith, less)

  -- ---- what a loop over the forms has found of each

  -- The tokens do not fill the form's slots.
  abbrev pub IsOther : TokenList → Form → Type 0
  IsOther ts form = (f : Filling (spelling.slots_of form)) → Fills spelling ts (spelling.slots_of form) f → ⊥

  -- The form's first slot does not accept the token.
  abbrev pub BeginsOtherwise : Bytes → Form → Type 0
  BeginsOtherwise t form = BeginsWith spelling (spelling.slots_of form) t → ⊥

  -- The form's slots accept at most k of the tokens.
  abbrev pub ReachesTo : TokenList → ℕ → Form → Type 0
  ReachesTo ts k form = (n : ℕ) × IsAcceptedLength spelling ts (spelling.slots_of form) n × (n ≤ k)

-- What holds of the first i forms, and of the next one, holds of the first `i + 1`.
pub All-take_suc : {X : Type 0} (P : X → Type 0) (forms : List X) (i : ℕ) (form : X)
    → i < length forms
    → form ≡ get_or forms i form
    → All P (take i forms)
    → P form
    → All P (take (i + 1) forms)
All-take_suc P forms i form within is before here = All-more P forms i form within before (subst P is here)

-- What holds of the first i forms holds of each form, if there are at most i.
pub All-take_all : {X : Type 0} (P : X → Type 0) (forms : List X) (i : ℕ)
    → length forms ≤ i
    → All P (take i forms)
    → (form : X)
    → Contains forms form
    → P form
All-take_all P forms i end all form there = All-contains P _ _ (subst (All P) (take_all i forms end) all) there
