-- How far tokens match the forms, and which slot follows those that they match. So the first token after
-- which no statement is possible can be found, and what is wrong with it: the functions that search for a
-- fault cite these lemmas.
use Rattle.lw_statements.proofs.Common.{◌≡◌, ℕ, zero, suc, ◌<◌, ◌≤◌, ◌+◌, ◌⊎◌, inl, inr, Bool, true, false}
use Rattle.lw_statements.proofs.Common.{Option, Some, None, List, [], ◌∷◌, ◌++◌, length, take, drop, refl}
use Rattle.lw_statements.proofs.Common.{sym, ap, ◌∙◌, subst, arith, IsTrue, ◌↔◌, slice_get, Contains}
use Rattle.lw_statements.proofs.Common.{MatchOption, length-take, length-append, take_drop-at, take-map}
use Rattle.lw_statements.proofs.Common.{slice_get_within, insert_name, insert_names, insert_name-if_in_table}
use Rattle.lw_statements.proofs.Common.{contains_name, contains_name-Contains, cons_option, most_locations}
use Rattle.lw_statements.proofs.Common.{codes, IsUnreservedName, IsNameTable, name_by_test, Bytes, NameTable}
use Rattle.lw_statements.proofs.Common.{TokenList, Token, token_texts, Slot, Keyword, Register, Location}
use Rattle.lw_statements.proofs.Common.{Value, Number, Label, Spelling, Filling, Fills, name_in, grammar_of}
use Rattle.lw_statements.proofs.Common.{ParsesStatement, CanFill, HasNext, IsSlotAfter, IsAcceptedLength}
use Rattle.lw_statements.proofs.Common.{AcceptAtMost, IsLongestAccepted, IsOverflowSlot, BeginsStatement}
use Rattle.lw_statements.proofs.Common.{BeginsFitting, true≢false, slice_get-map, cases_Bool, same_Some, ltb}
use Rattle.lw_statements.proofs.Common.{ltb-true, ltb-false, max, All, take_all, CellFault, IsMisfitCause}
use Rattle.lw_statements.proofs.Common.{IsMeantAsRegister, IsFirstRejected, StatementFaultIsTrue, HasMisfitIn}
use Rattle.lw_statements.proofs.Common.{CanBegin, eqb, eqb-true, append_assoc, has_at_most_one_location_slot}
use Rattle.lw_statements.proofs.Common.{eqb-false}
use Rattle.lw_statements.proofs.Beginnings.{HasSlotAfter-if_begins, BeginsStatement-after, CanFill-after}
use Rattle.lw_statements.proofs.Beginnings.{location_name-in_slot, slot_accepts_some}
use Rattle.lw_statements.proofs.Causes.{FaultClaim-Form, FaultClaim-wrong}
use Rattle.lw_statements.proofs.Elements.{All-get, option_map-Some_inv}
use Rattle.lw_statements.proofs.FrontLabels.{get_text}
use Rattle.lw_statements.proofs.SlotTokens.{IsAcceptedLength-at_most}
use Rattle.lw_base.specs.declared.fault.CellCause.TheVariants as cause

-- If there is no token at an index, all tokens are before it.
length_at_most-no_item : (tokens : List Token) (k : ℕ) → slice_get tokens k ≡ None → length tokens ≤ k
length_at_most-no_item [] k e = omega arith
length_at_most-no_item (t ∷ tokens) zero e = absurd cc
length_at_most-no_item (t ∷ tokens) (suc k) e = let less = length_at_most-no_item tokens k e in omega (arith, less)

-- The empty list of tokens has the empty list of texts.
token_texts-empty : (tokens : List Token) → length tokens ≡ 0 → token_texts tokens ≡ []
token_texts-empty [] e = refl
token_texts-empty (t ∷ tokens) e = absurd (omega (arith, e))

module _ {W Form Stmt : Type 0} (spelling : Spelling W Form Stmt) where
  -- ---- the slot after those that accept tokens

  -- In the empty list of slots no slot follows tokens.
  pub no_slot-if_empty : (slots : List (Slot W)) (ts : TokenList)
      → length slots ≡ 0
      → (next : Slot W)
      → IsSlotAfter spelling ts slots next
      → ⊥
  no_slot-if_empty [] ts a next h = h
  no_slot-if_empty (slot ∷ slots) ts a next h = absurd (omega (arith, a))

  -- If there are no tokens, the first slot follows them.
  pub slot_next : (rest : List (Slot W)) (slot : Slot W) (tokens : List Token)
      → length tokens ≡ 0
      → IsSlotAfter spelling (token_texts tokens) (slot ∷ rest) slot
  slot_next rest slot [] b = refl
  slot_next rest slot (t ∷ tokens) b = absurd (omega (arith, b))

  -- If a slot accepts t, the slot that follows t and `ts`, in slots with that slot before them, is the one that follows `ts`;
  -- or there is none in both.
  pub slot_further : (rest : List (Slot W)) (slot : Slot W) (ts : TokenList) (t : Bytes) (o : Option (Slot W))
      → CanFill spelling (t ∷ []) (slot ∷ [])
      → MatchOption o ((next : Slot W) → IsSlotAfter spelling ts rest next → ⊥) (IsSlotAfter spelling ts rest)
      → MatchOption o ((next : Slot W) → IsSlotAfter spelling (t ∷ ts) (slot ∷ rest) next → ⊥)
      (IsSlotAfter spelling (t ∷ ts) (slot ∷ rest))
  slot_further rest slot ts t None stands h = λ next a. h next a.1
  slot_further rest slot ts t (Some next) stands h = (stands, h)

  -- The slot that follows is unique.
  pub IsSlotAfter-unique : (slots : List (Slot W)) (ts : TokenList) (a b : Slot W)
      → IsSlotAfter spelling ts slots a
      → IsSlotAfter spelling ts slots b
      → a ≡ b
  IsSlotAfter-unique [] ts a b h k = absurd h
  IsSlotAfter-unique (slot ∷ slots) [] a b h k = sym h ∙ k
  IsSlotAfter-unique (slot ∷ slots) (t ∷ ts) a b h k = IsSlotAfter-unique slots ts a b h.1 k.1

  -- If a slot follows the tokens, one of a kind follows them if and only if this slot is of the kind.
  pub HasNext-of_kind : (IsSo : Slot W → Type 0) (slots : List (Slot W)) (ts : TokenList) (slot : Slot W) (b : Bool)
      → IsSlotAfter spelling ts slots slot
      → IsTrue b ↔ IsSo slot
      → IsTrue b ↔ HasNext spelling IsSo ts slots
  HasNext-of_kind IsSo slots ts slot b after is = (
    λ yes. (slot, after, is.0 yes),
    λ (other, there, so). is.1 (subst IsSo (IsSlotAfter-unique slots ts other slot there after) so),
  )

  -- In the form no such slot follows those that accept the tokens.
  abbrev pub HasNone : (Slot W → Type 0) → TokenList → Form → Type 0
  HasNone IsSo ts form = HasNext spelling IsSo ts (spelling.slots_of form) → ⊥

  -- ---- how far tokens match

  -- If a token is accepted by the slot after those of the tokens before it, tokens match further than these.
  length-before_accepted : (slots : List (Slot W)) (ts back : TokenList) (t : Bytes) (slot : Slot W) (n : ℕ)
      → IsSlotAfter spelling ts slots slot
      → CanFill spelling (t ∷ []) (slot ∷ [])
      → IsAcceptedLength spelling (ts ++ t ∷ back) slots n
      → length ts < n
  length-before_accepted [] ts back t slot n after here h = absurd after
  length-before_accepted (s ∷ slots) [] back t slot zero after here h =
      absurd (h (subst (λ (u : Slot W). CanFill spelling (t ∷ []) (u ∷ [])) (sym after) here))
  length-before_accepted (s ∷ slots) [] back t slot (suc n) after here h = omega arith
  length-before_accepted (s ∷ slots) (u ∷ ts) back t slot zero after here h = absurd (h after.0)
  length-before_accepted (s ∷ slots) (u ∷ ts) back t slot (suc n) after here h =
      let r = length-before_accepted slots ts back t slot n after.1 here h.1 in omega (arith, r)

  -- After the most tokens that any form accepts, no statement continues with the next one.
  pub no_statement_continues : (ts : TokenList) (k : ℕ) (t : Bytes)
      → AcceptAtMost spelling ts k
      → slice_get ts k ≡ Some t
      → BeginsStatement (grammar_of spelling) (take k ts ++ t ∷ [])
      → ⊥
  no_statement_continues ts k t front is b =
      let h = HasSlotAfter-if_begins spelling (take k ts) t b in
      let n = front h.0 h.1 in
      let past =
      length-before_accepted (spelling.slots_of h.0) (take k ts) (drop (suc k) ts) t h.2.0 n.0 h.2.1 h.2.2
      (subst (λ (us : TokenList). IsAcceptedLength spelling us (spelling.slots_of h.0) n.0) (take_drop-at ts k t is) n.1) in
      omega (arith, past, n.2, length-take k ts, slice_get_within ts k t is)

  -- If tokens match n slots, the slot at an index k below n follows the first k tokens, and accepts the token at k.
  pub IsSlotAfter-get : (slots : List (Slot W)) (ts : TokenList) (n k : ℕ) (slot : Slot W)
      → IsAcceptedLength spelling ts slots n
      → k < n
      → slice_get slots k ≡ Some slot
      → IsSlotAfter spelling (take k ts) slots slot
      × ((t : Bytes) → slice_get ts k ≡ Some t → CanFill spelling (t ∷ []) (slot ∷ []))
  IsSlotAfter-get [] ts n k slot h less e = absurd cc
  IsSlotAfter-get (s ∷ slots) [] n k slot h less e = absurd (omega (arith, h, less))
  IsSlotAfter-get (s ∷ slots) (u ∷ ts) zero k slot h less e = absurd (omega (arith, less))
  IsSlotAfter-get (s ∷ slots) (u ∷ ts) (suc n) zero slot h less e =
      let same : s ≡ slot = cc in (
        same,
        λ t is.
            subst (λ (b : Slot W). CanFill spelling (t ∷ []) (b ∷ [])) same
            (subst (λ (a : Bytes). CanFill spelling (a ∷ []) (s ∷ [])) (let one : u ≡ t = cc in one) h.0),
      )
  IsSlotAfter-get (s ∷ slots) (u ∷ ts) (suc n) (suc k) slot h less e =
      let r = IsSlotAfter-get slots ts n k slot h.1 (omega (arith, less)) e in ((h.0, r.0), r.1)

  -- After tokens that the slots before a location's accept, that slot follows.
  pub IsSlotAfter-before_location : (front back slots : List (Slot W)) (ts : TokenList)
      → slots ≡ front ++ Location ∷ back
      → CanFill spelling ts front
      → IsSlotAfter spelling ts slots Location
  IsSlotAfter-before_location front back slots ts cut stands =
      subst (λ (ss : List (Slot W)). IsSlotAfter spelling ts ss Location) (sym cut) (go front ts stands.0 stands.1)
    where
      -- By the slots before that of the location.
      go : (front : List (Slot W)) (ts : TokenList) (f : Filling front)
          → Fills spelling ts front f
          → IsSlotAfter spelling ts (front ++ Location ∷ back) Location
      go [] [] f h = refl
      go [] (t ∷ ts) f h = absurd h
      go (slot ∷ front) [] f h = absurd h
      go (slot ∷ front) (t ∷ ts) f h = (((f.0, tt), (h.0, tt)), go front ts f.1 h.1)

  -- ---- a statement that fits the table

  -- The table has the location or room for it, if there is one.
  abbrev IsFitting : NameTable → Option Bytes → Type 0
  IsFitting names o = length (insert_names names (cons_option o [])) ≤ most_locations

  -- Some location's name is in the table, or has room in it.
  fitting_name : (names : NameTable)
      → IsNameTable names
      → (x : Bytes) × IsUnreservedName x × (length (insert_name names x) ≤ most_locations)
  fitting_name [] table = (codes "x", (name_by_test (codes "x") refl, refl), omega arith)
  fitting_name (n ∷ names) table =
      (n, table.are_unreserved.0, omega (arith, table.bounded, ap length (insert_name-if_in_table (n ∷ names) n 0 refl)))

  module _ (names : NameTable) (table : IsNameTable names) where
    -- Any slots accept some tokens, on a location that fits the table.
    fitting_rest : (slots : List (Slot W))
        → (ts : TokenList) × (f : Filling slots) × Fills spelling ts slots f × IsFitting names (name_in slots f)
    fitting_rest [] = ([], tt, tt, table.bounded)
    fitting_rest (Location ∷ slots) =
        let x = fitting_name names table in
        let r = fitting_rest slots in
        (x.0 ∷ r.0, (x.0, r.1), ((refl, x.1), r.2), x.2)
    fitting_rest (Keyword w ∷ slots) =
        let s = slot_accepts_some spelling (Keyword w) in
        let r = fitting_rest slots in
        (s.0 ∷ r.0, (s.1, r.1), (s.2, r.2), r.3)
    fitting_rest (Register ∷ slots) =
        let s = slot_accepts_some spelling Register in
        let r = fitting_rest slots in
        (s.0 ∷ r.0, (s.1, r.1), (s.2, r.2), r.3)
    fitting_rest (Value ∷ slots) =
        let s = slot_accepts_some spelling Value in
        let r = fitting_rest slots in
        (s.0 ∷ r.0, (s.1, r.1), (s.2, r.2), r.3)
    fitting_rest (Number ∷ slots) =
        let s = slot_accepts_some spelling Number in
        let r = fitting_rest slots in
        (s.0 ∷ r.0, (s.1, r.1), (s.2, r.2), r.3)
    fitting_rest (Label ∷ slots) =
        let s = slot_accepts_some spelling Label in
        let r = fitting_rest slots in
        (s.0 ∷ r.0, (s.1, r.1), (s.2, r.2), r.3)

    -- No location among the first n tokens, by their slots, is one that does not fit the table.
    abbrev pub AllFit : TokenList → List (Slot W) → ℕ → Type 0
    AllFit ts slots n =
        (k : ℕ) (x : Bytes)
        → k < n
        → slice_get slots k ≡ Some Location
        → slice_get ts k ≡ Some x
        → length (insert_name names x) ≤ most_locations

    -- If all locations among the first n tokens fit, so do those from the second token on.
    AllFit-tail : (t : Bytes) (ts : TokenList) (slot : Slot W) (slots : List (Slot W)) (n : ℕ)
        → AllFit (t ∷ ts) (slot ∷ slots) (suc n)
        → AllFit ts slots n
    AllFit-tail t ts slot slots n fit k x less at is = fit (suc k) x (omega (arith, less)) at is

    -- The first n tokens begin tokens that fill the slots, and the location among them fits the table.
    abbrev BeginsFilling : List (Slot W) → TokenList → ℕ → Type 0
    BeginsFilling slots ts n =
        (rest : TokenList) × (f : Filling slots) × Fills spelling (take n ts ++ rest) slots f × IsFitting names (name_in slots f)

    -- Tokens that match slots so far, of which each location fits the table, begin tokens that fill the slots and fit the table.
    BeginsFilling-of_accepted : (slots : List (Slot W)) (ts : TokenList) (n : ℕ)
        → IsAcceptedLength spelling ts slots n
        → AllFit ts slots n
        → BeginsFilling slots ts n
    BeginsFilling-of_accepted [] ts n h fit = subst (BeginsFilling [] ts) (sym h) (fitting_rest [])
    BeginsFilling-of_accepted (slot ∷ slots) [] n h fit =
        subst (BeginsFilling (slot ∷ slots) []) (sym h) (fitting_rest (slot ∷ slots))
    BeginsFilling-of_accepted (slot ∷ slots) (t ∷ ts) zero h fit = fitting_rest (slot ∷ slots)
    BeginsFilling-of_accepted (Location ∷ slots) (t ∷ ts) (suc n) h fit =
        let r = BeginsFilling-of_accepted slots ts n h.1 (AllFit-tail t ts Location slots n fit) in (
          r.0,
          (h.0.0.0, r.1),
          (h.0.1.0, r.2),
          subst (λ (x : Bytes). IsFitting names (Some x)) h.0.1.0.0 (fit 0 t (omega arith) refl refl),
        )
    BeginsFilling-of_accepted (Keyword w ∷ slots) (t ∷ ts) (suc n) h fit =
        let r = BeginsFilling-of_accepted slots ts n h.1 (AllFit-tail t ts (Keyword w) slots n fit) in
        (r.0, (h.0.0.0, r.1), (h.0.1.0, r.2), r.3)
    BeginsFilling-of_accepted (Register ∷ slots) (t ∷ ts) (suc n) h fit =
        let r = BeginsFilling-of_accepted slots ts n h.1 (AllFit-tail t ts Register slots n fit) in
        (r.0, (h.0.0.0, r.1), (h.0.1.0, r.2), r.3)
    BeginsFilling-of_accepted (Value ∷ slots) (t ∷ ts) (suc n) h fit =
        let r = BeginsFilling-of_accepted slots ts n h.1 (AllFit-tail t ts Value slots n fit) in
        (r.0, (h.0.0.0, r.1), (h.0.1.0, r.2), r.3)
    BeginsFilling-of_accepted (Number ∷ slots) (t ∷ ts) (suc n) h fit =
        let r = BeginsFilling-of_accepted slots ts n h.1 (AllFit-tail t ts Number slots n fit) in
        (r.0, (h.0.0.0, r.1), (h.0.1.0, r.2), r.3)
    BeginsFilling-of_accepted (Label ∷ slots) (t ∷ ts) (suc n) h fit =
        let r = BeginsFilling-of_accepted slots ts n h.1 (AllFit-tail t ts Label slots n fit) in
        (r.0, (h.0.0.0, r.1), (h.0.1.0, r.2), r.3)

    -- The longest front of the tokens in a form, if each token in it fits the table, begins a statement that fits.
    pub BeginsFitting-of_accepted : (form : Form) (ts : TokenList) (n : ℕ)
        → Contains spelling.forms form
        → IsAcceptedLength spelling ts (spelling.slots_of form) n
        → AllFit ts (spelling.slots_of form) n
        → BeginsFitting (grammar_of spelling) names (take n ts)
    BeginsFitting-of_accepted form ts n there h fit =
        let r = BeginsFilling-of_accepted (spelling.slots_of form) ts n h fit in
        record { rest = r.0; syntax = record { form = form; filling = r.1 }; says = (there, r.2); room = r.3 }

    -- Tokens before a location's slot begin tokens that fill the slots and fit the table.
    pub BeginsFitting-before_location : (form : Form) (ts : TokenList)
        → Contains spelling.forms form
        → has_at_most_one_location_slot spelling (spelling.slots_of form) ≡ true
        → IsSlotAfter spelling ts (spelling.slots_of form) Location
        → BeginsFitting (grammar_of spelling) names ts
    BeginsFitting-before_location form ts there one after =
        let x = fitting_name names table in
        let r = CanFill-after spelling (spelling.slots_of form) Location ts x.0 after ((x.0, tt), ((refl, x.1), tt)) in
        let fills : Fills spelling (ts ++ x.0 ∷ r.0) (spelling.slots_of form) r.1.0 =
        subst (λ (us : TokenList). Fills spelling us (spelling.slots_of form) r.1.0) (append_assoc ts (x.0 ∷ []) r.0) r.1.1 in
        let named = location_name-in_slot spelling ts r.0 x.0 (spelling.slots_of form) r.1.0 one after fills in
        record { rest = x.0 ∷ r.0; syntax = record { form = form; filling = r.1.0 }; says = (there, fills); room = rw named x.2 }

    -- If no slot among those that the tokens match has a ninth location, each location among them fits the table.
    pub AllFit-no_overflow : (tokens : List Token) (slots : List (Slot W)) (n : ℕ)
        → ((k : ℕ) → IsOverflowSlot slots tokens n names k → ⊥)
        → AllFit (token_texts tokens) slots n
    AllFit-no_overflow tokens slots n none k x less at is = go (contains_name names x) refl
      where
        -- By whether the table has the name.
        go : (b : Bool) → contains_name names x ≡ b → length (insert_name names x) ≤ most_locations
        go true e = rw e table.bounded
        go false e =
            let held : (t : Token) × (slice_get tokens k ≡ Some t) × (x ≡ t.text.now) =
            option_map-Some_inv (λ (t : Token). t.text.now) (slice_get tokens k) x
            (sym is ∙ slice_get-map (λ (t : Token). t.text.now) tokens k) in
            let free : length names ≡ most_locations → ⊥ = λ full. none k (record {
              before = less;
              slot = at;
              token = held.0;
              token_at = held.1;
              full = full;
              new = λ h.
                  true≢false (sym (contains_name-Contains names x (subst (λ (y : Bytes). Contains names y) (sym held.2) h)) ∙ e);
            }) in
            rw e (omega (arith, table.bounded, free, length-append names (x ∷ [])))

  -- ---- the longest front

  -- Some form accepts this number of tokens, if it is not 0.
  abbrev pub IsReached : TokenList → ℕ → Type 0
  IsReached ts k =
      (k ≡ 0) ⊎ ((form : Form) × Contains spelling.forms form × IsAcceptedLength spelling ts (spelling.slots_of form) k)

  -- If a form accepts n tokens, and the longest length so far is reached, the greater of the two is reached.
  pub longer_reached : (ts : TokenList) (longest n k : ℕ) (form : Form)
      → Contains spelling.forms form
      → IsAcceptedLength spelling ts (spelling.slots_of form) n
      → IsReached ts longest
      → k ≡ max longest n
      → IsReached ts k
  longer_reached ts longest n k form there reach before is = elim (cases_Bool (ltb longest n)) [
    | inl e ↦
        let less = ltb-true longest n e in
        let same : n ≡ k = omega (arith, is, less) in
        inr (form, there, subst (IsAcceptedLength spelling ts (spelling.slots_of form)) same reach)
    | inr e ↦
        let most = ltb-false longest n e in
        let same : longest ≡ k = omega (arith, is, most) in
        subst (IsReached ts) same before
  ]

  -- ---- tokens that are no statement

  -- The tokens match a form's slots so far that none of them is a ninth location.
  abbrev pub HasRoom : List Token → NameTable → Form → Type 0
  HasRoom tokens names form =
      (n : ℕ)
      × IsAcceptedLength spelling (token_texts tokens) (spelling.slots_of form) n
      × ((k : ℕ) → IsOverflowSlot (spelling.slots_of form) tokens n names k → ⊥)

  -- If tokens match at least one slot, the first slot accepts the first token.
  first_slot-accepts : (slots : List (Slot W)) (ts : TokenList) (n : ℕ) (t : Bytes)
      → IsAcceptedLength spelling ts slots n
      → slice_get ts 0 ≡ Some t
      → (n ≡ 0 → ⊥)
      → (slot : Slot W) × IsSlotAfter spelling [] slots slot × CanFill spelling (t ∷ []) (slot ∷ [])
  first_slot-accepts [] ts n t h is some = absurd (some h)
  first_slot-accepts (slot ∷ slots) [] n t h is some = absurd (some h)
  first_slot-accepts (slot ∷ slots) (u ∷ ts) zero t h is some = absurd (some refl)
  first_slot-accepts (slot ∷ slots) (u ∷ ts) (suc n) t h is some =
      (slot, refl, subst (λ (a : Bytes). CanFill spelling (a ∷ []) (slot ∷ [])) (let same : u ≡ t = cc in same) h.0)

  -- If no statement begins with the first token, the fault is there.
  pub HasMisfitIn-first_token : (tokens : List Token) (end : ℕ) (names : NameTable) (t : Token)
      → Some t ≡ slice_get tokens 0
      → (CanBegin (grammar_of spelling) t.text.now → ⊥)
      → (f : CellFault)
      → IsFirstRejected spelling tokens end f
      → (m : HasMisfitIn (grammar_of spelling) tokens names f.at f.cause) × (m.place ≡ 0) × (f.at ≡ t.at)
  HasMisfitIn-first_token tokens end names t first cannot f r =
      let is = rw (front_is_zero r.longest.reached, ← first) at r.fault_is in (
        record {
          place = 0;
          token = t;
          token_at = sym first;
          begins = sym is.0;
          begun = λ some. absurd (some refl);
          none = cannot;
          meant = is.1;
        },
        refl,
        is.0,
      )
    where
      -- If not even the first token can begin a statement, no token is matched.
      front_is_zero : IsReached (token_texts tokens) r.front → r.front ≡ 0
      front_is_zero (inl none) = none
      front_is_zero (inr (form, there, reach)) = elim (cases_Bool (eqb r.front 0)) [
        | inl e ↦ eqb-true r.front 0 e
        | inr e ↦
            let s =
            first_slot-accepts (spelling.slots_of form) (token_texts tokens) r.front t.text.now reach
            (get_text tokens 0 t (sym first)) (eqb-false r.front 0 e) in
            absurd (cannot (BeginsStatement-after spelling form s.0 [] t.text.now there s.1 s.2))
      ]

  -- The place of the first token after which no statement is possible, or the end, is within what was read.
  pub rejected_within : (tokens : List Token) (end : ℕ) (f : CellFault)
      → IsFirstRejected spelling tokens end f
      → (len : ℕ)
      → All (λ t. t.at ≤ len) tokens
      → end ≤ len
      → f.at ≤ len
  rejected_within tokens end f r len all within = go (slice_get tokens r.front) refl r.fault_is
    where
      -- By whether a token follows the longest accepted prefix.
      go : (o : Option Token)
          → slice_get tokens r.front ≡ o
          → MatchOption o ((f.at ≡ end) × (f.cause ≡ cause.Form)) (λ t.
          (f.at ≡ t.at)
          × IsMisfitCause (IsMeantAsRegister (grammar_of spelling) (token_texts (take r.front tokens)) t.text.now) f.cause)
          → f.at ≤ len
      go None e is = omega (arith, is.0, within)
      go (Some t) e is = omega (arith, is.0, All-get (λ (u : Token). u.at ≤ len) tokens r.front t e all)

  module _ (tokens : List Token) (end : ℕ) (names : NameTable) (table : IsNameTable names)
      (room : (form : Form) → Contains spelling.forms form → HasRoom tokens names form) where
    -- The longest prefix that matches a form begins a statement with room, if it is not empty.
    BeginsFitting-longest_front : (k : ℕ)
        → IsLongestAccepted spelling (token_texts tokens) k
        → (k ≡ 0 → ⊥)
        → BeginsFitting (grammar_of spelling) names (token_texts (take k tokens))
    BeginsFitting-longest_front k longest some = go longest.reached
      where
        -- By how the longest prefix is reached: some form accepts it, or it is empty.
        go : IsReached (token_texts tokens) k → BeginsFitting (grammar_of spelling) names (token_texts (take k tokens))
        go (inl none) = absurd (some none)
        go (inr (form, there, reach)) =
            let (n, also, none) = room form there in
            let same : n ≡ k =
            (let less = IsAcceptedLength-at_most spelling _ _ n k also reach in
            let more = IsAcceptedLength-at_most spelling _ _ k n reach also in
            omega (arith, less, more)) in
            let free = subst (λ (m : ℕ). (j : ℕ) → IsOverflowSlot (spelling.slots_of form) tokens m names j → ⊥) same none in
            subst (BeginsFitting (grammar_of spelling) names) (take-map (λ (t : Token). t.text.now) k tokens)
            (BeginsFitting-of_accepted names table form (token_texts tokens) k there reach
            (AllFit-no_overflow names table tokens (spelling.slots_of form) k free))

    -- A fault at the first token that fits no statement, or at the end of the tokens, is a true one.
    pub StatementFaultIsTrue-of_first_rejected :
        ((s : ParsesStatement spelling) → (grammar_of spelling).says (token_texts tokens) s → ⊥)
        → (f : CellFault)
        → IsFirstRejected spelling tokens end f
        → StatementFaultIsTrue (grammar_of spelling) tokens end names f.at f.cause
    StatementFaultIsTrue-of_first_rejected none f r = go (slice_get tokens r.front) refl r.fault_is
      where
        -- By whether a token follows the longest accepted prefix.
        go : (o : Option Token)
            → slice_get tokens r.front ≡ o
            → MatchOption o ((f.at ≡ end) × (f.cause ≡ cause.Form)) (λ t.
            (f.at ≡ t.at)
            × IsMisfitCause (IsMeantAsRegister (grammar_of spelling) (token_texts (take r.front tokens)) t.text.now) f.cause)
            → StatementFaultIsTrue (grammar_of spelling) tokens end names f.at f.cause
        go None e is = subst (StatementFaultIsTrue (grammar_of spelling) tokens end names f.at) (sym is.1) (FaultClaim-Form (inr (
          refl,
          record {
            ends = sym is.0;
            begun = λ some.
                let past : length tokens ≤ r.front = length_at_most-no_item tokens r.front e in
                let whole : take r.front tokens ≡ tokens = take_all r.front tokens past in
                subst (λ (ts : List Token). BeginsFitting (grammar_of spelling) names (token_texts ts)) whole
                (BeginsFitting-longest_front r.front r.longest
                (λ none_yet. some (token_texts-empty tokens (omega (arith, past, none_yet)))));
            none = none;
          },
        )))
        go (Some t) e is = FaultClaim-wrong _ f.cause is.1 (inl (record {
          place = r.front;
          token = t;
          token_at = e;
          begins = sym is.0;
          begun = BeginsFitting-longest_front r.front r.longest;
          none = λ b.
              no_statement_continues (token_texts tokens) r.front t.text.now r.longest.front (get_text tokens r.front t e)
              (subst (λ (ts : TokenList). BeginsStatement (grammar_of spelling) (ts ++ t.text.now ∷ []))
              (sym (take-map (λ (u : Token). u.text.now) r.front tokens)) b);
          meant = is.1;
        }))

-- If no slot before an index has a ninth location as its token, and the slot at the index has none, no slot before the next
-- index has one.
pub no_match_before : {W : Type 0} (slots : List (Slot W)) (tokens : List Token) (front : ℕ) (names : NameTable) (index : ℕ)
    (slot : Slot W) (token : Token)
    → slice_get slots index ≡ Some slot
    → slice_get tokens index ≡ Some token
    → ((slot ≡ Location) × (length names ≡ most_locations) × (Contains names token.text.now → ⊥) → ⊥)
    → ((k : ℕ) → k < index → IsOverflowSlot slots tokens front names k → ⊥)
    → (k : ℕ)
    → k < index + 1
    → IsOverflowSlot slots tokens front names k
    → ⊥
no_match_before slots tokens front names index slot token at is none before k less over = elim (cases_Bool (ltb k index)) [
  | inl e ↦ before k (ltb-true k index e) over
  | inr e ↦
      let most = ltb-false k index e in
      let same : k ≡ index = omega (arith, less, most) in
      let one : slot ≡ Location = same_Some slot Location (sym at ∙ ap (slice_get slots) (sym same) ∙ over.slot) in
      let two : over.token ≡ token = same_Some over.token token (sym over.token_at ∙ ap (slice_get tokens) same ∙ is) in
      none (one, over.full, subst (λ (t : Token). Contains names t.text.now → ⊥) two over.new)
]

-- If `IsBefore` holds, the two alternatives with it and without it are equivalent.
pub name_iff-fact_known : {IsSo IsBefore IsOther : Type 0}
    → IsBefore
    → (IsSo ⊎ IsOther → (IsSo × IsBefore) ⊎ IsOther) × ((IsSo × IsBefore) ⊎ IsOther → IsSo ⊎ IsOther)
name_iff-fact_known {IsSo} {IsBefore} {IsOther} b = (with_IsBefore, without_IsBefore)
  where
    -- `IsBefore` may be added to the first alternative, since it holds.
    with_IsBefore : IsSo ⊎ IsOther → (IsSo × IsBefore) ⊎ IsOther
    with_IsBefore (inl so) = inl (so, b)
    with_IsBefore (inr other) = inr other

    -- `IsBefore` may be left out of the first alternative.
    without_IsBefore : (IsSo × IsBefore) ⊎ IsOther → IsSo ⊎ IsOther
    without_IsBefore (inl so) = inl so.0
    without_IsBefore (inr other) = inr other

-- If `IsBefore` does not hold, only the second alternative is possible.
pub other-fact_not_known : {IsSo IsBefore IsOther : Type 0} → (IsBefore → ⊥) → (IsSo × IsBefore) ⊎ IsOther → IsOther
other-fact_not_known none (inl so) = absurd (none so.1)
other-fact_not_known none (inr other) = other
