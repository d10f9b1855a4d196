-- A statement is read or rejected as the language's grammar says: from the bindings of a form to the draft of
-- its statement, or to the fault. `read_statement` returns by these lemmas.
use Rattle.lw_statements.proofs.Common.{◌≡◌, ℕ, suc, ◌<◌, ◌≤◌, ◌+◌, Option, Some, None, List, [], ◌∷◌, ◌++◌}
use Rattle.lw_statements.proofs.Common.{length, take, get_or, refl, sym, ap, ◌∙◌, subst, arith, slice_get}
use Rattle.lw_statements.proofs.Common.{Contains, IfSome, MatchOption, slice_get_within}
use Rattle.lw_statements.proofs.Common.{get_or_from_slice_get, same_Some, length-map, take-map}
use Rattle.lw_statements.proofs.Common.{IsUnreservedName, IsNameTable, Bytes, NameTable, TokenList, CellFault}
use Rattle.lw_statements.proofs.Common.{Token, token_texts, Draft, Operands, Slot, Location, SlotBindings}
use Rattle.lw_statements.proofs.Common.{NameRead, Spelling, Filling, Fills, ParsesStatement, grammar_of}
use Rattle.lw_statements.proofs.Common.{name_in, CanFill, bindings_of, draft_on, draft_of, IsNameAmong}
use Rattle.lw_statements.proofs.Common.{IsDrafted, IsNotDrafted, IsOverflowSlot, IsAcceptedLength}
use Rattle.lw_statements.proofs.Common.{IsSlotAfter, IsSpelling, Phrase, Fits, StatementRead}
use Rattle.lw_statements.proofs.Common.{StatementRefused, HasOverflowIn}
use Rattle.lw_statements.proofs.Elements.{All-get}
use Rattle.lw_statements.proofs.FrontLabels.{get_text}
use Rattle.lw_statements.proofs.Causes.{FaultClaim-weakened}
use Rattle.lw_statements.proofs.Beginnings.{IsLocationAfter-of_slots}
use Rattle.lw_statements.proofs.Fronts.{IsSlotAfter-before_location, BeginsFitting-before_location}
use Rattle.lw_statements.proofs.Fronts.{IsSlotAfter-get}
use Rattle.lw_statements.proofs.api.Forms.{IsGrammar-of_spelling, list_all-get}

module _ {W Form Stmt : Type 0} (spelling : Spelling W Form Stmt) where
  -- ---- where the name of a location is

  -- The token of index k, if the first has the index i, is the name that the tokens give at a location's slot.
  abbrev IsNamed : ℕ → ℕ → TokenList → (slots : List (Slot W)) → Filling slots → Type 0
  IsNamed i k ts slots f =
      (x : Bytes)
      × (j : ℕ)
      × (front back : List (Slot W))
      × (name_in slots f ≡ Some x)
      × (k ≡ i + j)
      × (slice_get ts j ≡ Some x)
      × (slots ≡ front ++ Location ∷ back)
      × CanFill spelling (take j ts) front
      × IsUnreservedName x

  -- The name is the same with one more slot before, which names nothing.
  IsNamed-suc : (i k : ℕ) (t : Bytes) (ts : TokenList) (slot : Slot W) (slots : List (Slot W)) (f : Filling (slot ∷ slots))
      → name_in (slot ∷ slots) f ≡ name_in slots f.1
      → CanFill spelling (t ∷ []) (slot ∷ [])
      → IsNamed (i + 1) k ts slots f.1
      → IsNamed i k (t ∷ ts) (slot ∷ slots) f
  IsNamed-suc i k t ts slot slots f same stands (x, j, front, back, is, at, there, cut, before, loc) = (
    x,
    suc j,
    slot ∷ front,
    back,
    same ∙ is,
    omega (arith, at),
    there,
    ap (λ (s : List (Slot W)). slot ∷ s) cut,
    ((stands.0.0, before.0), (stands.1.0, before.1)),
    loc,
  )

  -- The index that is bound to a name is that of the slot of a location.
  name_index : (i k : ℕ) (ts : TokenList) (slots : List (Slot W)) (f : Filling slots)
      → Fills spelling ts slots f
      → (bindings_of i slots f).name ≡ Some k
      → IsNamed i k ts slots f
  name_index i k ts [] f h e = absurd cc
  name_index i k [] (slot ∷ slots) f h e = absurd h
  name_index i k (t ∷ ts) (Location ∷ slots) f h e =
      let g : Some i ≡ Some k = e in
      let d : i ≡ k = cc in
      (f.0, 0, [], slots, refl, omega (arith, d), ap Some h.0.0, refl, (tt, tt), h.0.1)
  name_index i k (t ∷ ts) (slot ∷ slots) f h e =
      IsNamed-suc i k t ts slot _ f refl ((f.0, tt), (h.0, tt)) (name_index (i + 1) k ts slots f.1 h.1 e)

  -- If no index is bound to a name, the form names no location.
  name_in-None : (i : ℕ) (slots : List (Slot W)) (f : Filling slots)
      → (bindings_of i slots f).name ≡ None
      → name_in slots f ≡ None
  name_in-None i [] f e = refl
  name_in-None i (Location ∷ slots) f e = absurd cc
  name_in-None i (slot ∷ slots) f e = name_in-None (i + 1) slots f.1 e

  -- ---- a form whose slots the tokens fill

  module _ (phrase : Phrase) (form : Form) (f : Filling (spelling.slots_of form)) (there : Contains spelling.forms form)
      (fills : Fills spelling (token_texts phrase.tokens.now) (spelling.slots_of form) f) where
    -- The tokens of the statement.
    abbrev tokens : List Token
    tokens = phrase.tokens.now

    -- The statement that the tokens say.
    abbrev said : ParsesStatement spelling
    said = record { form = form; filling = f }

    -- The bindings of the statement's tokens.
    abbrev bindings_found : SlotBindings
    bindings_found = bindings_of 0 (spelling.slots_of form) f

    -- If a name is found, it is the token of this index.
    IsNamed-of_found : (k : ℕ) → bindings_found.name ≡ Some k → IsNamed 0 k (token_texts tokens) (spelling.slots_of form) f
    IsNamed-of_found k is = name_index 0 k (token_texts tokens) (spelling.slots_of form) f fills is

    -- The token at the bound index is the name of the statement's location.
    name_in-found : (k : ℕ) (t : Token)
        → bindings_found.name ≡ Some k
        → slice_get tokens k ≡ Some t
        → (name_in (spelling.slots_of form) f ≡ Some t.text.now) × IsUnreservedName t.text.now
    name_in-found k t is at =
        let n = IsNamed-of_found k is in
        let j : n.1 ≡ k = omega (arith, n.5) in
        let one = same_Some _ _ (sym n.6 ∙ ap (slice_get (token_texts tokens)) j ∙ get_text tokens k t at) in
        (n.4 ∙ ap Some one, subst IsUnreservedName one n.9)

    -- The bound index is that of a name among the tokens.
    pub name_among : IsNameAmong bindings_found tokens
    name_among = go bindings_found.name refl
      where
        -- By whether an index is bound to a name.
        go : (m : Option ℕ)
            → bindings_found.name ≡ m
            → IfSome m (λ k. (k < length tokens) × ((t : Token) → slice_get tokens k ≡ Some t → IsUnreservedName t.text.now))
        go None is = tt
        go (Some k) is =
            let n = IsNamed-of_found k is in
            let within : n.1 < length (token_texts tokens) = slice_get_within (token_texts tokens) n.1 n.0 n.6 in
            (omega (arith, n.5, within, length-map tokens (λ t. t.text.now)), λ t at. (name_in-found k t is at).1)

    -- The draft made of the bindings is the draft of the statement.
    pub StatementRead-IsDrafted : (before : NameTable) (draft : Draft Form) (after : NameTable)
        → IsDrafted form bindings_found tokens before draft after
        → StatementRead (grammar_of spelling) (draft_of spelling) (token_texts tokens) before draft after
    StatementRead-IsDrafted before draft after h = go bindings_found.name refl h
      where
        -- By whether an index is bound to a name.
        go : (m : Option ℕ)
            → bindings_found.name ≡ m
            → MatchOption m ((after ≡ before) × (draft ≡ draft_on form None bindings_found)) (λ k.
            (t : Token)
            × (loc : ℕ)
            × (slice_get tokens k ≡ Some t)
            × NameRead before t loc after
            × (draft ≡ draft_on form (Some loc) bindings_found))
            → StatementRead (grammar_of spelling) (draft_of spelling) (token_texts tokens) before draft after
        go None is (names, made) = record {
          syntax = said;
          says = (there, fills);
          names = rw (name_in-None 0 (spelling.slots_of form) f is) names;
          made = rw is made;
        }
        go (Some k) is (t, loc, at, read, made) =
            let n = (name_in-found k t is at).0 in
            record { syntax = said; says = (there, fills); names = rw n read.names; made = rw (is, n, ← read.index) made }

    -- A statement is rejected if the table has no room for its location.
    pub StatementRefused-IsNotDrafted : (made : Form → Operands → Option Stmt)
        → IsSpelling spelling made
        → (before : NameTable) (fault : CellFault)
        → IsNameTable before
        → IsNotDrafted bindings_found tokens before fault
        → StatementRefused (grammar_of spelling) before phrase fault
    StatementRefused-IsNotDrafted made lawful before fault table h =
        let n = IsNamed-of_found h.index h.name in
        let is = name_in-found h.index h.token h.name h.token_at in
        let front : CanFill spelling (token_texts (take h.index tokens)) n.2 =
        subst (λ (ts : TokenList). CanFill spelling ts n.2)
        (ap (λ (m : ℕ). take m (token_texts tokens)) (omega (arith, n.5)) ∙ take-map (λ (t : Token). t.text.now) h.index tokens)
        n.8 in
        let after =
        IsSlotAfter-before_location spelling n.2 n.3 (spelling.slots_of form) (token_texts (take h.index tokens)) n.7 front in
        record {
          none = λ known s fits.
              let same : s ≡ said =
              (IsGrammar-of_spelling _ _ lawful).deterministic (token_texts tokens) s said fits.0 (there, fills) in
              h.refused.none known (is.1, rw (same, is.0) at fits.1);
          cause =
              FaultClaim-weakened (λ c none. absurd none) (λ none. absurd none) (λ overflow. record {
                place = h.index;
                token = h.token;
                token_at = h.token_at;
                begun = λ some.
                    BeginsFitting-before_location spelling before table form (token_texts (take h.index tokens)) there
                    (list_all-get _ spelling.forms there.0 form lawful.names there.1 there.2) after;
                location =
                    IsLocationAfter-of_slots _ made lawful form (token_texts (take h.index tokens)) h.token.text.now there after
                    is.1;
                overflow = overflow;
              }) h.refused.cause;
          place = λ len lies. h.refused.place len (All-get (λ t. t.at ≤ len) tokens _ h.token h.token_at lies.0);
        }

  -- A ninth location at a slot that the tokens reach is at a position where a statement may have a location.
  pub HasOverflowIn-IsOverflowSlot : (made : Form → Operands → Option Stmt)
      → IsSpelling spelling made
      → (form : Form)
      → Contains spelling.forms form
      → (tokens : List Token) (names : NameTable) (table : IsNameTable names) (front index : ℕ) (default : Token)
      → IsAcceptedLength spelling (token_texts tokens) (spelling.slots_of form) front
      → IsOverflowSlot (spelling.slots_of form) tokens front names index
      → HasOverflowIn (grammar_of spelling) tokens names (get_or tokens index default).at
  HasOverflowIn-IsOverflowSlot made lawful form there tokens names table front index default reach n =
      let r = IsSlotAfter-get spelling (spelling.slots_of form) (token_texts tokens) front index Location reach n.before n.slot in
      let here = r.1 n.token.text.now (get_text tokens index n.token n.token_at) in
      let loc = subst IsUnreservedName (sym here.1.0.0) here.1.0.1 in
      let after =
      subst (λ ts. IsSlotAfter spelling ts (spelling.slots_of form) Location) (take-map (λ t. t.text.now) index tokens) r.0 in
      subst (λ (t : Token). HasOverflowIn (grammar_of spelling) tokens names t.at)
      (sym (get_or_from_slice_get tokens index n.token default n.token_at)) (record {
        place = index;
        token = n.token;
        token_at = n.token_at;
        begun = λ some.
            BeginsFitting-before_location spelling names table form _ there
            (list_all-get _ spelling.forms there.0 form lawful.names there.1 there.2) after;
        location = IsLocationAfter-of_slots spelling made lawful form _ n.token.text.now there after loc;
        overflow = (refl, loc, n.full, n.new);
      })

  -- Tokens that fill no form say no statement that fits.
  pub no_statement-if_no_form : (ts : TokenList) (before : NameTable)
      → ((form : Form) (f : Filling (spelling.slots_of form))
      → Contains spelling.forms form
      → Fills spelling ts (spelling.slots_of form) f
      → ⊥)
      → (s : ParsesStatement spelling)
      → Fits (grammar_of spelling) before ts s
      → ⊥
  no_statement-if_no_form ts before none s fits = none s.form s.filling fits.0.0 fits.0.1
