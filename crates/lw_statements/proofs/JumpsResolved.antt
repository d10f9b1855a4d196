-- Resolving one statement: the target of a jump is where its label is, and later. A step of Resolved.
use Rattle.lw_statements.proofs.Common.{◌≡◌, ℕ, suc, ◌<◌, ◌+◌, true, Option, Some, None, refl, List, [], ◌∷◌}
use Rattle.lw_statements.proofs.Common.{◌++◌, length, take, drop, sym, ap, ◌∙◌, subst, arith, Contains}
use Rattle.lw_statements.proofs.Common.{slice_get, IfSome, option_map, ForSome, length-map, same_Some, Bytes}
use Rattle.lw_statements.proofs.Common.{NameTable, TokenList, Token, token_texts, Draft, Operands, Slot}
use Rattle.lw_statements.proofs.Common.{Label, Spelling, Filling, Fills, ParsesStatement, grammar_of}
use Rattle.lw_statements.proofs.Common.{label_in, bindings_of, draft_of, with_target, is_label_last}
use Rattle.lw_statements.proofs.Common.{IsSpelling, CellSyntax, labels_of, target_in, location_index}
use Rattle.lw_statements.proofs.Common.{resolved_target, resolved_statement, LabelsLeadForward, LabelMap}
use Rattle.lw_statements.proofs.Common.{MapsLabelsAs, draft_in, target_by, HasForwardTarget, IsResolvable}
use Rattle.lw_statements.proofs.Common.{IsResolved, take_drop-at, drop-past_end}
use Rattle.lw_statements.proofs.FrontLabels.{get_text}
use Rattle.lw_statements.proofs.Leads.{label_target-is_label}
use Rattle.lw_statements.proofs.api.Forms.{well_spelled}

module _ {W Form Stmt : Type 0} (spelling : Spelling W Form Stmt) where
  -- The index of the label among the tokens, if the first has the index i.
  abbrev Labelled : ℕ → ℕ → TokenList → (slots : List (Slot W)) → Filling slots → Type 0
  Labelled i k ts slots f =
      (l : Bytes) × (j : ℕ) × (label_in slots f ≡ Some l) × (k ≡ i + j) × (slice_get ts j ≡ Some l) × (length ts ≡ suc j)

  -- A label after the first token is one among the others.
  Labelled-suc : (i k : ℕ) (t : Bytes) (ts : TokenList) (slots : List (Slot W)) (f : Filling slots)
      → Labelled (i + 1) k ts slots f
      → (l : Bytes)
      × (j : ℕ)
      × (label_in slots f ≡ Some l)
      × (k ≡ i + j)
      × (slice_get (t ∷ ts) j ≡ Some l)
      × (length (t ∷ ts) ≡ suc j)
  Labelled-suc i k t ts slots f (l, j, is, at, stands, last) = (l, suc j, is, omega (arith, at), stands, ap suc last)

  -- The index that is bound to a label is that of the last token, where the form has its label.
  label_index : (i k : ℕ) (ts : TokenList) (slots : List (Slot W)) (f : Filling slots)
      → is_label_last spelling slots ≡ true
      → Fills spelling ts slots f
      → (bindings_of i slots f).label ≡ Some k
      → Labelled i k ts slots f
  label_index i k ts [] f last h e = absurd cc
  label_index i k [] (slot ∷ slots) f last h e = absurd h
  label_index i k (t ∷ []) (Label ∷ []) (l, f) last h e =
      (l, 0, refl, (let d : i ≡ k = same_Some i k e in omega (arith, d)), ap Some h.0.0, refl)
  label_index i k (t ∷ u ∷ ts) (Label ∷ []) (l, f) last h e = absurd h.1
  label_index i k (t ∷ ts) (Label ∷ slot ∷ slots) f last h e = absurd cc
  label_index i k (t ∷ ts) (slot ∷ slots) (g, f) last h e =
      Labelled-suc i k t ts slots f (label_index (i + 1) k ts slots f last h.1 e)

  -- A form without a label's slot has no label.
  no_label_in : (i : ℕ) (slots : List (Slot W)) (f : Filling slots)
      → (bindings_of i slots f).label ≡ None
      → label_in slots f ≡ None
  no_label_in i [] f e = refl
  no_label_in i (Label ∷ slots) (l, f) e = absurd cc
  no_label_in i (slot ∷ slots) (g, f) e = no_label_in (i + 1) slots f e

  -- The draft of a statement that tokens say.
  module _ (made : Form → Operands → Option Stmt) (lawful : IsSpelling spelling made) (names : NameTable) (tokens : List Token)
      (s : ParsesStatement spelling) (says : (grammar_of spelling).says (token_texts tokens) s) where
    -- The draft of the statement.
    abbrev draft : Draft Form
    draft = draft_in (grammar_of spelling) (draft_of spelling) names s

    -- The token at this index is the last one, and is the statement's label.
    pub label_last : (k : ℕ) (token : Token)
        → draft.label ≡ Some k
        → slice_get tokens k ≡ Some token
        → ((grammar_of spelling).label_of s ≡ Some token.text.now) × (tokens ≡ take k tokens ++ token ∷ [])
    label_last k token is stands =
        let l =
        label_index 0 k (token_texts tokens) (spelling.slots_of s.form) s.filling
        (well_spelled spelling made lawful s.form says.0).1 says.1 is in
        let index : l.1 ≡ k = omega (arith, l.3) in
        let same : token.text.now ≡ l.0 =
        same_Some _ _ (sym (get_text tokens k token stands) ∙ ap (slice_get (token_texts tokens)) (sym index) ∙ l.4) in
        let none : drop (suc k) tokens ≡ [] =
        drop-past_end tokens (suc k) (omega (arith, index, l.5, length-map tokens (λ (t : Token). t.text.now))) in (
          l.2 ∙ ap Some (sym same),
          take_drop-at tokens k token stands ∙ ap (λ (ts : List Token). take k tokens ++ token ∷ ts) none,
        )

    -- If the draft's label, if it has one, leads forward to `to`, then `to` is the target of the statement's label, and later
    -- than the statement.
    target_is_forward : (labels : LabelMap) (own_index : ℕ) (to : Option ℕ)
        → HasForwardTarget labels own_index tokens draft.label to
        → (at : ℕ)
        × (to ≡ option_map (λ l. at) ((grammar_of spelling).label_of s))
        × ForSome ((grammar_of spelling).label_of s) (λ l. (target_by labels l ≡ Some at) × (own_index < at))
    target_is_forward labels own_index to = go draft.label refl
      where
        -- By whether the draft has a label.
        go : (o : Option ℕ)
            → draft.label ≡ o
            → HasForwardTarget labels own_index tokens o to
            → (at : ℕ)
            × (to ≡ option_map (λ l. at) ((grammar_of spelling).label_of s))
            × ForSome ((grammar_of spelling).label_of s) (λ l. (target_by labels l ≡ Some at) × (own_index < at))
        go None is led =
            let none = no_label_in 0 (spelling.slots_of s.form) s.filling is in
            (0, led ∙ ap (option_map (λ (l : Bytes). 0)) (sym none), λ l e. absurd cc)
        go (Some k) is (t, n, stands, e, by, less) =
            let some = (label_last k t is stands).0 in (
              n,
              e ∙ ap (option_map (λ (l : Bytes). n)) (sym some),
              λ l here.
                  subst (λ (m : Bytes). (target_by labels m ≡ Some n) × (own_index < n))
                  (same_Some t.text.now l (sym some ∙ here)) (by, less),
            )

    -- The statement made from the draft with such a target.
    made-with_target : (at : ℕ) (to : Option ℕ)
        → to ≡ option_map (λ l. at) ((grammar_of spelling).label_of s)
        → made draft.form (with_target to draft.operands)
        ≡ Some (spelling.statement (location_index names ((grammar_of spelling).name_of s)) at s.form s.filling)
    made-with_target at to is =
        ap (λ (t : Option ℕ). made draft.form (with_target t draft.operands)) is
        ∙ (lawful.makes_statements (location_index names ((grammar_of spelling).name_of s)) at s.form s.filling).statement_is

    -- The statement can be made of the draft, whatever its target is.
    pub is_resolvable : IsResolvable made tokens draft
    is_resolvable = record {
      labelled = label_index_in_range draft.label refl;
      makes =
          λ labels own_index to led. (let t = target_is_forward labels own_index to led in rw (made-with_target t.0 to t.1) refl);
    }
      where
        -- The label's index is one of a token.
        label_index_in_range : (o : Option ℕ) → draft.label ≡ o → IfSome o (λ k. k < length tokens)
        label_index_in_range None is = tt
        label_index_in_range (Some k) is =
            let l =
            label_index 0 k (token_texts tokens) (spelling.slots_of s.form) s.filling
            (well_spelled spelling made lawful s.form says.0).1 says.1 is in
            omega (arith, l.3, l.5, length-map tokens (λ (t : Token). t.text.now))

    -- If a statement is resolved by a map of the cells' labels, it is the one that its syntax says, and its label leads
    -- forward.
    pub resolved_statement-IsResolved : (syntaxes : List (CellSyntax (ParsesStatement spelling))) (labels : LabelMap)
        (own_index : ℕ) (stmt : Stmt)
        → MapsLabelsAs labels syntaxes
        → IsResolved made labels own_index tokens draft stmt
        → (stmt ≡ resolved_statement (grammar_of spelling) names syntaxes s)
        × LabelsLeadForward (grammar_of spelling) syntaxes own_index s
    resolved_statement-IsResolved syntaxes labels own_index stmt leads r =
        let t = target_is_forward labels own_index r.to r.leads_forward in
        let there : ForSome ((grammar_of spelling).label_of s)
        (λ l. Contains (labels_of syntaxes) l × (t.0 ≡ target_in syntaxes l)) =
        λ l e. label_target-is_label syntaxes l t.0 (sym (leads l) ∙ (t.2 l e).0) in (
          same_Some _ _
              (sym r.made
              ∙ made-with_target (resolved_target syntaxes ((grammar_of spelling).label_of s)) r.to
              (t.1 ∙ option_map-same_target ((grammar_of spelling).label_of s) (λ l e. (there l e).1))),
          λ l e. ((there l e).0, omega (arith, (there l e).1, (t.2 l e).1)),
        )
      where
        -- Both say the target of the label, if there is one.
        option_map-same_target : {at : ℕ} (o : Option Bytes)
            → ForSome o (λ l. at ≡ target_in syntaxes l)
            → option_map (λ (l : Bytes). at) o ≡ option_map (λ (l : Bytes). resolved_target syntaxes o) o
        option_map-same_target None h = refl
        option_map-same_target (Some l) h = ap Some (h l refl)
