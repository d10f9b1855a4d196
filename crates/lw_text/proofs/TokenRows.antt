-- The list of tokens of a text, with their positions, is unique. A step of the proof that a text has one
-- frame; the loop of `TokenStream::read` goes by `AreFirstTokens`.
use Rattle.lw_text.proofs.Common.{◌≡◌, ℕ, ◌+◌, ◌<◌, false, List, [], ◌∷◌, ◌++◌, length, refl, sym, ap, ◌∙◌}
use Rattle.lw_text.proofs.Common.{subst, arith, length-append, HoldsOfNothing, ParsesNothing, Bytes}
use Rattle.lw_text.proofs.Common.{TokenList, Token, ParsesMany, begins_trivia, Trivia, IsToken, IsFirstToken}
use Rattle.lw_text.proofs.Common.{Tokens, PlacedToken, texts_of_tokens, PlacedTokens, token_texts, with_spans}
use Rattle.lw_text.proofs.Common.{IsPlacedToken}
use Rattle.lw_text.proofs.api.Places.{texts_placed}
use Rattle.lw_text.proofs.TriviaLemmas.{Trivia-unique, Trivia-shorter}
use Rattle.lw_text.proofs.NameRuns.{token-unique, token_no_trivia, token_nonempty}

-- The first token of a text and its end are unique.
pub IsFirstToken-unique : (text t r u s : Bytes) → IsFirstToken text t r → IsFirstToken text u s → (t ≡ u) × (r ≡ s)
IsFirstToken-unique text t r u s p q =
    token-unique t r u s p.1 q.1 (Trivia-unique p.0 q.0 (token_no_trivia t r p.1) (token_no_trivia u s q.1))

-- If only trivia remains, there is no first token.
pub no_first_token-if_only_trivia : (text t r : Bytes) → Trivia text [] → IsFirstToken text t r → ⊥
no_first_token-if_only_trivia text t r g p =
    let e = Trivia-unique g p.0 refl (token_no_trivia t r p.1) in
    let n = token_nonempty t r p.1 in
    omega (arith, ap length e, length-append t r)

-- The list of tokens of a text is unique.
pub Tokens-unique : (ts us : TokenList) (text : Bytes) → Tokens text ts → Tokens text us → ts ≡ us
Tokens-unique [] [] text p q = refl
Tokens-unique [] (u ∷ us) text p q = absurd (no_first_token-if_only_trivia text u q.0 p q.1)
Tokens-unique (t ∷ ts) [] text p q = absurd (no_first_token-if_only_trivia text t p.0 q p.1)
Tokens-unique (t ∷ ts) (u ∷ us) text p q =
    let e = IsFirstToken-unique text t p.0 u q.0 p.1 q.1 in
    let i : t ≡ u = e.0 in
    let h : ts ≡ us = Tokens-unique ts us p.0 p.2 (subst (λ r. Tokens r us) (sym e.1) q.2) in
    cc

-- ---- tokens that have been read

-- These tokens have been read, with their positions, and `rest` remains.
abbrev pub AreFirstTokens : ℕ → Bytes → List PlacedToken → Bytes → Type 0
AreFirstTokens len text ts rest = ParsesMany (IsPlacedToken len) text ts rest

-- If only trivia remains, the tokens read are all of the text.
pub PlacedTokens-at_end : (len : ℕ) (ts : List PlacedToken) (text rest : Bytes)
    → AreFirstTokens len text ts rest
    → Trivia rest []
    → PlacedTokens len text ts
PlacedTokens-at_end len [] text rest p g = subst (λ x. Trivia x []) (sym p) g
PlacedTokens-at_end len (u ∷ ts) text rest p g = (p.0, p.1.0, p.1.1, PlacedTokens-at_end len ts p.0 rest p.2 g)

-- If the rest is no list of tokens, neither is the text.
pub no_tokens-if_rest_has_none : (len : ℕ) (ts : List PlacedToken) (text rest : Bytes)
    → AreFirstTokens len text ts rest
    → HoldsOfNothing (Tokens rest)
    → HoldsOfNothing (Tokens text)
no_tokens-if_rest_has_none len [] text rest p never us q = never us (subst (λ x. Tokens x us) p q)
no_tokens-if_rest_has_none len (t ∷ ts) text rest p never [] q = no_first_token-if_only_trivia text t.text p.0 q p.1.0
no_tokens-if_rest_has_none len (t ∷ ts) text rest p never (u ∷ us) q =
    no_tokens-if_rest_has_none _ ts _ _ p.2 never us
    (subst (λ x. Tokens x us) (sym (IsFirstToken-unique _ _ _ u _ p.1.0 q.1).1) q.2)

-- ---- what the reader of the next token must prove

module _ (text start : Bytes) (g : Trivia text start) (stop : begins_trivia start ≡ false) where
  -- If something remains after the trivia, the text has not ended.
  pub not-ended-if_nonempty : 0 < length start → Trivia text [] → ⊥
  not-ended-if_nonempty pos q = omega (arith, ap length (Trivia-unique g q stop refl))

  -- If no token follows the trivia, the text has no first token.
  pub no_first_token-if_none_after_trivia : ((t rest : Bytes) → start ≡ t ++ rest → IsToken t rest → ⊥)
      → ParsesNothing (IsFirstToken text)
  no_first_token-if_none_after_trivia never t rest q = never t rest (Trivia-unique g q.0 stop (token_no_trivia t rest q.1)) q.1

-- If a comment is not closed, the text has no first token.
pub no_first_token-if_comment_is_open : (text : Bytes)
    → ((start : Bytes) → begins_trivia start ≡ false → Trivia text start → ⊥)
    → ParsesNothing (IsFirstToken text)
no_first_token-if_comment_is_open text never t rest q = never (t ++ rest) (token_no_trivia t rest q.1) q.0

-- A text that is not only trivia and has no first token is no list of tokens.
pub no_tokens-if_no_first_token : (text : Bytes)
    → (Trivia text [] → ⊥)
    → ParsesNothing (IsFirstToken text)
    → HoldsOfNothing (Tokens text)
no_tokens-if_no_first_token text no_end no_token [] q = no_end q
no_tokens-if_no_first_token text no_end no_token (t ∷ ts) q = no_token t q.0 q.1

-- A token with the trivia before it takes at least one byte.
pub IsFirstToken-shorter : (text t rest : Bytes) → IsFirstToken text t rest → length rest < length text
IsFirstToken-shorter text t rest f = let n = token_nonempty t rest f.1 in omega (arith, Trivia-shorter f.0, length-append t rest)

-- ---- tokens with and without positions

-- If a text is a list of tokens with their positions, it is the list of the same tokens without them.
pub Tokens-PlacedTokens : (len : ℕ) (text : Bytes) (ts : List PlacedToken)
    → PlacedTokens len text ts
    → Tokens text (texts_of_tokens ts)
Tokens-PlacedTokens len text [] p = p
Tokens-PlacedTokens len text (t ∷ ts) p = (p.0, p.1, Tokens-PlacedTokens len p.0 ts p.3)

-- If a text is a list of tokens in memory with their positions, it is the list of the same tokens without them.
pub Tokens-with_spans : (len : ℕ) (rest : Bytes) (ts : List Token)
    → PlacedTokens len rest (with_spans ts)
    → Tokens rest (token_texts ts)
Tokens-with_spans len rest ts p = subst (Tokens rest) (texts_placed ts) (Tokens-PlacedTokens len rest (with_spans ts) p)

-- Tokens with the same position and the same bytes are equal.
pub placed_tokens_equal : (a b : PlacedToken) → a.at ≡ b.at → a.text ≡ b.text → a ≡ b
placed_tokens_equal a b at text =
    ap (λ (n : ℕ). let t : PlacedToken = record { at = n; text = a.text } in t) at
    ∙ ap (λ (x : Bytes). let t : PlacedToken = record { at = b.at; text = x } in t) text

-- The list of a text's tokens with their positions is unique.
pub PlacedTokens-unique : (len : ℕ) (ts us : List PlacedToken) (text : Bytes)
    → PlacedTokens len text ts
    → PlacedTokens len text us
    → ts ≡ us
PlacedTokens-unique len [] [] text p q = refl
PlacedTokens-unique len [] (u ∷ us) text p q = absurd (no_first_token-if_only_trivia text u.text q.0 p q.1)
PlacedTokens-unique len (t ∷ ts) [] text p q = absurd (no_first_token-if_only_trivia text t.text p.0 q p.1)
PlacedTokens-unique len (t ∷ ts) (u ∷ us) text p q =
    let e = IsFirstToken-unique text t.text p.0 u.text q.0 p.1 q.1 in
    let at : t.at ≡ u.at = omega (arith, p.2, q.2, ap length e.0, ap length e.1) in
    let i : t ≡ u = placed_tokens_equal t u at e.0 in
    let h = PlacedTokens-unique len ts us p.0 p.3 (subst (λ r. PlacedTokens len r us) (sym e.1) q.3) in
    cc
