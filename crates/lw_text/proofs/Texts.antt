-- What follows if the comparison of two texts is true or false, such as whether a token is next. The parser
-- branches on such comparisons only.
use Rattle.lw_text.proofs.Common.{◌≡◌, ℕ, zero, suc, ◌+◌, ◌<◌, ◌≤◌, true, false, List, [], ◌∷◌, drop, length}
use Rattle.lw_text.proofs.Common.{length-drop, get_or, refl, sym, ap, ◌∙◌, subst, arith, add-one, drop-cons}
use Rattle.lw_text.proofs.Common.{codes, bytes_eq, drop_all, length-map, bytes_eq-Decides, Bytes, TokenList}
use Rattle.lw_text.proofs.Common.{Token, token_texts, IsSuffix, begins_token}

-- Texts that `bytes_eq` finds equal are equal.
pub bytes_equal : (t u : Bytes) → bytes_eq t u ≡ true → t ≡ u
bytes_equal t u h = (bytes_eq-Decides t u).0 h

-- Texts that `bytes_eq` finds unequal are unequal.
pub not-equal-if_bytes_differ : (t u : Bytes) → bytes_eq t u ≡ false → t ≡ u → ⊥
not-equal-if_bytes_differ t u h e = let k = (bytes_eq-Decides t u).1 e in cc

-- The two marks after cells differ.
pub not-bar_is_semicolon : codes "|" ≡ codes ";" → ⊥
not-bar_is_semicolon e = not-equal-if_bytes_differ (codes "|") (codes ";") refl e

-- If the test says that the tokens do not begin with this one, they do not.
pub not-token_is_next : (w : Bytes) (ts l : TokenList) → begins_token w ts ≡ false → ts ≡ w ∷ l → ⊥
not-token_is_next w ts l h e = not-equal-if_bytes_differ w w (ap (begins_token w) (sym e) ∙ h) refl

-- The tokens from an index on are the token at the index, followed by those from the next index on.
pub token_next : (tokens : List Token) (next : ℕ) (t : Token)
    → next < length tokens
    → t ≡ get_or tokens next t
    → drop next tokens ≡ t ∷ drop (next + 1) tokens
token_next tokens next t lt e = rw add-one (drop-cons tokens next t lt ∙ ap (λ x. x ∷ drop (suc next) tokens) (sym e))

-- A token that is found to be next is the first of the rest, and the tokens from the next index on follow it.
pub word_next : (tokens : List Token) (next : ℕ) (w : Bytes)
    → begins_token w (token_texts (drop next tokens)) ≡ true
    → (next < length tokens)
    × (token_texts (drop next tokens) ≡ w ∷ token_texts (drop (next + 1) tokens))
    × IsSuffix (drop next tokens) (drop (next + 1) tokens)
word_next [] zero w h = absurd cc
word_next [] (suc next) w h = absurd cc
word_next (t ∷ tokens) zero w h = (omega arith, ap (λ x. x ∷ token_texts tokens) (bytes_equal _ w h), (t ∷ [], refl))
word_next (t ∷ tokens) (suc next) w h =
    let r = word_next tokens next w h in
    let k : suc (next + 1) ≡ suc next + 1 = omega arith in (
      omega (arith, r.0),
      r.1 ∙ ap (λ (n : ℕ). w ∷ token_texts (drop n (t ∷ tokens))) k,
      subst (λ (n : ℕ). IsSuffix (drop next tokens) (drop n (t ∷ tokens))) k r.2,
    )

-- Past the last token no tokens remain.
pub no_tokens-if_past_last : (tokens : List Token) (next : ℕ) → length tokens ≤ next → token_texts (drop next tokens) ≡ []
no_tokens-if_past_last tokens next le = ap token_texts (drop_all next tokens le)

-- If an index is at most the number of tokens and differs from it, tokens remain from the index on.
pub tokens_remain-before_last : (tokens : List Token) (next : ℕ)
    → next ≤ length tokens
    → (next ≡ length tokens → ⊥)
    → token_texts (drop next tokens) ≡ []
    → ⊥
tokens_remain-before_last tokens next le ne e =
    ne (omega (arith, le, length-map (drop next tokens) (λ (t : Token). t.text.now), length-drop next tokens, ap length e))
