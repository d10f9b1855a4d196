-- Where parsing fails: at the next token, or later, after what was parsed. Each function of the parser proves
-- by these lemmas that its refusal is at the place where the tokens fail.
use Rattle.lw_text.proofs.Common.{true, false, begins_token, ◌≡◌, ◌≢◌, ℕ, Option, Some, None, List, [], ◌∷◌}
use Rattle.lw_text.proofs.Common.{refl, sym, subst, drop, ap, ◌∙◌, TokenList, Bytes, Cursor, Refusal, Token}
use Rattle.lw_text.proofs.Common.{IsSuffix, remaining, remaining_texts, token_texts, ParsesMany, BeginsAt}
use Rattle.lw_text.proofs.Common.{Fails, FailsFrom, IfFirst, FailsBefore, Arch, Initializer, ◌++◌, append-nil}
use Rattle.lw_text.proofs.Common.{append_assoc, slice_get, take, zero, suc, BeginsInitializer}
use Rattle.lw_text.proofs.Common.{BeginInitializers, TextCause}
use Rattle.lw_text.proofs.Lists.{IsSuffix-join, AreReadSepEndBy}
use Rattle.lw_text.proofs.Texts.{bytes_equal, not-equal-if_bytes_differ, not-token_is_next}

-- If the tokens begin at the refusal's place, and fail there in this way and for its cause, parsing fails so.
pub Fails-here : {Way : TokenList → TokenList → TextCause → Type 0} (before : Cursor) (f : Refusal)
    → BeginsAt (remaining before) f.at
    → Way (remaining_texts before) (remaining_texts before) f.cause
    → Fails before Way f
Fails-here before f place way = record { rest = remaining before; suffix = ([], refl); place = place; way = way }

-- If parsing fails after something was parsed, and to fail so there is to fail in the earlier tokens, parsing fails before it.
pub Fails-later : {Way Later : TokenList → TokenList → TextCause → Type 0} {before after : Cursor} {f : Refusal}
    → IsSuffix (remaining before) (remaining after)
    → ((rest : TokenList) (cause : TextCause)
    → Later (remaining_texts after) rest cause
    → Way (remaining_texts before) rest cause)
    → Fails after Later f
    → Fails before Way f
Fails-later advances way h =
    record { rest = h.rest; suffix = IsSuffix-join advances h.suffix; place = h.place; way = way (token_texts h.rest) _ h.way }

-- If tokens begin with t, and P holds of t, P holds of the first of the tokens.
pub IfFirst-cons : (P : Bytes → Type 0) (ts l : TokenList) (t : Bytes) → ts ≡ t ∷ l → P t → IfFirst P ts
IfFirst-cons P ts l t e p = subst (IfFirst P) (sym e) p

-- If there are no tokens, `IfFirst` holds, since there is no first token.
pub IfFirst-nil : (P : Bytes → Type 0) (ts : TokenList) → ts ≡ [] → IfFirst P ts
IfFirst-nil P ts e = subst (IfFirst P) (sym e) tt

-- Equal lists have equal items after the first.
pub cons-tail_unique : {X : Type 0} {a b : X} {l m : List X} → a ∷ l ≡ b ∷ m → l ≡ m
cons-tail_unique e = ap (drop 1) e

-- The place of tokens that begin with t is that of t.
pub BeginsAt-cons : (ts l : List Token) (t : Token) → ts ≡ t ∷ l → BeginsAt ts (Some t.at)
BeginsAt-cons ts l t e = subst (λ x. BeginsAt x (Some t.at)) (sym e) refl

-- If there are no tokens, their place is `None`.
pub BeginsAt-nil : (ts : List Token) (at : Option ℕ) → ts ≡ [] → at ≡ None → BeginsAt ts at
BeginsAt-nil ts at e p = subst (λ x. BeginsAt x at) (sym e) p

-- If P implies Q, and P holds of the first of the tokens, so does Q.
pub IfFirst-map : (P Q : Bytes → Type 0) (ts : TokenList) → ((t : Bytes) → P t → Q t) → IfFirst P ts → IfFirst Q ts
IfFirst-map P Q [] f p = tt
IfFirst-map P Q (t ∷ ts) f p = f t p

-- If the test says that tokens begin with w, their first is w.
pub IfFirst-begins : (w : Bytes) (ts : TokenList) → begins_token w ts ≡ true → IfFirst (λ t. t ≡ w) ts
IfFirst-begins w [] e = tt
IfFirst-begins w (t ∷ ts) e = bytes_equal t w e

-- If the test says that tokens do not begin with w, their first, if there is one, is not w.
pub IfFirst-begins_not : (w : Bytes) (ts : TokenList) → begins_token w ts ≡ false → IfFirst (λ t. t ≢ w) ts
IfFirst-begins_not w [] e = tt
IfFirst-begins_not w (t ∷ ts) e = not-equal-if_bytes_differ t w e

-- If tokens fail before some words, and do not begin with w either, they fail before w and these words.
pub FailsBefore-more : (w : Bytes) (words : List Bytes) (c : TextCause) (ts rest : TokenList) (cause : TextCause)
    → begins_token w ts ≡ false
    → FailsBefore words c ts rest cause
    → FailsBefore (w ∷ words) c ts rest cause
FailsBefore-more w words c ts [] cause e f = (f.0, tt)
FailsBefore-more w words c ts (t ∷ rest) cause e f =
    (f.0, ((λ same. not-token_is_next w ts rest e (f.0 ∙ ap (λ x. x ∷ rest) same), f.1.0), f.1.1))

-- If what remains of a text fails, and to fail so is to fail in the text, the text fails at the same place.
pub FailsFrom-later : {Way Later : Bytes → Bytes → TextCause → Type 0} {len whole : ℕ} {text after : Bytes} {at : ℕ}
    {cause : TextCause}
    → len ≡ whole
    → ((rest : Bytes) (cause : TextCause) → Later after rest cause → Way text rest cause)
    → FailsFrom len after Later at cause
    → FailsFrom whole text Way at cause
FailsFrom-later same way h = record { rest = h.rest; place = h.place ∙ same; way = way h.rest _ h.way }

-- If initializers begin after those in front, and one more begins after them, all of them and this one begin after those in
-- front.
pub BeginInitializers-push : (arch : Arch) (before : Cursor) (front es : List Initializer) (e : Initializer)
    → BeginInitializers arch before front es
    → BeginsInitializer arch before (front ++ es) e
    → BeginInitializers arch before front (es ++ e ∷ [])
BeginInitializers-push arch before front [] e all more =
    (subst (λ l. BeginsInitializer arch before l e) (append-nil front) more, tt)
BeginInitializers-push arch before front (x ∷ es) e all more = (
  all.0,
  BeginInitializers-push arch before (front ++ x ∷ []) es e all.1
      (subst (λ l. BeginsInitializer arch before l e) (sym (append_assoc front (x ∷ []) es)) more),
)

-- Each of the initializers begins after those before it.
pub BeginsInitializer-at : (arch : Arch) (before : Cursor) (front es : List Initializer) (k : ℕ) (e : Initializer)
    → BeginInitializers arch before front es
    → slice_get es k ≡ Some e
    → BeginsInitializer arch before (front ++ take k es) e
BeginsInitializer-at arch before front [] k e all is = absurd cc
BeginsInitializer-at arch before front (x ∷ es) zero e all is =
    let same : x ≡ e = cc in
    subst (λ l. BeginsInitializer arch before l e) (sym (append-nil front))
    (subst (BeginsInitializer arch before front) same all.0)
BeginsInitializer-at arch before front (x ∷ es) (suc k) e all is =
    subst (λ l. BeginsInitializer arch before l e) (append_assoc front (x ∷ []) (take k es))
    (BeginsInitializer-at arch before (front ++ x ∷ []) es k e all.1 is)

-- Elements that were read with their separators parse one after another, each as an element with its separator.
pub ParsesMany-of_read : {X : Type 0} (P : TokenList → X → TokenList → Type 0) (sep close : Bytes) (xs : List X)
    (ts rest : TokenList)
    → AreReadSepEndBy P sep close ts xs rest
    → ParsesMany (λ ts x next. P ts x (sep ∷ next)) ts xs rest
ParsesMany-of_read P sep close [] ts rest read = read
ParsesMany-of_read P sep close (x ∷ xs) ts rest read =
    (read.0, subst (P ts x) read.1.2 read.1.1, ParsesMany-of_read P sep close xs read.0 rest read.2)
