-- Reading the labels at the start of a cell: the invariant when one more is read. The loop of `read_labels`
-- goes by `LabelsRead`.
use Rattle.lw_statements.proofs.Common.{◌≡◌, ℕ, zero, suc, ◌<◌, ◌≤◌, ◌+◌, ◌*◌, Bool, true, false, true≢false}
use Rattle.lw_statements.proofs.Common.{◌||◌, Option, Some, None, List, [], ◌∷◌, ◌++◌, length, length-append}
use Rattle.lw_statements.proofs.Common.{take, drop, refl, sym, ap, ◌∙◌, subst, arith, ◌↔◌, IsTrue, slice_get}
use Rattle.lw_statements.proofs.Common.{slice_index_or, codes, Contains, if◌then◌else◌, option_map, is_some}
use Rattle.lw_statements.proofs.Common.{append-nil, append_assoc, take-append-drop, bytes_eq, slice_get-map}
use Rattle.lw_statements.proofs.Common.{slice_get_within, take-map, drop-map, length-map, map-append}
use Rattle.lw_statements.proofs.Common.{list_any-append, Contains-append_right, unsigned_Decides}
use Rattle.lw_statements.proofs.Common.{pointwise_decides, update, IsDuplicateFree, IsUnreservedName}
use Rattle.lw_statements.proofs.Common.{contains_name, Bytes, TokenList, take-suc, contains_name-Contains}
use Rattle.lw_statements.proofs.Common.{IsDuplicateFree-push, Token, token_texts, Labels, LabelMap, target_by}
use Rattle.lw_statements.proofs.Common.{BeginsWithLabel, HasExactlyLabels, IsAtLabel, LabelsRead, LabelsFit}
use Rattle.lw_statements.proofs.Common.{HasDuplicateLabelAt}

-- ---- tokens and their texts

-- A token's text is at the token's index among the texts.
pub get_text : (tokens : List Token) (k : ℕ) (t : Token)
    → slice_get tokens k ≡ Some t
    → slice_get (token_texts tokens) k ≡ Some t.text.now
get_text tokens k t is = slice_get-map (λ u. u.text.now) tokens k ∙ ap (option_map (λ u. u.text.now)) is

-- The text at index j after the first k is the text at index `k + j`.
slice_get-drop_texts : (ts : TokenList) (k j : ℕ) → slice_get (drop k ts) j ≡ slice_get ts (k + j)
slice_get-drop_texts [] zero j = refl
slice_get-drop_texts [] (suc k) j = refl
slice_get-drop_texts (x ∷ ts) zero j = let e : j ≡ zero + j = omega arith in ap (slice_get (x ∷ ts)) e
slice_get-drop_texts (x ∷ ts) (suc k) j =
    let e : suc (k + j) ≡ suc k + j = omega arith in slice_get-drop_texts ts k j ∙ ap (slice_get (x ∷ ts)) e

-- The text at index j of the tokens after the first k is the text at index `k + j` of all.
pub slice_get-drop_tokens : (tokens : List Token) (k j : ℕ)
    → slice_get (token_texts (drop k tokens)) j ≡ slice_get (token_texts tokens) (k + j)
slice_get-drop_tokens tokens k j =
    ap (λ (ts : TokenList). slice_get ts j) (sym (drop-map (λ t. t.text.now) k tokens))
    ∙ slice_get-drop_texts (token_texts tokens) k j

-- If there is a token at the index `next + 1`, there are at least `next + 2` tokens.
pub next_within : (tokens : List Token) (next : ℕ) (w : Bytes)
    → slice_get (token_texts tokens) (next + 1) ≡ Some w
    → next + 2 ≤ length tokens
next_within tokens next w colon =
    omega (arith, slice_get_within (token_texts tokens) (next + 1) w colon, length-map tokens (λ t. t.text.now))

-- The comparison of the token at an index with a sign says whether the sign is there.
pub sign_equal-iff_get : (ts : TokenList) (k : ℕ) (w sign : Bytes) (b : Bool)
    → slice_get ts k ≡ Some w
    → b ≡ bytes_eq w sign
    → IsTrue b ↔ (slice_get ts k ≡ Some sign)
sign_equal-iff_get ts k w sign b at is = (
  λ yes. at ∙ ap Some ((pointwise_decides unsigned_Decides w sign).0 (sym is ∙ yes)),
  λ e. is ∙ (pointwise_decides unsigned_Decides w sign).1 (let f : Some w ≡ Some sign = sym at ∙ e in cc),
)

-- ---- names

-- A name that is found in a list is in it.
pub name_contained : (ns : List Bytes) (n : Bytes) → contains_name ns n ≡ true → Contains ns n
name_contained [] n e = absurd cc
name_contained (m ∷ ns) n e = go (bytes_eq m n) refl (name_contained ns n)
  where
    -- By whether the name is the first of the list.
    go : (b : Bool) → bytes_eq m n ≡ b → (contains_name ns n ≡ true → Contains ns n) → Contains (m ∷ ns) n
    go true f further = (0, omega arith, (pointwise_decides unsigned_Decides m n).0 f)
    go false f further = Contains-append_right (m ∷ []) ns n (further (rw f at e))

-- No name is in both parts of a list without duplicates.
pub not-in_both-if_duplicate_free : (ns ms : List Bytes) (n : Bytes)
    → IsDuplicateFree (ns ++ ms)
    → Contains ns n
    → Contains ms n
    → ⊥
not-in_both-if_duplicate_free [] ms n once h there = let k : h.0 < 0 = h.1 in omega arith
not-in_both-if_duplicate_free (m ∷ ns) ms n once h there = go h.0 h.1 h.2 (not-in_both-if_duplicate_free ns ms n once.1)
  where
    -- By the index at which the name is in the first list.
    go : (k : ℕ) → k < length (m ∷ ns) → slice_index_or (m ∷ ns) k n ≡ n → (Contains ns n → Contains ms n → ⊥) → ⊥
    go zero lt e further = once.0 (subst (λ (x : Bytes). Contains (ns ++ ms) x) (sym e) (Contains-append_right ns ms n there))
    go (suc k) lt e further = further (k, omega (arith, lt), e) there

-- ---- labels and what follows them

-- Tokens that are only labels remain so when a label with its `:` is appended.
Labels-more : (front : TokenList) (ls : List Bytes) (l : Bytes)
    → Labels front ls []
    → IsUnreservedName l
    → Labels (front ++ l ∷ codes ":" ∷ []) (ls ++ l ∷ []) []
Labels-more front [] l h loc = rw h ([], refl, loc, refl)
Labels-more front (k ∷ ls) l h loc =
    (h.0 ++ l ∷ codes ":" ∷ [], ap (λ (t : TokenList). t ++ l ∷ codes ":" ∷ []) h.1, h.2, Labels-more h.0 ls l h.3 loc)

-- Tokens that are only labels, followed by others, parse as these labels and then the others.
pub Labels-rest : (front rest : TokenList) (ls : List Bytes) → Labels front ls [] → Labels (front ++ rest) ls rest
Labels-rest front rest [] h = rw h refl
Labels-rest front rest (k ∷ ls) h = (h.0 ++ rest, ap (λ (t : TokenList). t ++ rest) h.1, h.2, Labels-rest h.0 rest ls h.3)

-- If the first `next` tokens are only labels, all tokens parse as these labels and then the others.
pub Labels-whole : (tokens : List Token) (next : ℕ) (ls : List Bytes)
    → Labels (token_texts (take next tokens)) ls []
    → Labels (token_texts tokens) ls (token_texts (drop next tokens))
Labels-whole tokens next ls says =
    subst (λ (t : TokenList). Labels t ls (token_texts (drop next tokens)))
    (sym (map-append (λ t. t.text.now) (take next tokens) (drop next tokens)) ∙ ap token_texts (take-append-drop next tokens))
    (Labels-rest (token_texts (take next tokens)) (token_texts (drop next tokens)) ls says)

-- If tokens parse as labels and then `rest`, all labels at their start are these and those at the start of `rest`.
pub Labels-cut : (ts rest mid : TokenList) (ls ks : List Bytes)
    → Labels ts ls rest
    → Labels ts ks mid
    → (BeginsWithLabel mid → ⊥)
    → (more : List Bytes) × (ks ≡ ls ++ more) × Labels rest more mid
Labels-cut ts rest mid [] ks h k none = (ks, refl, subst (λ (t : TokenList). Labels t ks mid) h k)
Labels-cut ts rest mid (l ∷ ls) [] h k none = absurd (none (ap (λ (t : TokenList). slice_get t 1) (sym k ∙ h.1)))
Labels-cut ts rest mid (l ∷ ls) (m ∷ ks) h k none =
    let e : l ∷ codes ":" ∷ h.0 ≡ m ∷ codes ":" ∷ k.0 = sym h.1 ∙ k.1 in
    let same : h.0 ≡ k.0 = cc in
    let first : l ≡ m = cc in
    let go = Labels-cut h.0 rest mid ls ks h.3 (subst (λ (t : TokenList). Labels t ks mid) (sym same) k.3) none in
    (go.0, (let tail : ks ≡ ls ++ go.0 = go.1 in cc), go.2)

-- If a `:` follows the next token, that token is the next label.
Labels-next_inv : (rest mid : TokenList) (more : List Bytes) (a : Bytes)
    → slice_get rest 0 ≡ Some a
    → slice_get rest 1 ≡ Some (codes ":")
    → Labels rest more mid
    → (BeginsWithLabel mid → ⊥)
    → (ks : List Bytes) × (more ≡ a ∷ ks) × IsUnreservedName a
Labels-next_inv rest mid [] a first colon h none = absurd (none (subst BeginsWithLabel h colon))
Labels-next_inv rest mid (m ∷ ks) a first colon h none =
    let e : slice_get rest 0 ≡ Some m = ap (λ t. slice_get t 0) h.1 in
    let same : m ≡ a = cc in
    (ks, ap (λ x. x ∷ ks) same, subst IsUnreservedName same h.2)

-- The maximal sequence of labels at the start of tokens is unique, and so is what follows it.
pub Labels-unique : (ts m n : TokenList) (ls ks : List Bytes)
    → Labels ts ls m
    → Labels ts ks n
    → (BeginsWithLabel m → ⊥)
    → (BeginsWithLabel n → ⊥)
    → (ls ≡ ks) × (m ≡ n)
Labels-unique ts m n ls ks h k p q = let cut = Labels-cut ts m n ls ks h k q in go cut.0 cut.1 cut.2
  where
    -- By the labels that `ks` has after `ls`: there are none.
    go : (more : List Bytes) → ks ≡ ls ++ more → Labels m more n → (ls ≡ ks) × (m ≡ n)
    go [] same here = (sym (same ∙ append-nil ls), here)
    go (l ∷ more) same here = absurd (p (ap (λ (t : TokenList). slice_get t 1) here.1))

-- What follows the labels is the rest of the tokens, since each label has two.
pub drop-labels : (ts : TokenList) (ls rest : TokenList)
    → Labels ts ls rest
    → (2 * length ls ≤ length ts) × (drop (2 * length ls) ts ≡ rest)
drop-labels ts [] rest h = (omega arith, h)
drop-labels ts (l ∷ ls) rest h =
    let go = drop-labels h.0 ls rest h.3 in
    let two : 2 * length (l ∷ ls) ≡ suc (suc (2 * length ls)) = omega arith in
    (omega (arith, go.0, ap length h.1, two), rw (two, h.1) go.1)

-- ---- reading them

-- Before anything is read of a cell, none of its tokens is read as a label.
pub LabelsRead-none : (tokens : List Token) (to : ℕ) (labels : LabelMap) → LabelsRead tokens to labels 0 labels
LabelsRead-none tokens to labels = record {
  names = [];
  within = omega arith;
  two_each = refl;
  says = refl;
  made = λ n. refl;
  without_duplicates = λ known knows each. subst IsDuplicateFree (sym (append-nil known)) each;
}

-- What was read of a cell's labels, when another label follows.
module _ (tokens : List Token) (to : ℕ) (labels : LabelMap) (next : ℕ) (now : LabelMap)
    (read : LabelsRead tokens to labels next now) where
  -- The map has the labels that the thread had before, and those that were read of the cell.
  HasExactlyLabels-with_read : (known : List Bytes) → HasExactlyLabels labels known → HasExactlyLabels now (known ++ read.names)
  HasExactlyLabels-with_read known knows n =
      rw (read.made n, list_any-append (λ m. bytes_eq m n) known read.names, ← knows n)
      (go (contains_name read.names n) (target_by labels n))
    where
      -- By whether the name is among those read, and by its target before.
      go : (b : Bool) (o : Option ℕ) → is_some (if b then Some to else o) ≡ (is_some o || b)
      go true None = refl
      go true (Some k) = refl
      go false None = refl
      go false (Some k) = refl

  module _ (token : Token) (is : slice_get tokens next ≡ Some token)
      (colon : slice_get (token_texts tokens) (next + 1) ≡ Some (codes ":")) where
    -- If that token is a location's name that is not in the map, it is one more label.
    pub LabelsRead-push : (after : LabelMap)
        → IsUnreservedName token.text.now
        → is_some (target_by now token.text.now) ≡ false
        → ((m : Bytes) → target_by after m ≡ update bytes_eq (target_by now) token.text.now (Some to) m)
        → LabelsRead tokens to labels (next + 2) after
    LabelsRead-push after loc fresh updated =
        let n : List ℕ = token.text.now in
        let within = next_within tokens next (codes ":") colon in
        record {
          names = read.names ++ n ∷ [];
          within = within;
          two_each = omega (arith, read.two_each, length-append read.names (n ∷ []));
          says =
              subst (λ (t : TokenList). Labels t (read.names ++ n ∷ []) []) (sym front_with_label)
              (Labels-more (token_texts (take next tokens)) read.names n read.says loc);
          made = λ m.
              rw (updated m, read.made m, list_any-append (λ l. bytes_eq l m) read.names (n ∷ []))
              (target-if_cases (bytes_eq n m) (contains_name read.names m) (target_by labels m));
          without_duplicates =
              λ known knows each.
              subst IsDuplicateFree (append_assoc known read.names (n ∷ []))
              (IsDuplicateFree-push (known ++ read.names) n (read.without_duplicates known knows each) (λ there.
              true≢false (sym (contains_name-Contains (known ++ read.names) n there)
              ∙ sym (HasExactlyLabels-with_read known knows n)
              ∙ fresh)));
        }
      where
        -- The tokens up to the next label's `:` are those before it, the name and the `:`.
        front_with_label : token_texts (take (next + 2) tokens)
            ≡ token_texts (take next tokens) ++ token.text.now ∷ codes ":" ∷ []
        front_with_label =
            let ts = token_texts tokens in
            let one : next + 1 ≡ suc next = omega arith in
            let two : next + 2 ≡ suc (suc next) = omega arith in
            rw (
              two,
              ← take-map (λ t. t.text.now) (suc (suc next)) tokens,
              take-suc ts (suc next) (codes ":") (ap (slice_get ts) (sym one) ∙ colon),
              take-suc ts next token.text.now (get_text tokens next token is),
              append_assoc (take next ts) (token.text.now ∷ []) (codes ":" ∷ []),
              take-map (λ t. t.text.now) next tokens,
            ) refl

        -- By whether a name is the new label, an older one, or neither.
        target-if_cases : (a b : Bool) (o : Option ℕ)
            → (if a then Some to else (if b then Some to else o)) ≡ (if b || (a || false) then Some to else o)
        target-if_cases true true o = refl
        target-if_cases true false o = refl
        target-if_cases false true o = refl
        target-if_cases false false o = refl

    -- If a `:` follows the next token, all labels of the cell are those read, this token and others, and the token may be a
    -- label.
    pub Labels-with_next_inv : (ks : List Bytes) (mid : TokenList)
        → Labels (token_texts tokens) ks mid
        → (BeginsWithLabel mid → ⊥)
        → (more : List Bytes) × (ks ≡ read.names ++ token.text.now ∷ more) × IsUnreservedName token.text.now
    Labels-with_next_inv ks mid h none =
        let rest = token_texts (drop next tokens) in
        let cut = Labels-cut (token_texts tokens) rest mid read.names ks (Labels-whole tokens next read.names read.says) h none in
        let here : next ≡ next + 0 = omega arith in
        let go =
        Labels-next_inv rest mid cut.0 token.text.now
        (slice_get-drop_tokens tokens next 0 ∙ ap (slice_get (token_texts tokens)) (sym here) ∙ get_text tokens next token is)
        (slice_get-drop_tokens tokens next 1 ∙ colon) cut.2 none in
        (go.0, cut.1 ∙ ap (λ (ns : List Bytes). read.names ++ ns) go.1, go.2)

    -- The token is in the place of a label.
    abbrev pub IsAtLabel-of_token : IsAtLabel tokens labels token.at
    IsAtLabel-of_token = record {
      names = read.names;
      place = next;
      token = token;
      token_at = is;
      begins = refl;
      says = read.says;
      colon = colon;
      without_duplicates = read.without_duplicates;
    }

    -- A label that the thread has already.
    module _ (led : is_some (target_by now token.text.now) ≡ true) where
      -- A label that the map has is one of the thread's.
      label_known : (known : List Bytes) → HasExactlyLabels labels known → Contains (known ++ read.names) token.text.now
      label_known known knows =
          name_contained (known ++ read.names) token.text.now (sym (HasExactlyLabels-with_read known knows token.text.now) ∙ led)

      -- If the next label is one that the thread has already, no labels of the cell fit.
      pub no_labels-if_duplicate : (ks : List Bytes) → LabelsFit labels (token_texts tokens) ks → ⊥
      no_labels-if_duplicate ks fit =
          let on = Labels-with_next_inv ks fit.rest fit.says fit.stops in
          let row : fit.known ++ ks ≡ (fit.known ++ read.names) ++ token.text.now ∷ on.0 =
          ap (λ (ns : List Bytes). fit.known ++ ns) on.1 ∙ sym (append_assoc fit.known read.names (token.text.now ∷ on.0)) in
          not-in_both-if_duplicate_free (fit.known ++ read.names) (token.text.now ∷ on.0) token.text.now
          (subst IsDuplicateFree row fit.without_duplicates) (label_known fit.known fit.knows) (0, omega arith, refl)

      -- If the next label is one that the thread has already, its token is a duplicate label.
      pub HasDuplicateLabelAt-of_token : HasDuplicateLabelAt tokens labels token.at
      HasDuplicateLabelAt-of_token = (IsAtLabel-of_token, label_known)
