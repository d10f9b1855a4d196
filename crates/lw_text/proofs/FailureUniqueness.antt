-- Tokens fail at one place only, and for one cause; and tokens that parse do not fail. First of the smallest
-- phrases, up to sites and values. A step of the law that a text fails at one place (OneFault).
use Rattle.lw_text.proofs.Common.{cons-head_eq, ◌≡◌, ◌≢◌, ◌⊎◌, ℕ, Option, None, Some, List, [], ◌∷◌, refl}
use Rattle.lw_text.proofs.Common.{sym, ap, ◌∙◌, subst, inl, inr, codes, AllByRecursion, Arch, Bytes}
use Rattle.lw_text.proofs.Common.{NameTable, TokenList, IsName, IsUnreservedName, IsNumber, IsRegisterName}
use Rattle.lw_text.proofs.Common.{HasRoomFor, HasRoomForName, SiteSyntax, InMemory, InThread, IsSite}
use Rattle.lw_text.proofs.Common.{ThreadAllowed, Value, IfFirst, FailsBefore, IsMisfitCause, IsNoNewLocation}
use Rattle.lw_text.proofs.Common.{FailsInName, FailsInBrackets, in_bracketed_name, no_bracket}
use Rattle.lw_text.proofs.Common.{FailsInRegister, no_colon, no_register_name, FailsInSite, in_name}
use Rattle.lw_text.proofs.Common.{in_brackets, no_thread, in_register, FailsInValue, no_equals, no_number}
use Rattle.lw_text.proofs.Common.{FailsInAssignment, in_site, in_value, TextCause}
use Rattle.lw_text.proofs.SitesAndValues.{not-number_and_name, bracket_no_name, IsSite-unique}
use Rattle.lw_text.proofs.Failures.{cons-tail_unique}
use Rattle.lw_text.proofs.api.Numbers.{bracket_no_number, number-unique}

-- Two failures are at the same place, and for the same cause, unless the input ends there.
abbrev pub IsSameFailure : {X : Type 0} → List X → TextCause → List X → TextCause → Type 0
IsSameFailure rest cause other because = (rest ≡ other) × (rest ≢ [] → cause ≡ because)

-- A way to fail is unique: from the same tokens it fails at one place, for one cause.
abbrev pub FailsUniquely : {X : Type 0} → (List X → List X → TextCause → Type 0) → Type 0
FailsUniquely {X} way =
    (ts rest other : List X) (cause because : TextCause)
    → way ts rest cause
    → way ts other because
    → IsSameFailure rest cause other because

-- A failure at the first token is unique if its cause is.
pub FailsUniquely-at_first_token : (P : Bytes → TextCause → Type 0)
    → ((t : Bytes) (cause because : TextCause) → P t cause → P t because → cause ≡ because)
    → FailsUniquely (λ ts rest cause. (ts ≡ rest) × IfFirst (λ t. P t cause) rest)
FailsUniquely-at_first_token P one ts rest other cause because p q =
    (sym p.0 ∙ q.0, by_first_token rest other (sym p.0 ∙ q.0) p.1 q.1)
  where
    -- If each of two causes is right for the first of the same tokens, and there is one, the causes are equal.
    by_first_token : (rest other : TokenList)
        → rest ≡ other
        → IfFirst (λ t. P t cause) rest
        → IfFirst (λ t. P t because) other
        → rest ≢ []
        → cause ≡ because
    by_first_token [] other e x y some = absurd (some refl)
    by_first_token (t ∷ rest) other e x y some = one t cause because x (subst (IfFirst (λ t. P t because)) (sym e) y)

-- If P holds of the first of tokens, and they begin with t, P holds of t.
pub IfFirst-cons_inv : (P : Bytes → Type 0) (ts l : TokenList) (t : Bytes) → ts ≡ t ∷ l → IfFirst P ts → P t
IfFirst-cons_inv P ts l t e h = subst (IfFirst P) e h

-- Failing before some words is unique.
pub FailsBefore-unique : (words : List Bytes) (c : TextCause) → FailsUniquely (FailsBefore words c)
FailsBefore-unique words c =
    FailsUniquely-at_first_token (λ t cause. AllByRecursion (λ w. t ≢ w) words × (cause ≡ c))
    (λ t cause because p q. p.1 ∙ sym q.1)

-- Tokens that begin with one of the words do not fail before them.
pub not-FailsBefore-if_parsed : (words : List Bytes) (c : TextCause) (ts rest l : TokenList) (cause : TextCause) (w : Bytes)
    → FailsBefore words c ts rest cause
    → ts ≡ w ∷ l
    → (AllByRecursion (λ v. w ≢ v) words → ⊥)
    → ⊥
not-FailsBefore-if_parsed words c ts rest l cause w fails begins one =
    one (IfFirst-cons_inv _ rest l w (sym fails.0 ∙ begins) fails.1).0

-- A misfit has one cause.
IsMisfitCause-unique : (c : TextCause) (t : Bytes) (cause because : TextCause)
    → IsMisfitCause c t cause
    → IsMisfitCause c t because
    → cause ≡ because
IsMisfitCause-unique c t cause because (inl p) (inl q) = p.1 ∙ sym q.1
IsMisfitCause-unique c t cause because (inl p) (inr q) = absurd (q.0 p.0)
IsMisfitCause-unique c t cause because (inr p) (inl q) = absurd (p.0 q.0)
IsMisfitCause-unique c t cause because (inr p) (inr q) = p.1 ∙ sym q.1

-- A token in place of a location fails for one cause.
IsNoNewLocation-unique : (c : TextCause) (names : NameTable) (t : Bytes) (cause because : TextCause)
    → IsNoNewLocation c names t cause
    → IsNoNewLocation c names t because
    → cause ≡ because
IsNoNewLocation-unique c names t cause because (inl p) (inl q) = IsMisfitCause-unique c t cause because p.1 q.1
IsNoNewLocation-unique c names t cause because (inl p) (inr q) = absurd (p.0 q.0)
IsNoNewLocation-unique c names t cause because (inr p) (inl q) = absurd (q.0 p.0)
IsNoNewLocation-unique c names t cause because (inr p) (inr q) = p.2 ∙ sym q.2

-- The name of a location fails at one place only, and for one cause.
FailsInName-unique : (names : NameTable) (c : TextCause) → FailsUniquely (FailsInName names c)
FailsInName-unique names c = FailsUniquely-at_first_token (IsNoNewLocation c names) (IsNoNewLocation-unique c names)

-- A location's name for which there is room does not fail.
not-FailsInName-if_parsed : (names : NameTable) (c : TextCause) (ts rest l : TokenList) (cause : TextCause) (x : Bytes)
    → FailsInName names c ts rest cause
    → ts ≡ x ∷ l
    → IsUnreservedName x
    → HasRoomForName names x
    → ⊥
not-FailsInName-if_parsed names c ts rest l cause x fails begins is room =
    by_first_token (IfFirst-cons_inv (λ t. IsNoNewLocation c names t cause) rest l x (sym fails.0 ∙ begins) fails.1)
  where
    -- No cause is right for a token that is a location's name and has room.
    by_first_token : IsNoNewLocation c names x cause → ⊥
    by_first_token (inl p) = p.0 is
    by_first_token (inr p) = p.1 room

-- A location in brackets fails at one place only, and for one cause.
FailsInBrackets-unique : (names : NameTable) (c : TextCause) → FailsUniquely (FailsInBrackets names c)
FailsInBrackets-unique names c ts r s d e (in_bracketed_name p) (in_bracketed_name q) = FailsInName-unique names c ts r s d e p q
FailsInBrackets-unique names c ts r s d e (in_bracketed_name p) (no_bracket begins is room q) =
    absurd (not-FailsInName-if_parsed names c ts r _ d _ p begins is room)
FailsInBrackets-unique names c ts r s d e (no_bracket begins is room p) (in_bracketed_name q) =
    absurd (not-FailsInName-if_parsed names c ts s _ e _ q begins is room)
FailsInBrackets-unique names c ts r s d e (no_bracket {mid = mid} begins is room p) (no_bracket {mid = other} again too has q) =
    let same : mid ≡ other = cons-tail_unique (sym begins ∙ again) in
    FailsBefore-unique (codes "]" ∷ []) c mid r s d e p (subst (λ l. FailsBefore (codes "]" ∷ []) c l s e) (sym same) q)

-- A location in brackets for which there is room does not fail.
not-FailsInBrackets-if_parsed : (names : NameTable) (c : TextCause) (ts rest l : TokenList) (cause : TextCause) (x : Bytes)
    → FailsInBrackets names c ts rest cause
    → ts ≡ x ∷ codes "]" ∷ l
    → IsUnreservedName x
    → HasRoomForName names x
    → ⊥
not-FailsInBrackets-if_parsed names c ts rest l cause x (in_bracketed_name p) begins is room =
    not-FailsInName-if_parsed names c ts rest _ cause x p begins is room
not-FailsInBrackets-if_parsed names c ts rest l cause x (no_bracket again too has p) begins is room =
    not-FailsBefore-if_parsed (codes "]" ∷ []) c _ rest l cause (codes "]") p (cons-tail_unique (sym again ∙ begins))
    (λ all. all.0 refl)

-- A register after a thread's number fails at one place only, and for one cause.
FailsInRegister-unique : (arch : Arch) (c : TextCause) → FailsUniquely (FailsInRegister arch c)
FailsInRegister-unique arch c ts r s d e (no_colon p) (no_colon q) = FailsBefore-unique (codes ":" ∷ []) c ts r s d e p q
FailsInRegister-unique arch c ts r s d e (no_colon p) (no_register_name begins q) =
    absurd (not-FailsBefore-if_parsed (codes ":" ∷ []) c ts r _ d (codes ":") p begins (λ all. all.0 refl))
FailsInRegister-unique arch c ts r s d e (no_register_name begins p) (no_colon q) =
    absurd (not-FailsBefore-if_parsed (codes ":" ∷ []) c ts s _ e (codes ":") q begins (λ all. all.0 refl))
FailsInRegister-unique arch c ts r s d e (no_register_name begins p) (no_register_name again q) =
    FailsUniquely-at_first_token (λ t cause. ((n : ℕ) → IsRegisterName arch t n → ⊥) × IsMisfitCause c t cause)
    (λ t cause because x y. IsMisfitCause-unique c t cause because x.1 y.1) r r s d e (refl, p)
    (cons-tail_unique (sym begins ∙ again), q)

-- Tokens that begin with `:` and a register's name do not satisfy `FailsInRegister`.
not-FailsInRegister-if_parsed : (arch : Arch) (c : TextCause) (ts rest l : TokenList) (cause : TextCause) (q : Bytes) (n : ℕ)
    → FailsInRegister arch c ts rest cause
    → ts ≡ codes ":" ∷ q ∷ l
    → IsRegisterName arch q n
    → ⊥
not-FailsInRegister-if_parsed arch c ts rest l cause q n (no_colon p) begins is =
    not-FailsBefore-if_parsed (codes ":" ∷ []) c ts rest _ cause (codes ":") p begins (λ all. all.0 refl)
not-FailsInRegister-if_parsed arch c ts rest l cause q n (no_register_name again p) begins is =
    (IfFirst-cons_inv (λ t. ((n : ℕ) → IsRegisterName arch t n → ⊥) × IsMisfitCause c t cause) rest l q
    (cons-tail_unique (sym again ∙ begins)) p).0 n is

-- ---- Sites.

-- The first of the tokens, if there is one, is neither `[` nor a number.
abbrev NeitherBracketNorNumberFirst : TokenList → Type 0
NeitherBracketNorNumberFirst ts = IfFirst (λ t. (t ≢ codes "[") × ((n : ℕ) → IsNumber t n → ⊥)) ts

-- If the first of the tokens is neither `[` nor a number, they do not begin with `[`.
no_bracket-if_neither_first : (ts l : TokenList) → NeitherBracketNorNumberFirst ts → ts ≡ codes "[" ∷ l → ⊥
no_bracket-if_neither_first ts l plain e = (IfFirst-cons_inv _ ts l (codes "[") e plain).0 refl

-- If the first of the tokens is neither `[` nor a number, they do not begin with a number.
no_number-if_neither_first : (ts l : TokenList) (p : Bytes) (n : ℕ)
    → NeitherBracketNorNumberFirst ts
    → ts ≡ p ∷ l
    → IsNumber p n
    → ⊥
no_number-if_neither_first ts l p n plain e is = (IfFirst-cons_inv _ ts l p e plain).1 n is

-- Tokens do not begin both with `[` and with a number.
not-bracket_and_number : (ts l m : TokenList) (p : Bytes) (n : ℕ) → ts ≡ codes "[" ∷ l → ts ≡ p ∷ m → IsNumber p n → ⊥
not-bracket_and_number ts l m p n e f is = bracket_no_number n (subst (λ w. IsNumber w n) (cons-head_eq _ _ _ _ (sym f ∙ e)) is)

-- Two numbers at the start of the same tokens are the same.
IsNumber-unique_first : (ts l m : TokenList) (p q : Bytes) (n k : ℕ)
    → ts ≡ p ∷ l
    → ts ≡ q ∷ m
    → IsNumber p n
    → IsNumber q k
    → n ≡ k
IsNumber-unique_first ts l m p q n k e f is also =
    number-unique p n k is (subst (λ w. IsNumber w k) (cons-head_eq _ _ _ _ (sym f ∙ e)) also)

module _ (arch : Arch) (threads : Option ℕ) (names : NameTable) (c : TextCause) where
  -- A site fails at one place only, and for one cause.
  pub FailsInSite-unique : FailsUniquely (FailsInSite arch threads names c)
  FailsInSite-unique ts r s d e (in_name plain p) (in_name too q) = FailsInName-unique names c ts r s d e p q
  FailsInSite-unique ts r s d e (in_name plain p) (in_brackets begins q) = absurd (no_bracket-if_neither_first ts _ plain begins)
  FailsInSite-unique ts r s d e (in_name plain p) (no_thread q n begins at is refused because) =
      absurd (no_number-if_neither_first ts _ q n plain begins is)
  FailsInSite-unique ts r s d e (in_name plain p) (in_register q n begins is there w) =
      absurd (no_number-if_neither_first ts _ q n plain begins is)
  FailsInSite-unique ts r s d e (in_brackets begins p) (in_name plain q) = absurd (no_bracket-if_neither_first ts _ plain begins)
  FailsInSite-unique ts r s d e (in_brackets {inside = inside} begins p) (in_brackets {inside = other} again q) =
      let same : inside ≡ other = cons-tail_unique (sym begins ∙ again) in
      FailsInBrackets-unique names c inside r s d e p (subst (λ l. FailsInBrackets names c l s e) (sym same) q)
  FailsInSite-unique ts r s d e (in_brackets begins p) (no_thread q n again at is refused because) =
      absurd (not-bracket_and_number ts _ _ q n begins again is)
  FailsInSite-unique ts r s d e (in_brackets begins p) (in_register q n again is there w) =
      absurd (not-bracket_and_number ts _ _ q n begins again is)
  FailsInSite-unique ts r s d e (no_thread p n begins at is refused because) (in_name plain q) =
      absurd (no_number-if_neither_first ts _ p n plain begins is)
  FailsInSite-unique ts r s d e (no_thread p n begins at is refused because) (in_brackets again q) =
      absurd (not-bracket_and_number ts _ _ p n again begins is)
  FailsInSite-unique ts r s d e (no_thread p n begins at is refused because) (no_thread q k again too also not therefore) =
      (sym at ∙ too, λ some. because ∙ sym therefore)
  FailsInSite-unique ts r s d e (no_thread p n begins at is refused because) (in_register q k again also there w) =
      absurd (refused 0
      (subst (λ (t : ℕ). ThreadAllowed threads (InThread t 0)) (sym (IsNumber-unique_first ts _ _ p q n k begins again is also))
      (there 0)))
  FailsInSite-unique ts r s d e (in_register p n begins is there v) (in_name plain q) =
      absurd (no_number-if_neither_first ts _ p n plain begins is)
  FailsInSite-unique ts r s d e (in_register p n begins is there v) (in_brackets again q) =
      absurd (not-bracket_and_number ts _ _ p n again begins is)
  FailsInSite-unique ts r s d e (in_register p n begins is there v) (no_thread q k again too also not therefore) =
      absurd (not 0
      (subst (λ (t : ℕ). ThreadAllowed threads (InThread t 0)) (IsNumber-unique_first ts _ _ p q n k begins again is also)
      (there 0)))
  FailsInSite-unique ts r s d e (in_register p n {after = after} begins is there v) (in_register q k {after = other} again also too w) =
      let same : after ≡ other = cons-tail_unique (sym begins ∙ again) in
      FailsInRegister-unique arch c after r s d e v (subst (λ l. FailsInRegister arch c l s e) (sym same) w)

  -- Tokens that begin with a site, whose thread is allowed and whose location has room, do not satisfy `FailsInSite`.
  pub not-FailsInSite-if_parsed : (ts rest mid : TokenList) (cause : TextCause) (site : SiteSyntax)
      → FailsInSite arch threads names c ts rest cause
      → IsSite arch ts site mid
      → ThreadAllowed threads site
      → HasRoomFor names (site ∷ [])
      → ⊥
  not-FailsInSite-if_parsed ts rest mid cause (InMemory x) (in_name plain p) (is, inl e) there room =
      not-FailsInName-if_parsed names c ts rest mid cause x p e is room
  not-FailsInSite-if_parsed ts rest mid cause (InMemory x) (in_name plain p) (is, inr e) there room =
      no_bracket-if_neither_first ts _ plain e
  not-FailsInSite-if_parsed ts rest mid cause (InMemory x) (in_brackets begins p) (is, inl e) there room =
      bracket_no_name (subst IsName (cons-head_eq _ _ _ _ (sym e ∙ begins)) is.0)
  not-FailsInSite-if_parsed ts rest mid cause (InMemory x) (in_brackets begins p) (is, inr e) there room =
      not-FailsInBrackets-if_parsed names c _ rest mid cause x p (cons-tail_unique (sym begins ∙ e)) is room
  not-FailsInSite-if_parsed ts rest mid cause (InMemory x) (no_thread q n begins at number refused because) (is, inl e) there room =
      not-number_and_name q n number (subst IsName (cons-head_eq _ _ _ _ (sym e ∙ begins)) is.0)
  not-FailsInSite-if_parsed ts rest mid cause (InMemory x) (no_thread q n begins at number refused because) (is, inr e) there room =
      not-bracket_and_number ts _ _ q n e begins number
  not-FailsInSite-if_parsed ts rest mid cause (InMemory x) (in_register q n begins number too w) (is, inl e) there room =
      not-number_and_name q n number (subst IsName (cons-head_eq _ _ _ _ (sym e ∙ begins)) is.0)
  not-FailsInSite-if_parsed ts rest mid cause (InMemory x) (in_register q n begins number too w) (is, inr e) there room =
      not-bracket_and_number ts _ _ q n e begins number
  not-FailsInSite-if_parsed ts rest mid cause (InThread t r) (in_name plain p) is there room =
      no_number-if_neither_first ts _ is.0 t plain is.2 is.3
  not-FailsInSite-if_parsed ts rest mid cause (InThread t r) (in_brackets begins p) is there room =
      not-bracket_and_number ts _ _ is.0 t begins is.2 is.3
  not-FailsInSite-if_parsed ts rest mid cause (InThread t r) (no_thread q n begins at number refused because) is there room =
      refused r
      (subst (λ (k : ℕ). ThreadAllowed threads (InThread k r)) (IsNumber-unique_first ts _ _ is.0 q t n is.2 begins is.3 number)
      there)
  not-FailsInSite-if_parsed ts rest mid cause (InThread t r) (in_register q n begins number too w) is there room =
      not-FailsInRegister-if_parsed arch c _ rest mid cause is.1 r w (cons-tail_unique (sym begins ∙ is.2)) is.4

-- ---- Values and assignments.

-- A value fails at one place only, and for one cause.
pub FailsInValue-unique : (c : TextCause) → FailsUniquely (FailsInValue c)
FailsInValue-unique c ts r s d e (no_equals p) (no_equals q) = FailsBefore-unique (codes "=" ∷ []) c ts r s d e p q
FailsInValue-unique c ts r s d e (no_equals p) (no_number begins q) =
    absurd (not-FailsBefore-if_parsed (codes "=" ∷ []) c ts r _ d (codes "=") p begins (λ all. all.0 refl))
FailsInValue-unique c ts r s d e (no_number begins p) (no_equals q) =
    absurd (not-FailsBefore-if_parsed (codes "=" ∷ []) c ts s _ e (codes "=") q begins (λ all. all.0 refl))
FailsInValue-unique c ts r s d e (no_number begins p) (no_number again q) =
    FailsUniquely-at_first_token (λ t cause. ((n : ℕ) → IsNumber t n → ⊥) × (cause ≡ c)) (λ t cause because x y. x.1 ∙ sym y.1) r
    r s d e (refl, p) (cons-tail_unique (sym begins ∙ again), q)

-- Tokens that begin with a value do not satisfy `FailsInValue`.
pub not-FailsInValue-if_parsed : (c : TextCause) (ts rest mid : TokenList) (cause : TextCause) (n : ℕ)
    → FailsInValue c ts rest cause
    → Value ts n mid
    → ⊥
not-FailsInValue-if_parsed c ts rest mid cause n (no_equals p) is =
    not-FailsBefore-if_parsed (codes "=" ∷ []) c ts rest _ cause (codes "=") p is.1 (λ all. all.0 refl)
not-FailsInValue-if_parsed c ts rest mid cause n (no_number begins p) is =
    (IfFirst-cons_inv (λ t. ((n : ℕ) → IsNumber t n → ⊥) × (cause ≡ c)) rest mid is.0 (cons-tail_unique (sym begins ∙ is.1)) p).0
    n is.2

module _ (arch : Arch) (threads : Option ℕ) (names : NameTable) (c : TextCause) where
  -- A site with its word fails at one place only, and for one cause.
  pub FailsInAssignment-unique : FailsUniquely (FailsInAssignment arch threads names c)
  FailsInAssignment-unique ts r s d e (in_site p) (in_site q) = FailsInSite-unique arch threads names c ts r s d e p q
  FailsInAssignment-unique ts r s d e (in_site p) (in_value site is there room q) =
      absurd (not-FailsInSite-if_parsed arch threads names c ts r _ d site p is there room)
  FailsInAssignment-unique ts r s d e (in_value site is there room p) (in_site q) =
      absurd (not-FailsInSite-if_parsed arch threads names c ts s _ e site q is there room)
  FailsInAssignment-unique ts r s d e (in_value site {mid = mid} is there room p) (in_value another {mid = other} also too has q) =
      let same = (IsSite-unique arch ts site another mid other is also).1 in
      FailsInValue-unique c mid r s d e p (subst (λ l. FailsInValue c l s e) (sym same) q)

  -- Tokens that begin with a site, which is allowed and has room, and with its word do not satisfy `FailsInAssignment`.
  pub not-FailsInAssignment-if_parsed : (ts rest mid after : TokenList) (cause : TextCause) (site : SiteSyntax) (n : ℕ)
      → FailsInAssignment arch threads names c ts rest cause
      → IsSite arch ts site mid
      → ThreadAllowed threads site
      → HasRoomFor names (site ∷ [])
      → Value mid n after
      → ⊥
  not-FailsInAssignment-if_parsed ts rest mid after cause site n (in_site p) is there room value =
      not-FailsInSite-if_parsed arch threads names c ts rest mid cause site p is there room
  not-FailsInAssignment-if_parsed ts rest mid after cause site n (in_value another {mid = other} also too has p) is there room value =
      let same = (IsSite-unique arch ts another site other mid also is).1 in
      not-FailsInValue-if_parsed c mid rest after cause n (subst (λ l. FailsInValue c l rest cause) same p) value
