-- The parse of a proposition's terminals is unique. A step of the proof that a text has one frame.
use Rattle.lw_text.proofs.Common.{◌≡◌, ℕ, ◌<◌, inl, inr, true, false, List, [], ◌∷◌, ◌++◌, length, refl, sym}
use Rattle.lw_text.proofs.Common.{ap, ◌∙◌, subst, arith, codes, if◌then◌else◌, ◌⊎◌, Option, Some, None}
use Rattle.lw_text.proofs.Common.{bytes_eq, append-nil, ParsesNothing, Bytes, TokenList, Arch, ParsesMany}
use Rattle.lw_text.proofs.Common.{SiteSyntax, IsSite, Value, Terminal, Open, Close, Negation, Conjunction}
use Rattle.lw_text.proofs.Common.{Disjunction, Atom, AtomSyntax, Always, Never, Holds, IsTerminal, Terminals}
use Rattle.lw_text.proofs.Common.{begins_token, begins_part}
use Rattle.lw_text.proofs.SitesAndValues.{IsSite-unique, IsSite-shorter, Value-unique, Value-shorter}
use Rattle.lw_text.proofs.SitesAndValues.{starts_no_site, no_site}
use Rattle.lw_text.proofs.Lists.{ParsesMany-peel, IsDeterministic}
use Rattle.lw_text.proofs.Texts.{not-token_is_next}

-- ---- uniqueness

-- The terminal that a single token is: a parenthesis, a connective, `true` or `false`.
abbrev terminal_word : Bytes → Option (Terminal AtomSyntax)
terminal_word w =
    if bytes_eq w (codes "(")
    then Some Open
    else if bytes_eq w (codes ")")
    then Some Close
    else if bytes_eq w (codes "~")
    then Some Negation
    else if bytes_eq w (codes "not")
    then Some Negation
    else if bytes_eq w (codes "/\\")
    then Some Conjunction
    else if bytes_eq w (codes "\\/")
    then Some Disjunction
    else if bytes_eq w (codes "true") then Some (Atom Always) else if bytes_eq w (codes "false") then Some (Atom Never) else None

-- The tokens start with a terminal that is a single token and starts no site.
record ParsesSingleToken (ts : TokenList) (s : Terminal AtomSyntax) (rest : TokenList) : Type 0 where
  pub word : Bytes
  pub tokens_are : ts ≡ word ∷ rest
  pub terminal_is : terminal_word word ≡ Some s
  pub no_site-at_word : starts_no_site word ≡ true

-- The tokens start with an atom: a site, and its value after it.
record ParsesAtom (arch : Arch) (threads : ℕ) (ts : TokenList) (s : Terminal AtomSyntax) (rest : TokenList) : Type 0 where
  pub site : SiteSyntax
  pub n : ℕ
  pub mid : TokenList
  pub terminal_is : s ≡ Atom (Holds site n)
  pub site_is : IsSite arch ts site mid
  pub value : Value mid n rest

-- A terminal is a single token, or an atom about a site.
terminal_front : (arch : Arch) (threads : ℕ) (ts rest : TokenList) (s : Terminal AtomSyntax)
    → IsTerminal arch threads ts s rest
    → ParsesSingleToken ts s rest ⊎ ParsesAtom arch threads ts s rest
terminal_front arch threads ts rest Open e =
    inl (record { word = codes "("; tokens_are = e; terminal_is = refl; no_site-at_word = refl })
terminal_front arch threads ts rest Close e =
    inl (record { word = codes ")"; tokens_are = e; terminal_is = refl; no_site-at_word = refl })
terminal_front arch threads ts rest Negation (inl e) =
    inl (record { word = codes "~"; tokens_are = e; terminal_is = refl; no_site-at_word = refl })
terminal_front arch threads ts rest Negation (inr e) =
    inl (record { word = codes "not"; tokens_are = e; terminal_is = refl; no_site-at_word = refl })
terminal_front arch threads ts rest Conjunction e =
    inl (record { word = codes "/\\"; tokens_are = e; terminal_is = refl; no_site-at_word = refl })
terminal_front arch threads ts rest Disjunction e =
    inl (record { word = codes "\\/"; tokens_are = e; terminal_is = refl; no_site-at_word = refl })
terminal_front arch threads ts rest (Atom Always) e =
    inl (record { word = codes "true"; tokens_are = e; terminal_is = refl; no_site-at_word = refl })
terminal_front arch threads ts rest (Atom Never) e =
    inl (record { word = codes "false"; tokens_are = e; terminal_is = refl; no_site-at_word = refl })
terminal_front arch threads ts rest (Atom (Holds site n)) p =
    inr (record { site = site; n = n; mid = p.0; terminal_is = refl; site_is = p.1; value = p.3 })

-- If no value follows a site, there is no terminal.
pub no_terminal-if_site_has_no_value : (arch : Arch) (threads : ℕ) (ts mid : TokenList) (site : SiteSyntax)
    → IsSite arch ts site mid
    → ParsesNothing (Value mid)
    → ParsesNothing (IsTerminal arch threads ts)
no_terminal-if_site_has_no_value arch threads ts mid site p never s rest is = elim (terminal_front arch threads ts rest s is) [
  | inl w ↦ no_site w.word w.no_site-at_word arch ts rest mid site w.tokens_are p
  | inr w ↦ never w.n rest (subst (λ l. Value l w.n rest) (IsSite-unique arch ts w.site site w.mid mid w.site_is p).1 w.value)
]

-- The parse of a terminal is unique.
pub IsTerminal-unique : (arch : Arch) (threads : ℕ) → IsDeterministic (IsTerminal arch threads)
IsTerminal-unique arch threads ts a b r s p q = elim (terminal_front arch threads ts r a p) [
  | inl v ↦ elim (terminal_front arch threads ts s b q) [
    | inl w ↦
        let e = v.tokens_are in
        let f = w.tokens_are in
        let k : v.word ≡ w.word = cc in
        (cc, cc)
    | inr w ↦ absurd (no_site v.word v.no_site-at_word arch ts r w.mid w.site v.tokens_are w.site_is)
  ]
  | inr v ↦ elim (terminal_front arch threads ts s b q) [
    | inl w ↦ absurd (no_site w.word w.no_site-at_word arch ts s v.mid v.site w.tokens_are v.site_is)
    | inr w ↦
        let e = IsSite-unique arch ts v.site w.site v.mid w.mid v.site_is w.site_is in
        let f = Value-unique v.mid r s v.n w.n v.value (subst (λ l. Value l w.n s) (sym e.1) w.value) in
        let i : v.site ≡ w.site = e.0 in
        let j : v.n ≡ w.n = f.0 in
        (v.terminal_is ∙ ap (λ x. Atom (Holds x v.n)) i ∙ ap (λ (x : ℕ). Atom (Holds w.site x)) j ∙ sym w.terminal_is, f.1)
  ]
]

-- A terminal takes at least one token.
pub IsTerminal-shorter : (arch : Arch) (threads : ℕ) (ts rest : TokenList) (s : Terminal AtomSyntax)
    → IsTerminal arch threads ts s rest
    → length rest < length ts
IsTerminal-shorter arch threads ts rest s p = elim (terminal_front arch threads ts rest s p) [
  | inl w ↦ omega (arith, ap length w.tokens_are)
  | inr w ↦ omega (arith, IsSite-shorter arch ts w.mid w.site w.site_is, Value-shorter w.mid rest w.n w.value)
]

-- ---- sequences of terminals

-- The empty list of tokens has no terminals.
Terminals-nil_inv : (arch : Arch) (threads : ℕ) (more : List (Terminal AtomSyntax)) → Terminals arch threads [] more → more ≡ []
Terminals-nil_inv arch threads [] p = refl
Terminals-nil_inv arch threads (s ∷ ss) p = absurd (omega (arith, IsTerminal-shorter arch threads [] p.0 s p.1))

-- If tokens are all terminals, and begin with s, the terminals are s, followed by those of the tokens after it.
Terminals-tail : (arch : Arch) (threads : ℕ) (ts mid : TokenList) (s : Terminal AtomSyntax) (all : List (Terminal AtomSyntax))
    → IsTerminal arch threads ts s mid
    → Terminals arch threads ts all
    → (more : List (Terminal AtomSyntax)) × (all ≡ s ∷ more) × Terminals arch threads mid more
Terminals-tail arch threads ts mid s [] p e = absurd (omega (arith, IsTerminal-shorter arch threads ts mid s p, ap length e))
Terminals-tail arch threads ts mid s (t ∷ all) p q =
    let e = IsTerminal-unique arch threads ts s t mid q.0 p q.1 in
    let k : s ≡ t = e.0 in
    (all, cc, subst (λ l. Terminals arch threads l all) (sym e.1) q.2)

-- If terminals have been read, all terminals are these, followed by those of the tokens that remain.
pub Terminals-peel : (arch : Arch) (threads : ℕ) (ss all : List (Terminal AtomSyntax)) (ts here : TokenList)
    → ParsesMany (IsTerminal arch threads) ts ss here
    → Terminals arch threads ts all
    → (more : List (Terminal AtomSyntax)) × (all ≡ ss ++ more) × Terminals arch threads here more
Terminals-peel arch threads = ParsesMany-peel {W = Terminals arch threads} (Terminals-tail arch threads)

-- The parse of a proposition's terminals is unique.
pub Terminals-unique : (arch : Arch) (threads : ℕ) (a b : List (Terminal AtomSyntax)) (ts : TokenList)
    → Terminals arch threads ts a
    → Terminals arch threads ts b
    → a ≡ b
Terminals-unique arch threads a b ts p q =
    let k = Terminals-peel arch threads a b ts [] p q in
    sym (k.1 ∙ ap (λ l. a ++ l) (Terminals-nil_inv arch threads k.0 k.2) ∙ append-nil a)

-- If the next token begins no other part, a terminal that begins a part is the atom of a site.
pub terminal_is_claim : (arch : Arch) (threads : ℕ) (ts : TokenList)
    → begins_token (codes "(") ts ≡ false
    → begins_token (codes "~") ts ≡ false
    → begins_token (codes "not") ts ≡ false
    → begins_token (codes "true") ts ≡ false
    → begins_token (codes "false") ts ≡ false
    → (s : Terminal AtomSyntax) (rest : TokenList)
    → IsTerminal arch threads ts s rest
    → begins_part s ≡ true
    → (site : SiteSyntax) × (n : ℕ) × (s ≡ Atom (Holds site n))
terminal_is_claim arch threads ts a b c d e Open rest p begins = absurd (not-token_is_next (codes "(") ts rest a p)
terminal_is_claim arch threads ts a b c d e Negation rest (inl p) begins = absurd (not-token_is_next _ ts rest b p)
terminal_is_claim arch threads ts a b c d e Negation rest (inr p) begins = absurd (not-token_is_next _ ts rest c p)
terminal_is_claim arch threads ts a b c d e (Atom Always) rest p begins = absurd (not-token_is_next _ ts rest d p)
terminal_is_claim arch threads ts a b c d e (Atom Never) rest p begins = absurd (not-token_is_next _ ts rest e p)
terminal_is_claim arch threads ts a b c d e (Atom (Holds site n)) rest p begins = (site, n, refl)
terminal_is_claim arch threads ts a b c d e _ rest p begins = absurd cc
