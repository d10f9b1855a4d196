-- Writing conditions: propositions, their parts, and the connectives and parentheses between these. Lemmas
-- for `condition.rt`, whose functions call each other.
use Rattle.lw_base.proofs.Common.{◌≡◌, Bool, true, ◌++◌, append_assoc, sym, ap, ◌∙◌, subst, Result, OnOk}
use Rattle.lw_base.proofs.Common.{codes, Bytes, NameTable, Arch, Prop, Formula, formula_of, proposition_text}
use Rattle.lw_base.proofs.Common.{parenthesized_if}
use Rattle.lw_base.proofs.api.Writing.{written-two_parts, written-append}

-- Concatenating `(`, a text and `)`, if parentheses are needed, gives the text in parentheses.
pub parenthesized_if-true : {T E : Type 0} (answer : Result T E) (start one two end text : Bytes) (needed : Bool)
    → needed ≡ true
    → one ≡ start ++ codes "("
    → two ≡ one ++ text
    → OnOk answer (end ≡ two ++ codes ")")
    → OnOk answer (end ≡ start ++ parenthesized_if needed text)
parenthesized_if-true answer start one two end text needed is opened told closed =
    subst (λ b. OnOk answer (end ≡ start ++ parenthesized_if b text)) (sym is)
    (written-two_parts _ start end _ _ (written-append start one two _ text opened told)
    (append_assoc (codes "(") text (codes ")")) closed)

-- If a text was written, followed by a connective and another text, then the two were written with the connective between them; left and
-- right are other names of these texts.
pub joined_text-written : {T E : Type 0} {mid first second left right : Bytes} (answer : Result T E) (start end mark : Bytes)
    → first ≡ left
    → second ≡ right
    → mid ≡ start ++ first
    → OnOk answer (end ≡ mid ++ (mark ++ second))
    → OnOk answer (end ≡ start ++ (left ++ (mark ++ right)))
joined_text-written {first} {second} {left} answer start end mark p q before written =
    written-two_parts answer start end first (mark ++ second) before
    (ap (λ t. t ++ (mark ++ second)) p ∙ ap (λ t. left ++ (mark ++ t)) q) written

module _ {A : Type 0} (arch : Arch) (names : NameTable) where
  -- The text of a proposition in memory.
  abbrev pub text_of : Prop A → Bytes
  text_of p = proposition_text arch names (formula_of p)

  -- If the text of q was written, and p is q, then the text of p was written.
  pub text_written-same_prop : {T E : Type 0} (answer : Result T E) (start end : Bytes) (p q : Prop A)
      → p ≡ q
      → OnOk answer (end ≡ start ++ text_of q)
      → OnOk answer (end ≡ start ++ text_of p)
  text_written-same_prop answer start end p q is written = rw (← is) at written

  -- If d and e are both the part v of a proposition, and `needed` says whether e needs parentheses, then d's text, in
  -- parentheses if they are needed, is v's text, in parentheses if v needs them.
  pub parenthesized_if-same_part : (joins : Formula → Bool) (needed : Bool) (d e v : Prop A)
      → d ≡ v
      → e ≡ v
      → needed ≡ joins (formula_of e)
      → parenthesized_if needed (text_of d) ≡ parenthesized_if (joins (formula_of v)) (text_of v)
  parenthesized_if-same_part joins needed d e v dv ev is =
      ap (λ b. parenthesized_if b (text_of d)) (is ∙ ap (λ r. joins (formula_of r)) ev)
      ∙ ap (λ r. parenthesized_if (joins (formula_of v)) (text_of r)) dv
