-- A text fails at one byte only, and for one cause; and a text with a frame does not fail. Two laws of
-- read.rt: the fault that `read_frame` returns is a function of the text.
use Rattle.lw_text.proofs.Common.{◌≡◌, ℕ, ◌+◌, inl, inr, List, [], ◌∷◌, ◌++◌, length, refl, sym, ap, ◌∙◌}
use Rattle.lw_text.proofs.Common.{subst, arith, length-append, length-map, Arch, Bytes, TokenList}
use Rattle.lw_text.proofs.Common.{PlacedToken, PlacedTokens, ParsesMany, ParsesNothing, IsFirstToken, Tokens}
use Rattle.lw_text.proofs.Common.{Trivia, Preamble, HasFrame, TestFrame, texts_of_tokens, append_cancel_left}
use Rattle.lw_text.proofs.Common.{FailsInTest, IsPlacedToken, FailsInFirstToken, HasTokens, FailsInBody}
use Rattle.lw_text.proofs.Common.{at_token, in_next_token, at_end, FailsAt, in_preamble, in_body, TextCause}
use Rattle.lw_text.proofs.ByteFailures.{FailsInFirstToken-unique, not-FailsInFirstToken-if_parsed}
use Rattle.lw_text.proofs.ByteFailures.{not-FailsInFirstToken-if_only_trivia, FailsInPreamble-unique}
use Rattle.lw_text.proofs.ByteFailures.{not-FailsInPreamble-if_parsed}
use Rattle.lw_text.proofs.Preambles.{Preamble-unique}
use Rattle.lw_text.proofs.StreamFailures.{ParsesMany-PlacedTokens}
use Rattle.lw_text.proofs.TokenRows.{IsFirstToken-unique, no_first_token-if_only_trivia, placed_tokens_equal}
use Rattle.lw_text.proofs.WholeFailures.{FailsInTest-unique, not-FailsInTest-if_parsed}

-- A text's tokens, up to where none follows, and their end are unique.
HasTokens-unique : (len : ℕ) (text end stop : Bytes) (ts us : List PlacedToken)
    → HasTokens len text ts end
    → HasTokens len text us stop
    → (ts ≡ us) × (end ≡ stop)
HasTokens-unique len text end stop [] [] p q = (refl, sym p.0 ∙ q.0)
HasTokens-unique len text end stop [] (u ∷ us) p q =
    absurd (p.1 u.text q.0.0 (subst (λ x. IsFirstToken x u.text q.0.0) p.0 q.0.1.0))
HasTokens-unique len text end stop (t ∷ ts) [] p q =
    absurd (q.1 t.text p.0.0 (subst (λ x. IsFirstToken x t.text p.0.0) q.0 p.0.1.0))
HasTokens-unique len text end stop (t ∷ ts) (u ∷ us) p q =
    let e = IsFirstToken-unique text t.text p.0.0 u.text q.0.0 p.0.1.0 q.0.1.0 in
    let same : t ≡ u = placed_tokens_equal t u (omega (arith, p.0.1.1, q.0.1.1, ap length e.0, ap length e.1)) e.0 in
    let more =
    HasTokens-unique len p.0.0 end stop ts us (p.0.2, p.1)
    (subst (λ x. ParsesMany (IsPlacedToken len) x us stop) (sym e.1) q.0.2, q.1) in
    (ap (λ x. x ∷ ts) same ∙ ap (λ xs. u ∷ xs) more.0, more.1)

-- Equal lists with ends of the same length have equal ends.
append-equal_ends : {X : Type 0} (a b c d : List X) → a ++ c ≡ b ++ d → length c ≡ length d → c ≡ d
append-equal_ends [] [] c d e n = e
append-equal_ends [] (y ∷ b) c d e n = absurd (omega (arith, ap length e, n, length-append b d))
append-equal_ends (x ∷ a) [] c d e n = absurd (omega (arith, ap length e, n, length-append a c))
append-equal_ends (x ∷ a) (y ∷ b) c d e n = append-equal_ends a b c d (cc e) n

-- Tokens do not fail both at one of them and at their end.
not-FailsInTest-at_token_and_end : (arch : Arch) (ts : TokenList) (t : Bytes) (rest : TokenList) (c d : TextCause)
    → FailsInTest arch ts (t ∷ rest) c
    → FailsInTest arch ts [] d
    → ⊥
not-FailsInTest-at_token_and_end arch ts t rest c d p q =
    let same = (FailsInTest-unique arch ts (t ∷ rest) [] c d p q).0 in omega (arith, ap length same)

-- If a whole text has these tokens, they are its tokens up to an end, after which there is only trivia.
HasTokens-PlacedTokens : (len : ℕ) (text : Bytes) (tokens : List PlacedToken)
    → PlacedTokens len text tokens
    → (end : Bytes) × HasTokens len text tokens end × Trivia end []
HasTokens-PlacedTokens len text tokens p =
    let read = ParsesMany-PlacedTokens len text tokens p in
    (read.0, (read.1, λ t rest is. no_first_token-if_only_trivia read.0 t rest read.2 is), read.2)

-- If tokens have been read from a text, and the next token fails, they are the text's tokens up to where none follows.
HasTokens-if_next_fails : (len : ℕ) (text end rest : Bytes) (tokens : List PlacedToken) (c : TextCause)
    → ParsesMany (IsPlacedToken len) text tokens end
    → FailsInFirstToken end rest c
    → HasTokens len text tokens end
HasTokens-if_next_fails len text end rest tokens c read fails =
    (read, λ t after is. not-FailsInFirstToken-if_parsed end rest t after c fails is)

module _ (arch : Arch) (len : ℕ) (text : Bytes) where
  -- A body fails at one byte, for one cause.
  FailsInBody-unique : (m n : ℕ) (c d : TextCause)
      → FailsInBody arch len text m c
      → FailsInBody arch len text n d
      → (m ≡ n) × (c ≡ d)
  FailsInBody-unique m n c d (at_token tokens later token before end read parts at fails) (at_token others after other front stop also too place way) =
      let same = (HasTokens-unique len text end stop tokens others read also).0 in
      let u =
      FailsInTest-unique arch (texts_of_tokens tokens) (texts_of_tokens (token ∷ later)) (texts_of_tokens (other ∷ after)) c d
      fails (subst (λ ts. FailsInTest arch (texts_of_tokens ts) (texts_of_tokens (other ∷ after)) d) (sym same) way) in
      let ends = append-equal_ends before front (token ∷ later) (other ∷ after) (sym parts ∙ same ∙ too) (omega (
        arith,
        ap length u.0,
        length-map (token ∷ later) (λ (t : PlacedToken). t.text),
        length-map (other ∷ after) (λ (t : PlacedToken). t.text),
      )) in
      (at ∙ ap first_offset ends ∙ sym place, u.1 (λ e. omega (arith, ap length e)))
    where
      -- The offset of the first token; 0 if there is none.
      first_offset : List PlacedToken → ℕ
      first_offset [] = 0
      first_offset (t ∷ ts) = t.at
  FailsInBody-unique m n c d (at_token tokens later token before end read parts at fails) (in_next_token others stop rest e many next place (inl way)) =
      let same =
      (HasTokens-unique len text end stop tokens others read (HasTokens-if_next_fails len text stop rest others d many next)).0 in
      absurd (not-FailsInTest-at_token_and_end arch (texts_of_tokens tokens) token.text (texts_of_tokens later) c e fails
      (subst (λ ts. FailsInTest arch (texts_of_tokens ts) [] e) (sym same) way))
  FailsInBody-unique m n c d (at_token tokens later token before end read parts at fails) (in_next_token others stop rest e many next place (inr (s, p, is, whole))) =
      let same =
      (HasTokens-unique len text end stop tokens others read (HasTokens-if_next_fails len text stop rest others d many next)).0 in
      absurd (not-FailsInTest-if_parsed arch (texts_of_tokens others) (texts_of_tokens (token ∷ later)) c
      (subst (λ ts. FailsInTest arch (texts_of_tokens ts) (texts_of_tokens (token ∷ later)) c) same fails) s p is whole)
  FailsInBody-unique m n c d (at_token tokens later token before end read parts at fails) (at_end others e whole way place because) =
      let all = HasTokens-PlacedTokens len text others whole in
      let same = (HasTokens-unique len text end all.0 tokens others read all.1).0 in
      absurd (not-FailsInTest-at_token_and_end arch (texts_of_tokens tokens) token.text (texts_of_tokens later) c e fails
      (subst (λ ts. FailsInTest arch (texts_of_tokens ts) [] e) (sym same) way))
  FailsInBody-unique m n c d (in_next_token others stop rest e many next place (inl way)) (at_token tokens later token before end read parts at fails) =
      let same =
      (HasTokens-unique len text end stop tokens others read (HasTokens-if_next_fails len text stop rest others c many next)).0 in
      absurd (not-FailsInTest-at_token_and_end arch (texts_of_tokens tokens) token.text (texts_of_tokens later) d e fails
      (subst (λ ts. FailsInTest arch (texts_of_tokens ts) [] e) (sym same) way))
  FailsInBody-unique m n c d (in_next_token others stop rest e many next place (inr (s, p, is, whole))) (at_token tokens later token before end read parts at fails) =
      let same =
      (HasTokens-unique len text end stop tokens others read (HasTokens-if_next_fails len text stop rest others c many next)).0 in
      absurd (not-FailsInTest-if_parsed arch (texts_of_tokens others) (texts_of_tokens (token ∷ later)) d
      (subst (λ ts. FailsInTest arch (texts_of_tokens ts) (texts_of_tokens (token ∷ later)) d) same fails) s p is whole)
  FailsInBody-unique m n c d (in_next_token tokens end rest e many next place way) (in_next_token others stop left f read also at too) =
      let same =
      (HasTokens-unique len text end stop tokens others (HasTokens-if_next_fails len text end rest tokens c many next)
      (HasTokens-if_next_fails len text stop left others d read also)).1 in
      let u = FailsInFirstToken-unique end rest left c d next (subst (λ x. FailsInFirstToken x left d) (sym same) also) in
      (omega (arith, place, at, ap length u.0), u.1)
  FailsInBody-unique m n c d (in_next_token tokens end rest e many next place way) (at_end others f whole fails at because) =
      let all = HasTokens-PlacedTokens len text others whole in
      let same =
      (HasTokens-unique len text end all.0 tokens others (HasTokens-if_next_fails len text end rest tokens c many next)
      all.1).1 in
      absurd (not-FailsInFirstToken-if_only_trivia end rest c next (subst (λ x. Trivia x []) (sym same) all.2))
  FailsInBody-unique m n c d (at_end others e whole way place because) (at_token tokens later token before end read parts at fails) =
      let all = HasTokens-PlacedTokens len text others whole in
      let same = (HasTokens-unique len text end all.0 tokens others read all.1).0 in
      absurd (not-FailsInTest-at_token_and_end arch (texts_of_tokens tokens) token.text (texts_of_tokens later) d e fails
      (subst (λ ts. FailsInTest arch (texts_of_tokens ts) [] e) (sym same) way))
  FailsInBody-unique m n c d (at_end others f whole fails at because) (in_next_token tokens end rest e many next place way) =
      let all = HasTokens-PlacedTokens len text others whole in
      let same =
      (HasTokens-unique len text end all.0 tokens others (HasTokens-if_next_fails len text end rest tokens d many next)
      all.1).1 in
      absurd (not-FailsInFirstToken-if_only_trivia end rest d next (subst (λ x. Trivia x []) (sym same) all.2))
  FailsInBody-unique m n c d (at_end tokens e whole way place because) (at_end others f also too at cause) =
      (place ∙ sym at, because ∙ sym cause)

-- A text fails at one byte, for one cause.
pub FailsAt-unique : (text : Bytes) (m n : ℕ) (c d : TextCause) → FailsAt text m c → FailsAt text n d → (m ≡ n) × (c ≡ d)
FailsAt-unique text m n c d (in_preamble rest fails place) (in_preamble left way at) =
    let u = FailsInPreamble-unique text rest left c d fails way in (omega (arith, place, at, ap length u.0), u.1)
FailsAt-unique text m n c d (in_preamble rest fails place) (in_body arch name left is way) =
    absurd (not-FailsInPreamble-if_parsed text rest left name arch c fails is)
FailsAt-unique text m n c d (in_body arch name left is way) (in_preamble rest fails place) =
    absurd (not-FailsInPreamble-if_parsed text rest left name arch d fails is)
FailsAt-unique text m n c d (in_body arch name rest is fails) (in_body language word left also way) =
    let u = Preamble-unique text arch name rest language word left is also in
    FailsInBody-unique arch (length text) rest m n c d fails
    (subst (λ a. FailsInBody a (length text) rest n d) (sym u.0)
    (subst (λ x. FailsInBody language (length text) x n d) (sym u.2) way))

-- The tokens of a text, with and without their places, are the same.
texts_of_tokens-HasTokens : (len : ℕ) (text end : Bytes) (ts : List PlacedToken) (us : TokenList)
    → HasTokens len text ts end
    → Tokens text us
    → (texts_of_tokens ts ≡ us) × Trivia end []
texts_of_tokens-HasTokens len text end [] [] p q = (refl, subst (λ x. Trivia x []) p.0 q)
texts_of_tokens-HasTokens len text end [] (u ∷ us) p q = absurd (p.1 u q.0 (subst (λ x. IsFirstToken x u q.0) p.0 q.1))
texts_of_tokens-HasTokens len text end (t ∷ ts) [] p q = absurd (no_first_token-if_only_trivia text t.text p.0.0 q p.0.1.0)
texts_of_tokens-HasTokens len text end (t ∷ ts) (u ∷ us) p q =
    let e = IsFirstToken-unique text t.text p.0.0 u q.0 p.0.1.0 q.1 in
    let more = texts_of_tokens-HasTokens len p.0.0 end ts us (p.0.2, p.1) (subst (λ x. Tokens x us) (sym e.1) q.2) in
    (ap (λ x. x ∷ texts_of_tokens ts) e.0 ∙ ap (λ xs. u ∷ xs) more.0, more.1)

-- A text with a frame does not fail.
pub not-FailsAt-if_frame : (text : Bytes) (m : ℕ) (c : TextCause) (frame : TestFrame) → FailsAt text m c → HasFrame text frame → ⊥
not-FailsAt-if_frame text m c frame (in_preamble rest fails place) has =
    not-FailsInPreamble-if_parsed text rest has.rest has.name has.arch c fails has.preamble
not-FailsAt-if_frame text m c frame (in_body arch name rest is fails) has =
    let u = Preamble-unique text arch name rest has.arch has.name has.rest is has.preamble in
    not-FailsInBody-if_whole (subst (λ a. FailsInBody a (length text) has.rest m c) u.0
    (subst (λ x. FailsInBody arch (length text) x m c) u.2 fails))
  where
    -- The body of a text with a frame does not fail.
    not-FailsInBody-if_whole : FailsInBody has.arch (length text) has.rest m c → ⊥
    not-FailsInBody-if_whole (at_token tokens later token before end read parts place way) =
        let same = (texts_of_tokens-HasTokens (length text) has.rest end tokens has.tokens read has.stream).0 in
        not-FailsInTest-if_parsed has.arch has.tokens (texts_of_tokens (token ∷ later)) c
        (subst (λ ts. FailsInTest has.arch ts (texts_of_tokens (token ∷ later)) c) same way) has.syntax has.proposition has.parts
        has.is_proposition
    not-FailsInBody-if_whole (in_next_token tokens end rest d many next place way) =
        not-FailsInFirstToken-if_only_trivia end rest c next
        (texts_of_tokens-HasTokens (length text) has.rest end tokens has.tokens
        (HasTokens-if_next_fails (length text) has.rest end rest tokens c many next) has.stream).1
    not-FailsInBody-if_whole (at_end tokens d whole way place because) =
        let all = HasTokens-PlacedTokens (length text) has.rest tokens whole in
        let same = (texts_of_tokens-HasTokens (length text) has.rest all.0 tokens has.tokens all.1 has.stream).0 in
        not-FailsInTest-if_parsed has.arch has.tokens [] d (subst (λ ts. FailsInTest has.arch ts [] d) same way) has.syntax
        has.proposition has.parts has.is_proposition
