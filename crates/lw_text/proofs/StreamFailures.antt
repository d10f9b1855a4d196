-- The tokens of a text fail to be a test's body where the parser refuses one, or where the lexer stops.
-- `body` and `read_text` go by it from a refused token to the byte at which the text fails.
use Rattle.lw_text.proofs.Common.{◌≡◌, ◌≢◌, ◌⊎◌, ℕ, ◌≤◌, Option, Some, None, IfSome, IfNone, MatchOption}
use Rattle.lw_text.proofs.Common.{List, [], ◌∷◌, ◌++◌, map, refl, sym, ap, inl, ◌+◌, subst, ◌∙◌, map-append}
use Rattle.lw_text.proofs.Common.{All, AllByRecursion, Arch, Bytes, Formula, HoldsOfNothing, Tokens, length}
use Rattle.lw_text.proofs.Common.{Token, Fault, Refusal, IsSuffix, PlacedToken, PlacedTokens, ParsesMany}
use Rattle.lw_text.proofs.Common.{ParsesTest, TestSyntax, IsProposition, resolved, location_table, Trivia}
use Rattle.lw_text.proofs.Common.{token_texts, texts_of_tokens, with_span, with_spans, Memory, Unterminated}
use Rattle.lw_text.proofs.Common.{recursion_from_All, FailsInTest, IsPlacedToken, FailsInBody}
use Rattle.lw_text.proofs.Common.{FailsInFirstToken, HasTokens, at_token, in_next_token, at_end, BeginsAt}
use Rattle.lw_text.proofs.Common.{TextCause, StopsAt, StreamFails, at_stream_token, at_stream_end}
use Rattle.lw_text.proofs.Common.{at_stream_fault}
use Rattle.lw_text.proofs.api.Places.{texts_placed}
use Rattle.lw_text.proofs.ByteFailures.{not-FailsInFirstToken-if_parsed}
use Rattle.lw_text.proofs.TokenRows.{no_first_token-if_only_trivia}

-- What holds of all items holds of one after others.
holds_after : {X : Type 0} (P : X → Type 0) (front : List X) (x : X) (more : List X) → AllByRecursion P (front ++ x ∷ more) → P x
holds_after P [] x more all = all.0
holds_after P (y ∷ front) x more all = holds_after P front x more all.1

-- The place of a suffix of the tokens is within the length, if that of each token is.
pub place_within : (len : ℕ) (tokens rest : List Token) (at : Option ℕ)
    → All (λ t. t.at ≤ len) tokens
    → IsSuffix tokens rest
    → BeginsAt rest at
    → IfSome at (λ at. at ≤ len)
place_within len tokens [] at all suffix place = rw place tt
place_within len tokens (t ∷ rest) at all suffix place =
    rw place
    (holds_after (λ (t : Token). t.at ≤ len) suffix.0 t rest
    (subst (AllByRecursion (λ (t : Token). t.at ≤ len)) suffix.1 (recursion_from_All (λ (t : Token). t.at ≤ len) tokens all)))

-- If the parser refuses a suffix of the tokens, the stream fails at its first token, or where the tokens end.
pub StreamFails-of_refusal : {arch : Arch} {len : ℕ} (tokens : List Token) (fault : Option Fault) (refusal : Refusal) (f : Fault)
    (rest : List Token)
    → IsSuffix tokens rest
    → BeginsAt rest refusal.at
    → FailsInTest arch (token_texts tokens) (token_texts rest) refusal.cause
    → IfSome refusal.at (λ at. (f.at ≡ at) × (f.cause ≡ refusal.cause))
    → IfNone refusal.at (MatchOption fault ((f.at ≡ len) × (f.cause ≡ Unterminated)) (λ g. (f.at ≡ g.at) × (f.cause ≡ g.cause)))
    → StreamFails arch len (with_spans tokens) fault f.at f.cause
StreamFails-of_refusal {arch} {len} tokens fault refusal f [] suffix place way some none = go fault (rw place at none)
  where
    -- The tokens fail to be a test at their end, for the cause of the refusal.
    FailsInTest-at_refusal : FailsInTest arch (texts_of_tokens (with_spans tokens)) [] refusal.cause
    FailsInTest-at_refusal = subst (λ ts. FailsInTest arch ts [] refusal.cause) (sym (texts_placed tokens)) way

    -- By whether a lexical fault ends them.
    go : (fault : Option Fault)
        → MatchOption fault ((f.at ≡ len) × (f.cause ≡ Unterminated)) (λ g. (f.at ≡ g.at) × (f.cause ≡ g.cause))
        → StreamFails arch len (with_spans tokens) fault f.at f.cause
    go None h = at_stream_end refusal.cause refl FailsInTest-at_refusal h.0 h.1
    go (Some g) h = at_stream_fault g refusal.cause refl h.0 h.1 (inl FailsInTest-at_refusal)
StreamFails-of_refusal {arch} {len} tokens fault refusal f (t ∷ rest) suffix place way some none =
    let is = rw place at some in
    at_stream_token (with_spans suffix.0) (with_spans rest) (with_span t)
    (ap with_spans suffix.1 ∙ map-append with_span suffix.0 (t ∷ rest)) is.0
    (subst (λ cause. FailsInTest arch (texts_of_tokens (with_spans tokens)) (texts_of_tokens (with_spans (t ∷ rest))) cause)
    (sym is.1)
    (subst (λ ts. FailsInTest arch ts (texts_of_tokens (with_spans (t ∷ rest))) refusal.cause) (sym (texts_placed tokens))
    (subst (λ ts. FailsInTest arch (token_texts tokens) ts refusal.cause) (sym (texts_placed (t ∷ rest))) way)))

-- The tokens of a whole text are tokens of it up to an end, after which there is only trivia.
pub ParsesMany-PlacedTokens : (len : ℕ) (text : Bytes) (tokens : List PlacedToken)
    → PlacedTokens len text tokens
    → (end : Bytes) × ParsesMany (IsPlacedToken len) text tokens end × Trivia end []
ParsesMany-PlacedTokens len text [] p = (text, refl, p)
ParsesMany-PlacedTokens len text (t ∷ tokens) p =
    let more = ParsesMany-PlacedTokens len p.0 tokens p.3 in (more.0, (p.0, (p.1, p.2), more.1), more.2)

-- If the stream of a text's tokens fails, its body does.
pub FailsInBody-StreamFails : {arch : Arch} {len : ℕ} {text : Bytes} {tokens : List PlacedToken} {fault : Option Fault} {at : ℕ}
    {cause : TextCause}
    → MatchOption fault (PlacedTokens len text tokens)
    (λ g. HoldsOfNothing (Tokens text) × (g.at ≤ len) × StopsAt len text tokens g.at g.cause)
    → StreamFails arch len tokens fault at cause
    → FailsInBody arch len text at cause
FailsInBody-StreamFails {arch} {len} {text} {tokens} {fault} {at} {cause} stream (at_stream_token before after token parts place way) =
    let read = HasTokens-by_fault fault stream in at_token tokens after token before read.0 read.1 parts place way
  where
    -- Whether or not a fault ends the stream, its tokens are those of the text, up to some end.
    HasTokens-by_fault : (o : Option Fault)
        → MatchOption o (PlacedTokens len text tokens)
        (λ g. HoldsOfNothing (Tokens text) × (g.at ≤ len) × StopsAt len text tokens g.at g.cause)
        → (end : Bytes) × HasTokens len text tokens end
    HasTokens-by_fault None p =
        let read = ParsesMany-PlacedTokens len text tokens p in
        (read.0, (read.1, λ t rest is. no_first_token-if_only_trivia read.0 t rest read.2 is))
    HasTokens-by_fault (Some g) p =
        (p.2.end, (p.2.read, λ t rest is. not-FailsInFirstToken-if_parsed p.2.end p.2.fails.rest t rest g.cause p.2.fails.way is))
FailsInBody-StreamFails stream (at_stream_end c none way place cause) = at_end _ c (rw none at stream) way place cause
FailsInBody-StreamFails {arch} {len} {text} {tokens} {fault} {at} {cause} stream (at_stream_fault g c is place because way) =
    let stops = (rw is at stream).2 in
    in_next_token tokens stops.end stops.fails.rest c stops.read
    (subst (FailsInFirstToken stops.end stops.fails.rest) (sym because) stops.fails.way)
    (ap (λ (n : ℕ). n + length stops.fails.rest) place ∙ stops.fails.place) way
