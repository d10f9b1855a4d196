-- `body` promises the parsed body if no lexical fault ends the tokens, or where the stream fails. A refusal
-- has the offset of a token (`place_within`); if the tokens end too early, the place is that of the lexical
-- fault or the text's end (`StreamFails-of_refusal`).
use Rattle.lw_text.proofs.Common.{◌≡◌, ◌≢◌, ◌∙◌, IsSuffix, Memory, Unexpected, formula_of, inr, refl}
use Rattle.lw_text.proofs.Common.{syntax_of, ap, rules, subst, sym, ParsesTest, ParsesNoTest, token_texts}
use Rattle.lw_text.proofs.Common.{FailsInTest, at_stream_fault}
use Rattle.lw_text.proofs.Numbers.{IfNone-of_fact}
use Rattle.lw_text.proofs.StreamFailures.{place_within, StreamFails-of_refusal}
use Rattle.lw_text.proofs.api.Places.{texts_placed}
use Rattle.lw_text.proofs.token_stream.TokenStream.body.Goals as goal

pub fault_of-requires-clause-place : goal.fault_of-requires-clause-place
fault_of-requires-clause-place g c = λ ne.
    let read = c.new-cursor.ensures ∙ c.as_slice.ensures in
    let fails = (c.in-Err.ensures ne).1 in
    place_within c.args.len c.args.self.now.tokens fails.rest _ c.requires.places
    (subst (λ ts. IsSuffix ts fails.rest) read fails.suffix) fails.place

-- If the parser refuses a token, the stream fails at this token, or where the tokens end.
pub returns-in-Err : goal.returns-in-Err
returns-in-Err g c =
    let read = c.new-cursor.ensures ∙ c.as_slice.ensures in (
      λ ne.
          IfNone-of_fact c.args.self.now.fault (ParsesNoTest c.args.arch (token_texts c.args.self.now.tokens)) (λ s f parts whole.
          (c.in-Err.ensures (λ memory. ne (c.fault_of.ensures.memory memory))).0 s f
          (subst (λ ts. ParsesTest c.args.arch ts s) (sym (ap token_texts read)) parts) whole),
      c.fault_of.ensures.place,
      λ ne.
          let known : c.in-Err.refusal.cause ≢ Memory = λ memory. ne (c.fault_of.ensures.memory memory) in
          let fails = (c.in-Err.ensures known).1 in
          StreamFails-of_refusal c.args.self.now.tokens c.args.self.now.fault c.in-Err.refusal c.fault_of.result fails.rest
          (subst (λ ts. IsSuffix ts fails.rest) read fails.suffix) fails.place
          (subst (λ ts. FailsInTest c.args.arch (token_texts ts) (token_texts fails.rest) c.in-Err.refusal.cause) read fails.way)
          (c.fault_of.ensures.token known) (c.fault_of.ensures.end known),
    )

-- If a lexical fault ends tokens that are a body, the stream fails at this fault.
pub returns-in-Some : goal.returns-in-Some
returns-in-Some g c =
    let read = ap token_texts (c.new-cursor.ensures ∙ c.as_slice.ensures) in
    let says = c.in-Ok.ensures.0 in (
      λ _. rw c.in-Some.is tt,
      rw c.in-Some.is at c.requires.fault,
      λ _. at_stream_fault c.in-Some.fault Unexpected c.in-Some.is refl refl (inr (
        syntax_of c.in-Ok.body says.terminals,
        formula_of c.in-Ok.body.parts.prop,
        subst (λ ts. ParsesTest c.args.arch ts (syntax_of c.in-Ok.body says.terminals))
            (read ∙ sym (texts_placed c.args.self.now.tokens)) says.parts,
        rw (← says.names) says.proposition,
      )),
    )

pub returns-in-None : goal.returns-in-None
returns-in-None g c = search rules
