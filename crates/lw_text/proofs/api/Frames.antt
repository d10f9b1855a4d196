-- A text has at most one frame, whose head is well-formed, with cells for each thread. `lw_x86` and `lw_bench` use this.
use Rattle.lw_text.proofs.Common.{◌≡◌, length, map, sym, ap, ◌∙◌, subst, length-map-range_with_len, Bytes}
use Rattle.lw_text.proofs.Common.{Arch, Formula, Tokens, IsProposition, resolved, TestSyntax, location_table}
use Rattle.lw_text.proofs.Common.{ParsesTest, TestFrame, HasFrame, frame_of_syntax}
use Rattle.lw_text.proofs.Preambles.{Preamble-unique}
use Rattle.lw_text.proofs.PropositionReadings.{IsProposition-unique}
use Rattle.lw_text.proofs.TokenRows.{Tokens-unique}
use Rattle.lw_text.proofs.Whole.{ParsesTest-unique}
pub use Rattle.lw_text.proofs.WellFormedHeads.{AreUnreserved-insert_names, frame_well_formed}

-- A text has at most one frame, since the parses of its preamble, tokens, parts and proposition are unique.
pub HasFrame-unique : (text : Bytes) (f g : TestFrame) → HasFrame text f → HasFrame text g → f ≡ g
HasFrame-unique text f g p q =
    let head = Preamble-unique text p.arch p.name p.rest q.arch q.name q.rest p.preamble q.preamble in
    let tokens = Tokens-unique p.tokens q.tokens q.rest (subst (λ x. Tokens x p.tokens) head.2 p.stream) q.stream in
    let parts = subst (λ a. ParsesTest a q.tokens p.syntax) head.0 (subst (λ x. ParsesTest p.arch x p.syntax) tokens p.parts) in
    let syntax : p.syntax ≡ q.syntax = ParsesTest-unique q.arch q.tokens p.syntax q.syntax parts q.parts in
    let proposition : p.proposition ≡ q.proposition =
    IsProposition-unique (map (resolved (location_table q.syntax)) q.syntax.terminals) p.proposition q.proposition
    (subst (λ (s : TestSyntax). IsProposition (map (resolved (location_table s)) s.terminals) p.proposition) syntax
    p.is_proposition) q.is_proposition in
    let arch : p.arch ≡ q.arch = head.0 in
    let name : p.name ≡ q.name = head.1 in
    p.frame_is
    ∙ ap (λ (a : Arch). frame_of_syntax a p.name p.syntax p.proposition) arch
    ∙ ap (λ n. frame_of_syntax q.arch n p.syntax p.proposition) name
    ∙ ap (λ (s : TestSyntax). frame_of_syntax q.arch q.name s p.proposition) syntax
    ∙ ap (λ (c : Formula). frame_of_syntax q.arch q.name q.syntax c) proposition
    ∙ sym q.frame_is

-- A frame has a column of cells for each thread.
pub frame_columns : (text : Bytes) (f : TestFrame) → HasFrame text f → length f.cells ≡ f.head.threads
frame_columns text f p =
    ap (λ g. length g.cells) p.frame_is ∙ length-map-range_with_len _ 0 _ ∙ sym (ap (λ g. g.head.threads) p.frame_is)
