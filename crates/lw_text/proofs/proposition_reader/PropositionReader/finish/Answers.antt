-- `finish` promises the proposition that the terminals are, or that they are none yet. They are one if no
-- group is open and a part has been read; then the group is closed with it.
use Rattle.lw_text.proofs.Common.{◌≡◌, ◌≢◌, List, [], ◌∷◌, Option, Some, None, length, map, reverse, refl, ap}
use Rattle.lw_text.proofs.Common.{sym, ◌∙◌, arith, eqb-true, eqb-false, nil_from_length, length-reverse}
use Rattle.lw_text.proofs.Common.{length-map, Formula, formula_of, GroupState, group_of, ors_of}
use Rattle.lw_text.proofs.Common.{reader_state_in, state_result}
use Rattle.lw_text.proofs.proposition_reader.PropositionReader.finish.Goals as goal

-- While a group is open, the terminals are no whole proposition.
no_result-if_group_open : (o : Option Formula) (l : GroupState) (os : List GroupState)
    → os ≢ []
    → state_result (reader_state_in o l os) ≡ None
no_result-if_group_open None l os ne = refl
no_result-if_group_open (Some p) l [] ne = absurd (ne refl)
no_result-if_group_open (Some p) l (o ∷ os) ne = refl

-- While a group is open, there is no proposition yet.
pub returns-then-not-is_empty : goal.returns-then-not-is_empty
returns-then-not-is_empty g c =
    let groups = c.args.self.now.outer.items in
    λ _. (
      no_result-if_group_open _ _ (reverse (map group_of groups))
          (λ e. eqb-false _ _ (sym c.is_empty.ensures ∙ c.if-not-is_empty.true) (omega (
            arith,
            ap (λ l. length l) e,
            length-reverse (map group_of groups),
            length-map groups group_of,
            c.args.self.now.outer.ok.0,
          ))),
      refl,
    )

-- If no group is open and a part has been read, the proposition is the group's formula with this part.
pub returns-in_ok-close-in-Some : goal.returns-in_ok-close-in-Some
returns-in_ok-close-in-Some g c =
    let r = c.args.self.now in
    let none : r.outer.items ≡ [] =
    nil_from_length r.outer.items
    (omega (arith, eqb-true _ _ (sym c.is_empty.ensures ∙ c.if-not-is_empty.false), r.outer.ok.0)) in
    rw (← c.in-Some.ensures.value, none)
    (ap Some
    (sym (c.in_ok-close-in-Some.ensures
    ∙ ap (λ l. ors_of (group_of l) (formula_of c.in-Some.part)) c.replace-group.ensures.value)))
