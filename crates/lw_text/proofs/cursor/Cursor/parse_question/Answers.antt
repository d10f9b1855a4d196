-- `parse_question` promises list, quantifier and proposition, or that the tokens are no question, and where they
-- fail. Success puts the parts together (`ParsedQuestion-of_parts`). If a part fails there is no other way to
-- read what precedes it: a list of names is unique (`Listed-unique`). Each exit with a fault shows two things, in
-- this order: that there is no such reading, and where it fails (`Fails-later`).
use Rattle.lw_text.proofs.Common.{most_locations, ◌≤◌, length, NameTable, [], map, refl, sym, subst, arith}
use Rattle.lw_text.proofs.Common.{IsDuplicateFree, IsDuplicateFree-insert_names, length_le-insert_names}
use Rattle.lw_text.proofs.Common.{site_names, with_sites, sites_in, site_by_name, remaining_texts}
use Rattle.lw_text.proofs.Common.{FailsInProposition, first_place, in_list, in_quantifier, in_proposition}
use Rattle.lw_text.proofs.Bodies.{ParsedQuestion-of_parts}
use Rattle.lw_text.proofs.SiteLists.{Listed-unique}
use Rattle.lw_text.proofs.Whole.{no_question-if_no_proposition}
use Rattle.lw_text.proofs.Lists.{IsSuffix-join}
use Rattle.lw_text.proofs.Failures.{Fails-later}
use Rattle.lw_text.proofs.Faults.{Err-clause_known}
use Rattle.lw_text.proofs.cursor.Cursor.parse_question.Goals as goal

pub returns-in_err-listed : goal.returns-in_err-listed
returns-in_err-listed g c = Err-clause_known _ _ _ c.from_residual.ensures.1 (λ ne.
    let lost = c.in_err-listed.ensures ne in (
      λ all q ss p condition fits.
          lost.0 all condition.after_list condition.lists condition.threads_exist
          (omega (arith, fits.room, length_le-insert_names (with_sites c.args.locs.now all) (site_names (sites_in ss)))),
      Fails-later ([], refl) (λ rest cause w. in_list w) lost.1,
    ))

-- If no quantifier follows the list of names, there is no question: the list is unique.
pub returns-in_err-quant : goal.returns-in_err-quant
returns-in_err-quant g c = Err-clause_known _ _ _ c.from_residual-in_err-quant.ensures.1 (λ ne. (
  λ all q ss p condition fits.
      let u =
      Listed-unique c.args.arch (remaining_texts c.args.self.now) all _ condition.after_list
      (remaining_texts c.parse_listed.new.self) condition.lists c.in_ok-listed.ensures.parsed in
      c.in_err-quant.ensures.0 q condition.after_quant (rw u.1 at condition.quantifies),
  Fails-later c.in_ok-listed.ensures.advances (λ rest cause w.
      in_quantifier _ c.in_ok-listed.ensures.parsed c.in_ok-listed.ensures.threads_exist
      (subst (λ (table : NameTable). length table ≤ most_locations) c.in_ok-listed.ensures.names_are
      c.in_ok-listed.ensures.bounded) w) c.in_err-quant.ensures.1,
))

pub parse_proposition-requires-clause-once : goal.parse_proposition-requires-clause-once
parse_proposition-requires-clause-once g c =
    subst IsDuplicateFree (sym c.in_ok-listed.ensures.names_are)
    (IsDuplicateFree-insert_names _ (site_names (map (site_by_name c.parse_listed.new.locs) c.in_ok-listed.listed))
    c.requires.once)

-- If no proposition follows the quantifier, there is no question: list and quantifier are unique.
pub returns-in-Err : goal.returns-in-Err
returns-in-Err g c = λ ne.
    let lost = c.in-Err.ensures ne in (
      no_question-if_no_proposition c.in_ok-listed.ensures _ _ c.in_ok-quant.ensures.0 lost.0,
      Fails-later (IsSuffix-join c.in_ok-listed.ensures.advances c.in_ok-quant.ensures.1) (λ rest cause w.
          in_proposition _ _ c.in_ok-listed.ensures.parsed c.in_ok-listed.ensures.threads_exist
          (subst (λ (table : NameTable). length table ≤ most_locations) c.in_ok-listed.ensures.names_are
          c.in_ok-listed.ensures.bounded) c.in_ok-quant.ensures.0
          (subst (λ names.
          FailsInProposition c.args.arch c.args.threads rest cause first_place 0 names
          (remaining_texts c.parse_quantifier.new.self)) c.in_ok-listed.ensures.names_are w)) lost.1,
    )

pub returns-in-Ok : goal.returns-in-Ok
returns-in-Ok g c = ParsedQuestion-of_parts c.in_ok-listed.ensures _ _ c.in_ok-quant.ensures.0 c.in-Ok.ensures
