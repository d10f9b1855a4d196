-- `parse_bracketed` promises the location whose name and `]` are next, or that there is none with room, and where
-- it fails. Each exit is immediate from the callee's contract, with the name as the first of the remaining tokens.
-- Each exit with a fault shows two things, in this order: that there is no such reading, and where it fails
-- (`Fails-later`).
use Rattle.lw_text.proofs.Common.{most_locations, cons-head_eq, ◌≤◌, length, NameTable, ◌∷◌, [], ◌∙◌, ap}
use Rattle.lw_text.proofs.Common.{refl, sym, subst, IsUnreservedName, HasRoomForName, remaining}
use Rattle.lw_text.proofs.Common.{IsNoNewLocation, in_bracketed_name, no_bracket, BeginsAt}
use Rattle.lw_text.proofs.Lists.{IsSuffix-join}
use Rattle.lw_text.proofs.Faults.{Err-clause_known}
use Rattle.lw_text.proofs.Failures.{Fails-here, Fails-later, IfFirst-cons, cons-tail_unique}
use Rattle.lw_text.proofs.cursor.Cursor.parse_bracketed.Goals as goal

pub returns : goal.returns
returns g c =
    let name = c.in_ok-name.name in (
      name.text.now,
      c.in_ok-name.ensures.ok ∙ ap (λ l. name.text.now ∷ l) c.in_ok-expect.ensures.ok,
      c.in_ok-loc.ensures,
      IsSuffix-join (name ∷ [], c.in_ok-name.ensures.token) c.in_ok-expect.ensures.advances,
    )

-- If the token is no name with room in the table, no location in brackets follows, and it fails at this token.
pub returns-in_err-loc : goal.returns-in_err-loc
returns-in_err-loc g c = Err-clause_known _ _ _ c.from_residual-in_err-loc.ensures.1 (λ ne.
    let lost = c.in_err-loc.ensures ne in (
      λ x rest e loc room.
          let same = cons-head_eq _ _ _ _ (sym c.in_ok-name.ensures.ok ∙ e) in
          lost.0 (subst IsUnreservedName (sym same) loc) (subst (HasRoomForName c.args.locs.now) (sym same) room),
      Fails-here c.args.self.now _ (subst (BeginsAt (remaining c.args.self.now)) (sym lost.1) c.refusal-misfit.ensures.place)
          (in_bracketed_name (
            refl,
            IfFirst-cons _ _ _ _ c.in_ok-name.ensures.ok
                (subst (λ k. IsNoNewLocation k c.args.locs.now c.in_ok-name.name.text.now c.in_err-loc.field-0.0.cause)
                c.refusal-misfit.ensures.cause lost.2),
          )),
    ))

pub returns-in_err-expect : goal.returns-in_err-expect
returns-in_err-expect g c = Err-clause_known _ _ _ c.from_residual-in_err-expect.ensures.1 (λ ne. (
  λ x rest e loc room. c.in_err-expect.ensures.err rest (cons-tail_unique (sym c.in_ok-name.ensures.ok ∙ e)),
  Fails-later (c.in_ok-name.name ∷ [], c.in_ok-name.ensures.token) (λ rest cause w.
      no_bracket c.in_ok-name.ensures.ok c.in_ok-loc.ensures.0
      (subst (λ (table : NameTable). length table ≤ most_locations) c.in_ok-loc.ensures.2 c.in_ok-loc.ensures.3) w)
      c.in_err-expect.ensures.fails,
))
