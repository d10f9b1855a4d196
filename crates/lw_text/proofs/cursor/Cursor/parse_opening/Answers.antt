-- `parse_opening` promises a terminal that begins a part, or that there is none with room, and where it fails.
-- Without a keyword it can only be an atom: a site and a value. A site without a value begins no terminal
-- (`no_terminal-if_site_has_no_value`). Each exit with a fault shows two things, in this order: that there is no
-- such reading, and where it fails (`Fails-later`).
use Rattle.lw_text.proofs.Common.{most_locations, ◌≤◌, length, NameTable, ◌≡◌, ◌∷◌, [], Some, refl, sym, ap}
use Rattle.lw_text.proofs.Common.{subst, with_sites, Atom, IsAtom, sites_in, IsSuffix, remaining}
use Rattle.lw_text.proofs.Common.{remaining_texts, FailsInSite, in_site, in_value, Condition}
use Rattle.lw_text.proofs.Lists.{IsSuffix-join}
use Rattle.lw_text.proofs.Failures.{Fails-later}
use Rattle.lw_text.proofs.TerminalLists.{no_terminal-if_site_has_no_value}
use Rattle.lw_text.proofs.Faults.{Err-clause_known}
use Rattle.lw_text.proofs.cursor.Cursor.parse_opening.Goals as goal

-- If no site can be read, no atom follows, so no terminal that begins a part.
pub returns-in_err-site : goal.returns-in_err-site
returns-in_err-site g c =
    let same = c.parse_opening_keyword.ensures.kept c.in_default.is in
    let kept = ap remaining_texts same in
    Err-clause_known _ _ _ c.from_residual.ensures.1 (λ ne.
    let lost = c.in_err-site.ensures ne in (
      λ s rest terminal begins few.
          let claim = c.in_default.ensures.none c.args.arch c.args.threads s rest terminal begins in
          let says = rw claim.2 at terminal in
          (rw kept at lost.0) claim.0 says.0 says.1 says.2 (rw claim.2 at few),
      Fails-later (subst (λ x. IsSuffix (remaining x) (remaining c.parse_opening_keyword.new.self)) same ([], refl))
          (λ rest cause w. (
            c.in_default.ensures.words,
            in_site (subst (λ ts. FailsInSite c.args.arch (Some c.args.threads) c.args.locs.now Condition ts rest cause) kept w),
          )) lost.1,
    ))

-- If no value follows the site, no atom follows, so no terminal.
pub returns-in_err-word : goal.returns-in_err-word
returns-in_err-word g c =
    let same = c.parse_opening_keyword.ensures.kept c.in_default.is in
    let kept = ap remaining_texts same in
    let stands = rw kept at c.in_ok-site.ensures.parsed in
    let advances = subst (λ x. IsSuffix (remaining x) (remaining c.parse_site.new.self)) same c.in_ok-site.ensures.advances in
    Err-clause_known _ _ _ c.from_residual-in_err-word.ensures.1 (λ ne. (
      λ s rest terminal begins few.
          no_terminal-if_site_has_no_value c.args.arch c.args.threads _ (remaining_texts c.parse_site.new.self) _ stands
          c.in_err-word.ensures.0 s rest terminal,
      Fails-later advances (λ rest cause w. (
        c.in_default.ensures.words,
        in_value _ stands c.in_ok-site.ensures.threads_exist
            (subst (λ (table : NameTable). length table ≤ most_locations) c.in_ok-site.ensures.names_are
            c.in_ok-site.ensures.bounded) w,
      )) c.in_err-word.ensures.1,
    ))

-- A site and its value are an atom, which begins a part.
pub returns : goal.returns
returns g c =
    let same = c.parse_opening_keyword.ensures.kept c.in_default.is in
    let kept = ap remaining_texts same in
    let table = c.parse_site.new.locs in
    let taken = c.in_ok-site.ensures in
    let syntax = sym (c.atom_at.ensures.syntax table) in (
      record {
        parsed =
            subst (λ claim.
            IsAtom c.args.arch c.args.threads (remaining_texts c.args.self.now) claim (remaining_texts c.parse_value.new.self))
            syntax (remaining_texts c.parse_site.new.self, rw kept at taken.parsed, taken.threads_exist, c.in_ok-word.ensures.0);
        names_are = subst (λ claim. table ≡ with_sites c.args.locs.now (sites_in (Atom claim ∷ []))) syntax taken.names_are;
        within = c.atom_at.ensures.within table taken.within;
        advances =
            IsSuffix-join (subst (λ x. IsSuffix (remaining x) (remaining c.parse_site.new.self)) same taken.advances)
            c.in_ok-word.ensures.1;
      },
      refl,
    )

pub returns-in-Some : goal.returns-in-Some
returns-in-Some g c = (c.in-Some.ensures.found c.args.arch c.args.threads c.args.locs.now, c.in-Some.ensures.part)
