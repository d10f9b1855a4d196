-- `parse_site` promises a site whose thread is allowed and whose location has room, or that none is next, and
-- where it fails. The first token decides: `[`, a number or a name (`no_site-if_no_location_in_brackets`,
-- `no_site-if_no_register`, `no_site-if_no_location` say that the other rules do not apply). Each exit with a
-- fault shows two things, in this order: that there is no such reading, and where it fails (`Fails-later`).
use Rattle.lw_text.proofs.Common.{◌∷◌, [], ◌∙◌, inl, inr, refl, sym, ap, subst, arith, codes}
use Rattle.lw_text.proofs.Common.{MatchResult-weaker, remaining, remaining_texts, ParsedSite, in_name}
use Rattle.lw_text.proofs.Common.{in_brackets, no_thread, in_register, BeginsAt}
use Rattle.lw_text.proofs.SitesAndValues.{no_site-if_empty}
use Rattle.lw_text.proofs.Lists.{IsSuffix-join}
use Rattle.lw_text.proofs.Texts.{bytes_equal, not-equal-if_bytes_differ}
use Rattle.lw_text.proofs.Sites.{location_site_parsed, allowed_thread, not-ThreadAllowed-if_above_threads}
use Rattle.lw_text.proofs.Sites.{no_site-if_no_location_in_brackets, no_site-if_thread_refused}
use Rattle.lw_text.proofs.Sites.{no_site-if_no_register, no_site-if_no_location}
use Rattle.lw_text.proofs.Faults.{Err-clause_known}
use Rattle.lw_text.proofs.Failures.{Fails-here, Fails-later, IfFirst-cons, IfFirst-nil, BeginsAt-cons}
use Rattle.lw_text.proofs.Failures.{BeginsAt-nil}
use Rattle.lw_text.proofs.cursor.Cursor.parse_site.Goals as goal

-- If the first token is no name of a location with room, no site follows, and it fails there.
pub returns-in-Err : goal.returns-in-Err
returns-in-Err g c = λ ne.
    let lost = c.in-Err.ensures ne in
    let plain = not-equal-if_bytes_differ _ _ (sym c.eq.ensures ∙ c.if-eq.false) in (
      λ s rest site there few.
          no_site-if_no_location c.args.arch _ c.in_ok-first.ensures.ok plain c.in_default.ensures lost.0 s rest site few,
      Fails-here c.args.self.now _
          (subst (BeginsAt (remaining c.args.self.now)) (sym lost.1) (BeginsAt-cons _ _ _ c.in_ok-first.ensures.token))
          (in_name (IfFirst-cons _ _ _ _ c.in_ok-first.ensures.ok (plain, c.in_default.ensures))
          (refl, IfFirst-cons _ _ _ _ c.in_ok-first.ensures.ok lost.2)),
    )

pub returns-in_err-first : goal.returns-in_err-first
returns-in_err-first g c =
    let none = c.in_err-first.ensures.err in
    Err-clause_known _ _ _ c.from_residual.ensures.1 (λ ne. (
      λ s rest p there few. no_site-if_empty c.args.arch (remaining_texts c.args.self.now) rest s none p,
      Fails-here c.args.self.now _ (BeginsAt-nil _ _ c.in_err-first.ensures.fails.0 c.in_err-first.ensures.fails.1)
          (in_name (IfFirst-nil _ _ none) (refl, IfFirst-nil _ _ none)),
    ))

-- If no location in brackets follows `[`, no site does, and it fails where the location does.
pub returns-in_err-inside : goal.returns-in_err-inside
returns-in_err-inside g c = Err-clause_known _ _ _ c.from_residual-in_err-inside.ensures.1 (λ ne.
    let lost = c.in_err-inside.ensures ne in
    let bracket = bytes_equal _ _ (sym c.eq.ensures ∙ c.if-eq.true) in (
      λ s rest p there few.
          no_site-if_no_location_in_brackets c.args.arch c.args.locs.now c.in_ok-first.ensures.ok bracket lost.0 s rest p few,
      Fails-later (c.in_ok-first.first ∷ [], c.in_ok-first.ensures.token)
          (λ rest cause w. in_brackets (c.in_ok-first.ensures.ok ∙ ap (λ y. y ∷ remaining_texts c.take.new.self) bracket) w)
          lost.1,
    ))

pub returns-then-eq : goal.returns-then-eq
returns-then-eq g c =
    let inside = c.in_ok-inside.ensures in
    location_site_parsed inside.2 (IsSuffix-join (c.in_ok-first.first ∷ [], c.in_ok-first.ensures.token) inside.3)
    (inr (c.in_ok-first.ensures.ok
    ∙ ap (λ y. y ∷ remaining_texts c.take.new.self) (bytes_equal _ _ (sym c.eq.ensures ∙ c.if-eq.true))
    ∙ ap (λ l. codes "[" ∷ l) inside.1))

-- If the thread's number is not allowed, no site follows, and it fails at the number.
pub returns-then-not-is_allowed : goal.returns-then-not-is_allowed
returns-then-not-is_allowed g c = λ ne.
    let refused = sym c.is_allowed.ensures ∙ c.if-not-is_allowed.true in (
      λ s rest p there few.
          no_site-if_thread_refused c.args.arch c.args.locs.now c.in_ok-first.ensures.ok _ c.in-Some.ensures c.args.threads
          refused s rest p there,
      Fails-here c.args.self.now _ (BeginsAt-cons _ _ _ c.in_ok-first.ensures.token)
          (no_thread _ _ c.in_ok-first.ensures.ok refl c.in-Some.ensures
          (λ r. not-ThreadAllowed-if_above_threads c.args.threads _ r refused) refl),
    )

-- After an allowed thread's number a `:` and a register are a site; without them no site follows.
pub returns-in-Some : goal.returns-in-Some
returns-in-Some g c =
    let names = c.args.locs.now in
    let taken = ParsedSite c.args.arch c.args.threads c.args.self.now c.parse_register.new.self names names in
    MatchResult-weaker c.parse_register.result c.parse_register.ensures (λ s reg. subst taken (sym reg.4) (record {
      parsed = (
        c.in_ok-first.first.text.now,
        reg.0,
        c.in_ok-first.ensures.ok ∙ ap (λ l. c.in_ok-first.first.text.now ∷ l) reg.2,
        c.in-Some.ensures,
        reg.3,
      );
      threads_exist = allowed_thread c.args.threads _ _ (sym c.is_allowed.ensures ∙ c.if-not-is_allowed.false);
      names_are = refl;
      within = omega arith;
      advances = IsSuffix-join (c.in_ok-first.first ∷ [], c.in_ok-first.ensures.token) reg.5;
      bounded = c.len-known.ensures.table.bounded;
    })) (λ f lost ne. (
      λ s rest p there few.
          no_site-if_no_register c.args.arch c.args.locs.now c.in_ok-first.ensures.ok c.in-Some.thread c.in-Some.ensures lost.0 s
          rest p,
      Fails-later (c.in_ok-first.first ∷ [], c.in_ok-first.ensures.token) (λ rest cause w.
          in_register _ _ c.in_ok-first.ensures.ok c.in-Some.ensures
          (λ r. allowed_thread c.args.threads _ r (sym c.is_allowed.ensures ∙ c.if-not-is_allowed.false)) w) lost.1,
    ))

pub returns-in-Ok : goal.returns-in-Ok
returns-in-Ok g c =
    location_site_parsed c.in-Ok.ensures (c.in_ok-first.first ∷ [], c.in_ok-first.ensures.token) (inl c.in_ok-first.ensures.ok)
