-- `parse_listed` promises the listed sites, or that the tokens have no such list, and where they fail. Without the
-- word `locations` the list is empty. Otherwise it is the reading of a list between brackets: one lemma of
-- `Readings` for each exit. Each exit with a fault shows two things, in this order: that there is no such reading,
-- and where it fails (`Fails-later`).
use Rattle.lw_text.proofs.Common.{most_locations, ◌≤◌, length, NameTable, ◌≡◌, ◌∷◌, ◌∙◌, inl, inr, refl, ap}
use Rattle.lw_text.proofs.Common.{subst, sym, codes, All-nil, IsIn, Some, IsSite, IsSuffix, site_by_name}
use Rattle.lw_text.proofs.Common.{remaining, remaining_texts, FailsInSite, FailsInSites, no_list_bracket}
use Rattle.lw_text.proofs.Common.{in_sites, in_element, no_separator, in_elements_after, Condition}
use Rattle.lw_text.proofs.Failures.{Fails-later}
use Rattle.lw_text.proofs.Lists.{IsSuffix-join, tail-unique, tail-shorter}
use Rattle.lw_text.proofs.SitesAndValues.{IsSite-shorter, bracket}
use Rattle.lw_text.proofs.Faults.{Err-clause_known, MatchResult-Memory_error}
use Rattle.lw_text.proofs.SiteLists.{site_kind, ParsesList-Listed, HasRoomFor-map_same}
use Rattle.lw_text.proofs.Readings.{AreReadElements-none, IsReadList-at_close, AreReadElements-next}
use Rattle.lw_text.proofs.Readings.{IsReadList-after_last, no_list-if_no_element, no_list-if_no_separator}
use Rattle.lw_text.proofs.Readings.{IsReadElement}
use Rattle.lw_text.proofs.Texts.{not-token_is_next}
use Rattle.lw_text.proofs.cursor.Cursor.parse_listed.Given.{Over}
use Rattle.lw_text.proofs.cursor.Cursor.parse_listed.Goals.{After-parse_site, In_ok-parse_site}
use Rattle.lw_text.proofs.cursor.Cursor.parse_listed.Goals as goal

-- Without the word `locations` the list is empty.
pub returns-then-not-accept : goal.returns-then-not-accept
returns-then-not-accept g c = rw c.new.ensures (record {
  parsed =
      inr (
        c.accept.ensures.other c.if-not-accept.true,
        refl,
        sym (ap remaining_texts (c.accept.ensures.kept c.if-not-accept.true)),
      );
  threads_exist = tt;
  names_are = refl;
  within = All-nil (IsIn c.args.locs.now);
  advances = c.accept.ensures.advances;
  bounded = c.len-known.ensures.table.bounded;
})

pub returns-in_err-expect : goal.returns-in_err-expect
returns-in_err-expect g c =
    let word = c.accept.ensures.taken c.if-not-accept.false in
    Err-clause_known _ _ _ c.from_residual.ensures.1 (λ _. (
      λ ss rest listed there few.
          let whole = ParsesList-Listed c.args.arch c.args.threads (remaining_texts c.args.self.now) _ word ss rest listed in
          c.in_err-expect.ensures.err whole.0 (tail-unique _ word whole.1),
      Fails-later c.accept.ensures.advances (λ rest cause w. no_list_bracket word w) c.in_err-expect.ensures.fails,
    ))

pub sites-init : goal.sites-init
sites-init g c =
    let begins = c.accept.ensures.taken c.if-not-accept.false ∙ ap (λ l. codes "locations" ∷ l) c.in_ok-expect.ensures.ok in
    rw c.new-sites.ensures (record {
      read = AreReadElements-none _ c.args.locs.now (remaining_texts c.args.self.now) (remaining_texts c.expect.new.self) begins;
      bounded = c.len-known.ensures.table.bounded;
      advances = IsSuffix-join c.accept.ensures.advances c.in_ok-expect.ensures.advances;
      fails = λ rest cause w. in_sites begins w;
    })

-- If `]` is next, the sites read are the whole list.
pub returns-then-accept : goal.returns-then-accept
returns-then-accept g c =
    let whole = IsReadList-at_close c.sites.invariant.read _ (c.accept-in-sites.ensures.taken c.if-accept.true) in
    record {
      parsed = inl whole.whole;
      threads_exist = whole.fits;
      names_are = whole.names_are;
      within = whole.within;
      advances = IsSuffix-join c.sites.invariant.advances c.accept-in-sites.ensures.advances;
      bounded = c.sites.invariant.bounded;
    }

-- If no `]` is next, a site is read at the same position.
remaining_texts-if_no_bracket : (g : Over) (c : After-parse_site g)
    → remaining_texts c.accept-in-sites.new.self ≡ remaining_texts c.sites.self
remaining_texts-if_no_bracket g c = ap remaining_texts (c.accept-in-sites.ensures.kept c.if-accept.false)

-- The site that was read is one more element of the list.
IsReadElement-site_read : (g : Over) (c : In_ok-parse_site g)
    → IsReadElement (site_kind c.args.arch c.args.threads) c.sites.locs c.parse_site.new.locs (remaining_texts c.sites.self)
    (remaining_texts c.parse_site.new.self) c.in_ok-parse_site.field-0
IsReadElement-site_read g c = record {
  grows = c.in_ok-parse_site.ensures.names_are;
  is_in = c.in_ok-parse_site.ensures.within;
  fits = c.in_ok-parse_site.ensures.threads_exist;
  parsed =
      (let same = ap remaining_texts (c.accept-in-sites.ensures.kept c.if-accept.false) in
      rw same at c.in_ok-parse_site.ensures.parsed);
}

-- What remains before a site is a suffix of what remained at the call.
IsSuffix-before_site : (g : Over) (c : After-parse_site g)
    → IsSuffix (remaining c.args.self.now) (remaining c.accept-in-sites.new.self)
IsSuffix-before_site g c = IsSuffix-join c.sites.invariant.advances c.accept-in-sites.ensures.advances

-- If no site can be read, there is no list, and it fails where the site does.
pub returns-in_err-parse_site : goal.returns-in_err-parse_site
returns-in_err-parse_site g c =
    let d = (goal.at.returns-in_err-parse_site g c).After-parse_site in
    let same = remaining_texts-if_no_bracket g d in
    Err-clause_known _ _ _ c.from_residual-in_err-parse_site.ensures.1 (λ ne.
    let lost = c.in_err-parse_site.ensures ne in (
      λ all rest listed there few.
          no_list-if_no_element c.sites.invariant.read
          (λ l. not-token_is_next bracket (remaining_texts c.sites.self) l (c.accept-in-sites.ensures.other c.if-accept.false))
          (rw same at lost.0) all rest
          (ParsesList-Listed _ c.args.threads (remaining_texts c.args.self.now) (codes "[" ∷ c.sites.invariant.read.start)
          c.sites.invariant.read.begun all rest listed) there (HasRoomFor-map_same c.args.locs.now all few),
      Fails-later (IsSuffix-before_site g d) (λ rest cause w.
          c.sites.invariant.fails rest cause
          (in_element (c.accept-in-sites.ensures.other c.if-accept.false)
          (subst (λ ts. FailsInSite c.args.arch (Some c.args.threads) c.sites.locs Condition ts rest cause) same w))) lost.1,
    ))

-- If neither `;` nor `]` follows the site, there is no list, and it fails there.
pub returns-in_err-expect_either : goal.returns-in_err-expect_either
returns-in_err-expect_either g c =
    let d = goal.at.returns-in_err-expect_either g c in
    let site = IsReadElement-site_read g d.In_ok-parse_site in
    Err-clause_known _ _ _ c.from_residual-in_err-expect_either.ensures.1 (λ ne. (
      λ all rest listed there few.
          no_list-if_no_separator c.sites.invariant.read _ _ site.parsed c.in_err-expect_either.ensures.1
          c.in_err-expect_either.ensures.0 all rest
          (ParsesList-Listed c.args.arch c.args.threads (remaining_texts c.args.self.now) _ c.sites.invariant.read.begun all rest
          listed),
      Fails-later (IsSuffix-join (IsSuffix-before_site g d.After-parse_site) c.in_ok-parse_site.ensures.advances) (λ rest cause w.
          c.sites.invariant.fails rest cause
          (no_separator (c.accept-in-sites.ensures.other c.if-accept.false) (site.parsed, site.fits)
          (subst (λ (table : NameTable). length table ≤ most_locations) site.grows c.in_ok-parse_site.ensures.bounded) w))
          c.in_err-expect_either.ensures.2,
    ))

-- If `]` follows the site, the sites read and this one are the whole list.
pub returns-then-branch : goal.returns-then-branch
returns-then-branch g c =
    let d = goal.at.returns-then-branch g c in
    let site = IsReadElement-site_read g d.In_ok-parse_site in
    let punctuation = rw c.if-branch.true at c.in_ok-expect_either.ensures.0 in
    let whole = IsReadList-after_last c.sites.invariant.read site (remaining_texts c.expect_either.new.self) punctuation in
    rw c.in_ok-push.ensures.ok (record {
      parsed = inl whole.whole;
      threads_exist = whole.fits;
      names_are = whole.names_are;
      within = whole.within;
      advances =
          IsSuffix-join (IsSuffix-before_site g d.After-parse_site)
          (IsSuffix-join c.in_ok-parse_site.ensures.advances c.in_ok-expect_either.ensures.1);
      bounded = c.in_ok-parse_site.ensures.bounded;
    })

pub sites-smaller : goal.sites-smaller
sites-smaller g c =
    let same = remaining_texts-if_no_bracket g (goal.at.sites-smaller g c).After-parse_site in
    let punctuation = rw c.if-branch.false at c.in_ok-expect_either.ensures.0 in
    tail-shorter _ _ _ _ (rw same at (IsSite-shorter c.args.arch _ _ _ c.in_ok-parse_site.ensures.parsed)) punctuation

-- If `;` follows the site, it is one more site read.
pub sites-preserved : goal.sites-preserved
sites-preserved g c =
    let d = goal.at.sites-preserved g c in
    let site = IsReadElement-site_read g d.In_ok-parse_site in
    let punctuation = rw c.if-branch.false at c.in_ok-expect_either.ensures.0 in
    rw c.in_ok-push.ensures.ok (record {
      read = AreReadElements-next c.sites.invariant.read site (remaining_texts c.expect_either.new.self) punctuation;
      advances =
          IsSuffix-join (IsSuffix-before_site g d.After-parse_site)
          (IsSuffix-join c.in_ok-parse_site.ensures.advances c.in_ok-expect_either.ensures.1);
      bounded = c.in_ok-parse_site.ensures.bounded;
      fails = λ rest cause w.
          c.sites.invariant.fails rest cause
          (in_elements_after (c.accept-in-sites.ensures.other c.if-accept.false) (
            subst (λ mid.
                IsSite c.args.arch (remaining_texts c.sites.self) (site_by_name c.parse_site.new.locs c.in_ok-parse_site.field-0)
                mid) punctuation site.parsed,
            site.fits,
          ) (subst (λ (table : NameTable). length table ≤ most_locations) site.grows c.in_ok-parse_site.ensures.bounded)
          (subst (λ names. FailsInSites c.args.arch c.args.threads rest cause names (remaining_texts c.expect_either.new.self))
          site.grows w));
    })

pub returns-in_err-push : goal.returns-in_err-push
returns-in_err-push g c = MatchResult-Memory_error _ _ _ c.from_residual-in_err-push.ensures.1
