-- At each round the sites up to the cursor have been read (`AreReadElements`), and at most eight locations are named. If
-- the rest fails as the rest of a list, the whole fails as a list. The remaining tokens decrease.
use Rattle.lw_text.proofs.Common.{most_locations, ◌≤◌, length, IsSuffix, TokenList, remaining}
use Rattle.lw_text.proofs.Common.{remaining_texts, FailsInSites, FailsInList, TextCause}
use Rattle.lw_text.proofs.SiteLists.{site_kind}
use Rattle.lw_text.proofs.Readings.{AreReadElements}
use Rattle.lw_text.proofs.cursor.Cursor.parse_listed.Given as goal

abbrev pub invariant-sites : goal.invariant-sites
invariant-sites g l = record {
  read :
      AreReadElements (site_kind l.arch l.threads) l.fn.locs l.locs (remaining_texts l.fn.self) (remaining_texts l.self) l.sites;
  bounded : length l.locs ≤ most_locations;
  advances : IsSuffix (remaining l.fn.self) (remaining l.self);
  fails :
      (rest : TokenList) (cause : TextCause)
      → FailsInSites l.arch l.threads rest cause l.locs (remaining_texts l.self)
      → FailsInList l.arch l.threads l.fn.locs (remaining_texts l.fn.self) rest cause;
}

abbrev pub decreases-sites : goal.decreases-sites
decreases-sites g l = length (remaining_texts l.self)
