-- `parse_block` promises the block's initializers, or that the tokens are no block with room for its locations,
-- and where they fail. It is the reading of a list between `{` and `}` with `;` between: one lemma of `Readings`
-- for each exit. An element that has no room, no site or no value makes the whole list impossible
-- (`no_block-if_no_initializer`). Each exit with a fault shows two things, in this order: that there is no such reading,
-- and where it fails (`Fails-later`).
use Rattle.lw_text.proofs.Common.{most_locations, ℕ, ◌≡◌, ◌<◌, ◌≤◌, length, NameTable, ParsesMany, sym, []}
use Rattle.lw_text.proofs.Common.{None, refl, subst, ap, arith, remaining_texts, remaining, IsSuffix, IsSite}
use Rattle.lw_text.proofs.Common.{IsInitializer, TokenList, Unexpected, named_initializer, site_by_name, ◌∷◌}
use Rattle.lw_text.proofs.Common.{codes, map, FailsInAssignment, FailsInInitializers, FailsInBlock, no_brace}
use Rattle.lw_text.proofs.Common.{in_initializers, in_element, no_separator, in_elements_after, in_site}
use Rattle.lw_text.proofs.Common.{in_value, TextCause, BeginsInitializer}
use Rattle.lw_text.proofs.Faults.{Err-clause_known, MatchResult-Memory_error, IsParserCause-Unexpected}
use Rattle.lw_text.proofs.Lists.{IsSuffix-join, tail-shorter}
use Rattle.lw_text.proofs.SitesAndValues.{brace, semicolon, IsSite-shorter, Value-shorter}
use Rattle.lw_text.proofs.SitesAndValues.{no_initializer-if_no_value}
use Rattle.lw_text.proofs.SiteLists.{initializer_kind, no_block-if_no_initializer}
use Rattle.lw_text.proofs.Failures.{Fails-later, BeginInitializers-push, ParsesMany-of_read}
use Rattle.lw_text.proofs.Readings.{AreReadElements-none, IsReadList-at_close, AreReadElements-next}
use Rattle.lw_text.proofs.Readings.{IsReadList-after_last, no_list-if_no_separator, IsReadElement}
use Rattle.lw_text.proofs.cursor.Cursor.parse_block.Given.{Over}
use Rattle.lw_text.proofs.cursor.Cursor.parse_block.Goals.{After-parse_site, In_ok-word, In_ok-expect_either}
use Rattle.lw_text.proofs.cursor.Cursor.parse_block.Goals as goal

pub returns-in_err-expect : goal.returns-in_err-expect
returns-in_err-expect g c = Err-clause_known _ _ _ c.from_residual.ensures.1 (λ _. (
  λ es rest block few. c.in_err-expect.ensures.err block.0 block.1,
  Fails-later ([], refl) (λ rest cause w. no_brace w) c.in_err-expect.ensures.fails,
))

pub initializers-init : goal.initializers-init
initializers-init g c = rw c.new-initializers.ensures (record {
  read =
      AreReadElements-none (initializer_kind c.args.arch) c.args.locs.now (remaining_texts c.args.self.now) _
      c.in_ok-expect.ensures.ok;
  advances = c.in_ok-expect.ensures.advances;
  places = tt;
  bounded = c.len-known.ensures.table.bounded;
  fails = λ rest cause w. in_initializers c.in_ok-expect.ensures.ok w;
})

-- If `}` is next, the initializers read are the whole block.
pub returns-then-accept : goal.returns-then-accept
returns-then-accept g c =
    let whole = IsReadList-at_close c.initializers.invariant.read _ (c.accept.ensures.taken c.if-accept.true) in
    record {
      parsed = whole.whole;
      names_are = whole.names_are;
      within = whole.within;
      advances = IsSuffix-join c.initializers.invariant.advances c.accept.ensures.advances;
      places = c.initializers.invariant.places;
      bounded = c.initializers.invariant.bounded;
    }

-- If no `}` is next, a site is read at the same position.
remaining_texts-if_no_brace : (g : Over) (c : After-parse_site g)
    → remaining_texts c.accept.new.self ≡ remaining_texts c.initializers.self
remaining_texts-if_no_brace g c = ap remaining_texts (c.accept.ensures.kept c.if-accept.false)

-- The initializer whose site and word were read is one more element of the list.
IsReadElement-initializer_read : (g : Over) (c : In_ok-word g)
    → IsReadElement (initializer_kind c.args.arch) c.initializers.locs c.parse_site.new.locs (remaining_texts c.initializers.self)
    (remaining_texts c.parse_value.new.self)
    (record { at = c.place-at.result; site = c.in_ok-site.site; word = c.in_ok-word.word })
IsReadElement-initializer_read g c = record {
  grows = c.in_ok-site.ensures.names_are;
  is_in = c.in_ok-site.ensures.within;
  fits = tt;
  parsed =
      (let same = ap remaining_texts (c.accept.ensures.kept c.if-accept.false) in
      (remaining_texts c.parse_site.new.self, rw same at c.in_ok-site.ensures.parsed, c.in_ok-word.ensures.0));
}

-- What remains after the initializer and the token that follows it is a suffix of what remained at the call.
IsSuffix-after_initializer : (g : Over) (c : In_ok-expect_either g)
    → IsSuffix (remaining c.args.self.now) (remaining c.expect_either.new.self)
IsSuffix-after_initializer g c =
    IsSuffix-join c.initializers.invariant.advances
    (IsSuffix-join c.accept.ensures.advances
    (IsSuffix-join c.in_ok-site.ensures.advances (IsSuffix-join c.in_ok-word.ensures.1 c.in_ok-expect_either.ensures.1)))

-- An initializer that fails makes the block fail.
FailsInBlock-initializer : (g : Over) (c : After-parse_site g) (rest : TokenList) (cause : TextCause)
    → FailsInAssignment c.args.arch None c.initializers.locs Unexpected (remaining_texts c.accept.new.self) rest cause
    → FailsInBlock c.args.arch c.args.locs.now (remaining_texts c.args.self.now) rest cause
FailsInBlock-initializer g c rest cause w =
    c.initializers.invariant.fails rest cause
    (in_element (c.accept.ensures.other c.if-accept.false)
    (subst (λ ts. FailsInAssignment c.args.arch None c.initializers.locs Unexpected ts rest cause)
    (remaining_texts-if_no_brace g c) w))

-- What remains before an initializer is a suffix of what remained at the call.
IsSuffix-before_initializer : (g : Over) (c : After-parse_site g)
    → IsSuffix (remaining c.args.self.now) (remaining c.accept.new.self)
IsSuffix-before_initializer g c = IsSuffix-join c.initializers.invariant.advances c.accept.ensures.advances

-- The initializer that was read begins at its place, after those before.
BeginsInitializer-at_place : (g : Over) (c : In_ok-word g)
    → BeginsInitializer c.args.arch c.args.self.now c.initializers.initializers
    (record { at = c.place-at.result; site = c.in_ok-site.site; word = c.in_ok-word.word })
BeginsInitializer-at_place g c =
    let read = c.initializers.invariant.read in
    let same = ap remaining_texts (c.accept.ensures.kept c.if-accept.false) in
    record {
      names = c.initializers.locs;
      inside = read.start;
      rest = remaining c.accept.new.self;
      later = remaining_texts c.parse_value.new.self;
      opens = read.begun;
      read =
          subst
          (ParsesMany (λ ts e next. IsInitializer c.args.arch ts e (codes ";" ∷ next)) read.start
          (map (named_initializer c.initializers.locs) c.initializers.initializers)) (sym same)
          (ParsesMany-of_read (IsInitializer c.args.arch) semicolon brace _ read.start _ read.listing);
      suffix = IsSuffix-join c.initializers.invariant.advances c.accept.ensures.advances;
      place = c.place-at.ensures;
      parsed = λ t r e. (
        remaining_texts c.parse_site.new.self,
        subst (λ s.
            IsSite c.args.arch (remaining_texts c.accept.new.self) (site_by_name c.parse_site.new.locs s)
            (remaining_texts c.parse_site.new.self)) e c.in_ok-site.ensures.parsed,
        c.in_ok-word.ensures.0,
      );
    }

-- If no site can be read, no initializer follows, so there is no block, and it fails where the site does.
pub returns-in_err-site : goal.returns-in_err-site
returns-in_err-site g c =
    let d = (goal.at.returns-in_err-site g c).After-parse_site in
    let same = remaining_texts-if_no_brace g d in
    Err-clause_known _ _ _ c.from_residual-in_err-site.ensures.1 (λ ne.
    let lost = c.in_err-site.ensures ne in (
      no_block-if_no_initializer c.args.arch c.initializers.invariant.read (c.accept.ensures.other c.if-accept.false)
          (λ e back initializer some. (rw same at lost.0) e.site initializer.0 initializer.1 tt some),
      Fails-later (IsSuffix-before_initializer g d) (λ rest cause w. FailsInBlock-initializer g d rest cause (in_site w)) lost.1,
    ))

-- If no value follows the site, no initializer follows, so there is no block, and it fails where the value does.
pub returns-in_err-word : goal.returns-in_err-word
returns-in_err-word g c =
    let d = (goal.at.returns-in_err-word g c).After-parse_site in
    let same = remaining_texts-if_no_brace g d in
    Err-clause_known _ _ _ c.from_residual-in_err-word.ensures.1 (λ ne. (
      no_block-if_no_initializer c.args.arch c.initializers.invariant.read (c.accept.ensures.other c.if-accept.false)
          (λ e back initializer some.
          no_initializer-if_no_value c.args.arch _ _ _ (rw same at c.in_ok-site.ensures.parsed) c.in_err-word.ensures.0 e back
          initializer),
      Fails-later (IsSuffix-join (IsSuffix-before_initializer g d) c.in_ok-site.ensures.advances) (λ rest cause w.
          FailsInBlock-initializer g d rest cause
          (in_value _ c.in_ok-site.ensures.parsed c.in_ok-site.ensures.threads_exist
          (subst (λ (table : NameTable). length table ≤ most_locations) c.in_ok-site.ensures.names_are
          c.in_ok-site.ensures.bounded) w)) c.in_err-word.ensures.1,
    ))

-- If neither `;` nor `}` follows the initializer, there is no block, and it fails there.
pub returns-in_err-expect_either : goal.returns-in_err-expect_either
returns-in_err-expect_either g c =
    let d = goal.at.returns-in_err-expect_either g c in
    let initializer = IsReadElement-initializer_read g d.In_ok-word in
    Err-clause_known _ _ _ c.from_residual-in_err-expect_either.ensures.1 (λ ne. (
      λ es rest block few.
          no_list-if_no_separator c.initializers.invariant.read _ _ initializer.parsed c.in_err-expect_either.ensures.1
          c.in_err-expect_either.ensures.0 es rest block,
      Fails-later
          (IsSuffix-join (IsSuffix-before_initializer g d.After-parse_site)
          (IsSuffix-join c.in_ok-site.ensures.advances c.in_ok-word.ensures.1)) (λ rest cause w.
          c.initializers.invariant.fails rest cause
          (no_separator (c.accept.ensures.other c.if-accept.false) initializer.parsed
          (subst (λ (table : NameTable). length table ≤ most_locations) initializer.grows c.in_ok-site.ensures.bounded) w))
          c.in_err-expect_either.ensures.2,
    ))

-- If `}` follows the initializer, the initializers read and this one are the whole block.
pub returns-then-branch : goal.returns-then-branch
returns-then-branch g c =
    let d = goal.at.returns-then-branch g c in
    let punctuation = rw c.if-branch.true at c.in_ok-expect_either.ensures.0 in
    let whole =
    IsReadList-after_last c.initializers.invariant.read (IsReadElement-initializer_read g d.In_ok-word)
    (remaining_texts c.expect_either.new.self) punctuation in
    rw c.in_ok-push.ensures.ok (record {
      parsed = whole.whole;
      names_are = whole.names_are;
      within = whole.within;
      advances = IsSuffix-after_initializer g d.In_ok-expect_either;
      places = BeginInitializers-push _ _ [] _ _ c.initializers.invariant.places (BeginsInitializer-at_place g d.In_ok-word);
      bounded = c.in_ok-site.ensures.bounded;
    })

-- The order of numbers is transitive.
lt_trans : (k m n : ℕ) → k < m → m < n → k < n
lt_trans k m n p q = omega arith

pub initializers-smaller : goal.initializers-smaller
initializers-smaller g c =
    let punctuation = rw c.if-branch.false at c.in_ok-expect_either.ensures.0 in
    let same = remaining_texts-if_no_brace g (goal.at.initializers-smaller g c).After-parse_site in
    tail-shorter _ _ _ _
    (rw same at
    (lt_trans _ _ _ (Value-shorter _ _ _ c.in_ok-word.ensures.0) (IsSite-shorter c.args.arch _ _ _ c.in_ok-site.ensures.parsed)))
    punctuation

-- If `;` follows the initializer, it is one more initializer read.
pub initializers-preserved : goal.initializers-preserved
initializers-preserved g c =
    let d = goal.at.initializers-preserved g c in
    let punctuation = rw c.if-branch.false at c.in_ok-expect_either.ensures.0 in
    rw c.in_ok-push.ensures.ok (record {
      read =
          AreReadElements-next c.initializers.invariant.read (IsReadElement-initializer_read g d.In_ok-word)
          (remaining_texts c.expect_either.new.self) punctuation;
      advances = IsSuffix-after_initializer g d.In_ok-expect_either;
      places = BeginInitializers-push _ _ [] _ _ c.initializers.invariant.places (BeginsInitializer-at_place g d.In_ok-word);
      bounded = c.in_ok-site.ensures.bounded;
      fails = λ rest cause w.
          c.initializers.invariant.fails rest cause
          (in_elements_after (c.accept.ensures.other c.if-accept.false)
          (subst (λ mid.
          IsInitializer c.args.arch (remaining_texts c.initializers.self) (named_initializer c.parse_site.new.locs
          (record { at = c.place-at.result; site = c.in_ok-site.site; word = c.in_ok-word.word })) mid) punctuation
          (IsReadElement-initializer_read g d.In_ok-word).parsed)
          (subst (λ (table : NameTable). length table ≤ most_locations) (IsReadElement-initializer_read g d.In_ok-word).grows
          c.in_ok-site.ensures.bounded)
          (subst (λ names. FailsInInitializers c.args.arch rest cause names (remaining_texts c.expect_either.new.self))
          (IsReadElement-initializer_read g d.In_ok-word).grows w));
    })

pub returns-in_err-push : goal.returns-in_err-push
returns-in_err-push g c = MatchResult-Memory_error _ _ _ c.from_residual-in_err-push.ensures.1

pub expect-requires : goal.expect-requires
expect-requires g c = IsParserCause-Unexpected

pub parse_site-requires : goal.parse_site-requires
parse_site-requires g c = IsParserCause-Unexpected

pub parse_value-requires : goal.parse_value-requires
parse_value-requires g c = IsParserCause-Unexpected

pub expect_either-requires : goal.expect_either-requires
expect_either-requires g c = IsParserCause-Unexpected
