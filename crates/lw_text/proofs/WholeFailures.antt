-- Tokens fail to be a test at one place only, and for one cause, and tests do not fail. The last step before
-- the law that a text fails at one place (OneFault).
use Rattle.lw_text.proofs.Common.{cons-head_eq, inl, inr, ◌≡◌, ◌≢◌, ℕ, ◌+◌, ◌<◌, ◌≤◌, None, List, [], ◌∷◌}
use Rattle.lw_text.proofs.Common.{length, refl, sym, ap, ◌∙◌, subst, arith, codes, AllByRecursion, Arch}
use Rattle.lw_text.proofs.Common.{NameTable, TokenList, CellGrid, Formula, HasRoomFor, ThreadExists, InThread}
use Rattle.lw_text.proofs.Common.{with_sites, InitializerSyntax, IsInitializer, sites_of, Block, Header}
use Rattle.lw_text.proofs.Common.{Names, Rows, ParsesMany, ParsesSepEndBy, ParsesNoTest, ParsesTest}
use Rattle.lw_text.proofs.Common.{ReadsBlock, ReadsHeader, HaveThreads, HasMissingThread, FailsInBlock}
use Rattle.lw_text.proofs.Common.{FailsInQuestion, FailsInHeader, FailsInRows, FailsInTest, TestSyntax}
use Rattle.lw_text.proofs.Common.{in_block, in_header, no_such_thread, in_rows, in_question, TextCause}
use Rattle.lw_text.proofs.SitesAndValues.{no_site, IsInitializer-unique}
use Rattle.lw_text.proofs.Cells.{Rows-unique}
use Rattle.lw_text.proofs.ConditionFailures.{FailsInQuestion-unique, not-FailsInQuestion-if_parsed}
use Rattle.lw_text.proofs.Failures.{cons-tail_unique}
use Rattle.lw_text.proofs.FailureUniqueness.{IsSameFailure, FailsUniquely}
use Rattle.lw_text.proofs.Headers.{Names-unique}
use Rattle.lw_text.proofs.SiteLists.{Block-unique}
use Rattle.lw_text.proofs.TestFailures.{FailsInBlock-unique, not-FailsInBlock-if_parsed, FailsInHeader-unique}
use Rattle.lw_text.proofs.TestFailures.{not-FailsInHeader-if_parsed, FailsInRows-unique}
use Rattle.lw_text.proofs.TestFailures.{not-FailsInRows-if_parsed}
use Rattle.lw_text.proofs.Texts.{not-equal-if_bytes_differ}
use Rattle.lw_text.proofs.Whole.{HasRoomFor-initial_block, no_test-if_no_header, no_test-if_no_rows}
use Rattle.lw_text.proofs.Whole.{no_test-if_no_question}

module _ (arch : Arch) where
  -- An initializer with its `;`.
  abbrev Entry : TokenList → InitializerSyntax → TokenList → Type 0
  Entry ts e next = IsInitializer arch ts e (codes ";" ∷ next)

  -- The parse of an initializer with its `;` is unique.
  Entry-unique : (ts r s : TokenList) (x y : InitializerSyntax) → Entry ts x r → Entry ts y s → (x ≡ y) × (r ≡ s)
  Entry-unique ts r s x y p q =
      let u = IsInitializer-unique arch ts x y (codes ";" ∷ r) (codes ";" ∷ s) p q in (u.0, cons-tail_unique u.1)

  -- The thread of an initializer that is not one of the threads does not exist.
  not-ThreadExists-if_above_threads : (threads t r word : ℕ) (ts later after : TokenList) (e : InitializerSyntax)
      → IsInitializer arch ts (record { site = InThread t r; word = word }) later
      → threads ≤ t
      → IsInitializer arch ts e after
      → ThreadExists threads e.site
      → ⊥
  not-ThreadExists-if_above_threads threads t r word ts later after e is high also there =
      let u = IsInitializer-unique arch ts (record { site = InThread t r; word = word }) e later after is also in
      let low : t < threads = subst (λ (x : InitializerSyntax). ThreadExists threads x.site) (sym u.0) there in
      omega (arith, high, low)

  -- The first initializer whose thread does not exist is at one place.
  first_bad_thread-unique : (threads : ℕ) (front other : List InitializerSyntax) (inside rest place : TokenList)
      (t r word u v more : ℕ) (later after : TokenList)
      → ParsesMany Entry inside front rest
      → AllByRecursion (λ e. ThreadExists threads e.site) front
      → IsInitializer arch rest (record { site = InThread t r; word = word }) later
      → threads ≤ t
      → ParsesMany Entry inside other place
      → AllByRecursion (λ e. ThreadExists threads e.site) other
      → IsInitializer arch place (record { site = InThread u v; word = more }) after
      → threads ≤ u
      → rest ≡ place
  first_bad_thread-unique threads [] [] inside rest place t r word u v more later after p all is high q each also above =
      sym p ∙ q
  first_bad_thread-unique threads [] (y ∷ other) inside rest place t r word u v more later after p all is high q each also above =
      absurd (not-ThreadExists-if_above_threads threads t r word inside later (codes ";" ∷ q.0) y
      (subst (λ l. IsInitializer arch l (record { site = InThread t r; word = word }) later) (sym p) is) high q.1 each.0)
  first_bad_thread-unique threads (x ∷ front) [] inside rest place t r word u v more later after p all is high q each also above =
      absurd (not-ThreadExists-if_above_threads threads u v more inside after (codes ";" ∷ p.0) x
      (subst (λ l. IsInitializer arch l (record { site = InThread u v; word = more }) after) (sym q) also) above p.1 all.0)
  first_bad_thread-unique threads (x ∷ front) (y ∷ other) inside rest place t r word u v more later after p all is high q each also above =
      first_bad_thread-unique threads front other p.0 rest place t r word u v more later after p.2 all.1 is high
      (subst (λ l. ParsesMany Entry l other place) (sym (Entry-unique inside p.0 q.0 x y p.1 q.1).1) q.2) each.1 also above

  -- Where all threads of a block exist, none of its initializers has another.
  not-all_threads_exist : (threads : ℕ) (front es : List InitializerSyntax) (inside rest end : TokenList) (t r word : ℕ)
      (later : TokenList)
      → ParsesMany Entry inside front rest
      → IsInitializer arch rest (record { site = InThread t r; word = word }) later
      → threads ≤ t
      → ParsesSepEndBy (IsInitializer arch) (codes ";") (codes "}") inside es end
      → AllByRecursion (λ e. ThreadExists threads e.site) es
      → ⊥
  not-all_threads_exist threads [] [] inside rest end t r word later p is high block all =
      no_site (codes "}") refl arch rest end is.0 (InThread t r) (sym p ∙ block) is.1
  not-all_threads_exist threads [] (y ∷ es) inside rest end t r word later p is high block all =
      not-ThreadExists-if_above_threads threads t r word inside later block.0 y
      (subst (λ l. IsInitializer arch l (record { site = InThread t r; word = word }) later) (sym p) is) high block.1 all.0
  not-all_threads_exist threads (x ∷ front) [] inside rest end t r word later p is high block all =
      no_site (codes "}") refl arch inside end p.1.0 x.site block p.1.1
  not-all_threads_exist threads (x ∷ front) (y ∷ es) inside rest end t r word later p is high block all =
      let u = IsInitializer-unique arch inside x y (codes ";" ∷ p.0) block.0 p.1 block.1 in
      elim block.2 [
        | inl close ↦ not-equal-if_bytes_differ (codes ";") (codes "}") refl (cons-head_eq _ _ _ _ (u.1 ∙ close.1))
        | inr more ↦
            not-all_threads_exist threads front es p.0 rest end t r word later p.2 is high
            (subst (λ l. ParsesSepEndBy (IsInitializer arch) (codes ";") (codes "}") l es end)
            (sym (cons-tail_unique (u.1 ∙ more.1))) more.2) all.1
      ]

  -- A block and a header have unique parses.
  block_and_header-unique : (ts mid end after later : TokenList) (es fs : List InitializerSyntax) (n k : ℕ)
      → Block arch ts es mid
      → Block arch ts fs end
      → Header mid n after
      → Header end k later
      → (es ≡ fs) × (n ≡ k) × (after ≡ later)
  block_and_header-unique ts mid end after later es fs n k block also header too =
      let u = Block-unique arch ts es fs mid end block also in
      let v = Names-unique 0 n k mid after later header.0 (subst (λ l. Names 0 k l later) (sym u.1) too.0) in
      (u.0, v.0, v.1)

  -- If tokens parse as a block and then a header, no header fails after a block of the same tokens.
  not-FailsInHeader-if_after_block : (ts mid end rest after : TokenList) (cause : TextCause) (es fs : List InitializerSyntax)
      (n : ℕ)
      → Block arch ts es mid
      → FailsInHeader rest cause 0 mid
      → Block arch ts fs end
      → Header end n after
      → ⊥
  not-FailsInHeader-if_after_block ts mid end rest after cause es fs n block fails also header =
      not-FailsInHeader-if_parsed rest cause 0 n mid after fails
      (subst (λ l. Names 0 n l after) (sym (Block-unique arch ts es fs mid end block also).1) header.0) (omega (arith, header.1))

  -- The block and the header of a test are read in one way.
  ReadsHeader-unique : {ts : TokenList} (h k : ReadsHeader arch ts)
      → (h.initializers ≡ k.initializers) × (h.threads ≡ k.threads) × (h.after_header ≡ k.after_header)
  ReadsHeader-unique {ts} h k =
      block_and_header-unique ts h.after_block k.after_block h.after_header k.after_header h.initializers k.initializers h.threads
      k.threads h.block.0 k.block.0 h.header k.header

  -- So the rows after one reading of them are the rows after the other.
  Rows-after_same_header : {ts : TokenList} (h k : ReadsHeader arch ts) (rows : CellGrid) (after : TokenList)
      → Rows k.threads k.after_header rows after
      → Rows h.threads h.after_header rows after
  Rows-after_same_header h k rows after read =
      let same = ReadsHeader-unique h k in
      subst (λ (n : ℕ). Rows n h.after_header rows after) (sym same.1)
      (subst (λ l. Rows k.threads l rows after) (sym same.2) read)

  -- If the block was read, it does not fail.
  not-FailsInBlock-if_header_read : {ts rest : TokenList} {cause : TextCause} (h : ReadsHeader arch ts)
      → FailsInBlock arch [] ts rest cause
      → ⊥
  not-FailsInBlock-if_header_read {ts} {rest} {cause} h fails =
      not-FailsInBlock-if_parsed arch [] ts rest h.after_block cause h.initializers fails h.block.0 h.block.1

  -- If the header was read, it does not fail after the block.
  not-FailsInHeader-if_header_read : {ts rest after : TokenList} {cause : TextCause} (h : ReadsHeader arch ts)
      (es : List InitializerSyntax)
      → ReadsBlock arch ts es after
      → FailsInHeader rest cause 0 after
      → ⊥
  not-FailsInHeader-if_header_read {ts} {rest} {after} {cause} h es block fails =
      not-FailsInHeader-if_after_block ts after h.after_block rest h.after_header cause es h.initializers h.threads block.0 fails
      h.block.0 h.header

  -- The first initializer whose thread does not exist is at one place.
  HasMissingThread-unique : {ts rest place : TokenList} {threads : ℕ}
      → HasMissingThread arch ts rest threads
      → HasMissingThread arch ts place threads
      → rest ≡ place
  HasMissingThread-unique {ts} {rest} {place} {threads} p q =
      first_bad_thread-unique threads p.earlier q.earlier p.inside rest place p.thread p.register p.word q.thread q.register
      q.word p.after q.after p.read p.earlier_exist p.first p.missing
      (subst (λ l. ParsesMany Entry l q.earlier place) (sym (cons-tail_unique (sym p.opens ∙ q.opens))) q.read) q.earlier_exist
      q.first q.missing

  -- No initializer has a thread that does not exist, if all threads exist.
  not-HasMissingThread-if_have_threads : {ts rest : TokenList} (h k : ReadsHeader arch ts)
      → HasMissingThread arch ts rest h.threads
      → HaveThreads k.threads k.initializers
      → ⊥
  not-HasMissingThread-if_have_threads {ts} {rest} h k m all =
      not-all_threads_exist h.threads m.earlier k.initializers m.inside rest k.after_block m.thread m.register m.word m.after
      m.read m.first m.missing
      (subst (λ l. ParsesSepEndBy (IsInitializer arch) (codes ";") (codes "}") l k.initializers k.after_block)
      (sym (cons-tail_unique (sym m.opens ∙ k.block.0.1))) k.block.0.2)
      (subst (λ (n : ℕ). HaveThreads n k.initializers) (sym (ReadsHeader-unique h k).1) all)

  -- No row fails, if the rows were read.
  not-FailsInRows-if_rows_read : {ts rest : TokenList} {cause : TextCause} (h k : ReadsHeader arch ts) (rows : CellGrid)
      (after : TokenList)
      → FailsInRows h.threads rest cause 0 h.after_header
      → Rows k.threads k.after_header rows after
      → ⊥
  not-FailsInRows-if_rows_read {ts} {rest} {cause} h k rows after fails are =
      let read = Rows-after_same_header h k rows after are in
      not-FailsInRows-if_parsed h.threads rest cause 0 h.after_header after rows fails read.0 (omega (arith, read.1))

  -- Tokens fail to be a test at one place only, and for one cause.
  pub FailsInTest-unique : FailsUniquely (FailsInTest arch)
  FailsInTest-unique ts r s d e (in_block p) (in_block q) = FailsInBlock-unique arch [] ts r s d e p q
  FailsInTest-unique ts r s d e (in_block p) (in_header es after block q) =
      absurd (not-FailsInBlock-if_parsed arch [] ts r after d es p block.0 block.1)
  FailsInTest-unique ts r s d e (in_block p) (no_such_thread h m c) = absurd (not-FailsInBlock-if_header_read h p)
  FailsInTest-unique ts r s d e (in_block p) (in_rows h all q) = absurd (not-FailsInBlock-if_header_read h p)
  FailsInTest-unique ts r s d e (in_block p) (in_question h rows after all are q) = absurd (not-FailsInBlock-if_header_read h p)
  FailsInTest-unique ts r s d e (in_header es after block q) (in_block p) =
      absurd (not-FailsInBlock-if_parsed arch [] ts s after e es p block.0 block.1)
  FailsInTest-unique ts r s d e (in_header es after block p) (in_header fs end also q) =
      FailsInHeader-unique r s d e 0 after p
      (subst (FailsInHeader s e 0) (sym (Block-unique arch ts es fs after end block.0 also.0).1) q)
  FailsInTest-unique ts r s d e (in_header es after block p) (no_such_thread h m c) =
      absurd (not-FailsInHeader-if_header_read h es block p)
  FailsInTest-unique ts r s d e (in_header es after block p) (in_rows h all q) =
      absurd (not-FailsInHeader-if_header_read h es block p)
  FailsInTest-unique ts r s d e (in_header es after block p) (in_question h rows end all are q) =
      absurd (not-FailsInHeader-if_header_read h es block p)
  FailsInTest-unique ts r s d e (no_such_thread h m c) (in_block q) = absurd (not-FailsInBlock-if_header_read h q)
  FailsInTest-unique ts r s d e (no_such_thread h m c) (in_header es after block q) =
      absurd (not-FailsInHeader-if_header_read h es block q)
  FailsInTest-unique ts r s d e (no_such_thread h m c) (no_such_thread k n b) =
      let same = subst (HasMissingThread arch ts s) (sym (ReadsHeader-unique h k).1) n in
      (HasMissingThread-unique m same, λ some. c ∙ sym b)
  FailsInTest-unique ts r s d e (no_such_thread h m c) (in_rows k all q) = absurd (not-HasMissingThread-if_have_threads h k m all)
  FailsInTest-unique ts r s d e (no_such_thread h m c) (in_question k rows after all are q) =
      absurd (not-HasMissingThread-if_have_threads h k m all)
  FailsInTest-unique ts r s d e (in_rows h all p) (in_block q) = absurd (not-FailsInBlock-if_header_read h q)
  FailsInTest-unique ts r s d e (in_rows h all p) (in_header es after block q) =
      absurd (not-FailsInHeader-if_header_read h es block q)
  FailsInTest-unique ts r s d e (in_rows h all p) (no_such_thread k m c) = absurd (not-HasMissingThread-if_have_threads k h m all)
  FailsInTest-unique ts r s d e (in_rows h all p) (in_rows k every q) =
      let same = ReadsHeader-unique h k in
      FailsInRows-unique h.threads r s d e 0 h.after_header p
      (subst (λ (n : ℕ). FailsInRows n s e 0 h.after_header) (sym same.1) (subst (FailsInRows k.threads s e 0) (sym same.2) q))
  FailsInTest-unique ts r s d e (in_rows h all p) (in_question k rows after every are q) =
      absurd (not-FailsInRows-if_rows_read h k rows after p are)
  FailsInTest-unique ts r s d e (in_question h rows after all are p) (in_block q) = absurd (not-FailsInBlock-if_header_read h q)
  FailsInTest-unique ts r s d e (in_question h rows end all are p) (in_header es after block q) =
      absurd (not-FailsInHeader-if_header_read h es block q)
  FailsInTest-unique ts r s d e (in_question h rows after all are p) (no_such_thread k m c) =
      absurd (not-HasMissingThread-if_have_threads k h m all)
  FailsInTest-unique ts r s d e (in_question h rows after all are p) (in_rows k every q) =
      absurd (not-FailsInRows-if_rows_read k h rows after q are)
  FailsInTest-unique ts r s d e (in_question h rows after all are p) (in_question k lines end every too q) =
      let same = ReadsHeader-unique h k in
      let u = Rows-unique h.threads h.after_header after end rows lines are (Rows-after_same_header h k lines end too) in
      FailsInQuestion-unique arch h.threads (with_sites [] (sites_of h.initializers)) after r s d e p
      (subst (λ l. FailsInQuestion arch h.threads (with_sites [] (sites_of h.initializers)) l s e) (sym u.1)
      (subst (λ xs. FailsInQuestion arch h.threads (with_sites [] (sites_of xs)) end s e) (sym same.0)
      (subst (λ (n : ℕ). FailsInQuestion arch n (with_sites [] (sites_of k.initializers)) end s e) (sym same.1) q)))

  -- The block and the header of a test are read.
  abbrev header_of_test : (ts : TokenList) (s : TestSyntax) → ParsesTest arch ts s → ReadsHeader arch ts
  header_of_test ts s p = record {
    initializers = s.initializers;
    after_block = p.after_block;
    threads = s.threads;
    after_header = p.after_header;
    block = (p.block, HasRoomFor-initial_block arch ts s p);
    header = p.header;
  }

  -- Tests do not fail.
  pub not-FailsInTest-if_parsed : (ts rest : TokenList) (cause : TextCause)
      → FailsInTest arch ts rest cause
      → ParsesNoTest arch ts
  not-FailsInTest-if_parsed ts rest cause (in_block fails) s f p whole =
      not-FailsInBlock-if_header_read (header_of_test ts s p) fails
  not-FailsInTest-if_parsed ts rest cause (in_header es after block fails) s f p whole =
      not-FailsInHeader-if_header_read (header_of_test ts s p) es block fails
  not-FailsInTest-if_parsed ts rest cause (no_such_thread h m c) s f p whole =
      not-HasMissingThread-if_have_threads h (header_of_test ts s p) m p.threads_exist
  not-FailsInTest-if_parsed ts rest cause (in_rows h all fails) s f p whole =
      no_test-if_no_rows arch ts h.after_block h.initializers h.block.0 h.threads h.after_header h.header
      (λ rows end read.
      not-FailsInRows-if_parsed h.threads rest cause 0 h.after_header end rows fails read.0 (omega (arith, read.1))) s p
  not-FailsInTest-if_parsed ts rest cause (in_question h rows after all are fails) s f p whole =
      no_test-if_no_question arch ts h.after_block h.initializers h.block.0 h.threads h.after_header h.header rows after are
      (with_sites [] (sites_of h.initializers)) refl
      (not-FailsInQuestion-if_parsed arch h.threads (with_sites [] (sites_of h.initializers)) after rest cause fails) s f p whole
