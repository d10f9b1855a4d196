-- Of a text at most one fault is true, whether of the text itself or of a cell: a text with a fault of a cell
-- has a frame, so it does not fail as a text. The law on faults cites it.
use Rattle.lw_bench.proofs.Common.{◌≡◌, ◌≢◌, ◌<◌, ℕ, length, refl, sym, ap, ◌∙◌, subst, arith, IsUtf8, Bytes}
use Rattle.lw_bench.proofs.Common.{most_text_bytes, CellFault, FailsAt, TextCause, TextFault, TextFaultIsTrue}
use Rattle.lw_bench.proofs.Common.{CellFaultIsTrueOf, ReadFaultIsTrue, IsFaultOfText, BenchFault, Text, Cell}
use Rattle.lw_bench.proofs.Common.{Schedule, Limit, Memory, Read, Write}
use Rattle.lw_text.specs.declared.fault.TextCause.TheVariants as text

-- Faults of texts with the same place and cause are equal.
BenchFault-equal : (f g : TextFault) → f.at ≡ g.at → f.cause ≡ g.cause → f ≡ g
BenchFault-equal f g at cause =
    ap (λ (n : ℕ). let t : TextFault = record { at = n; cause = f.cause } in t) at
    ∙ ap (λ (c : TextCause). let t : TextFault = record { at = g.at; cause = c } in t) cause

-- A cause is that of a text that is too long, or of one that is not UTF-8, or another.
data CauseKind (c : TextCause) : Type 0 where
  long : c ≡ text.TooLong → CauseKind c
  encoded : c ≡ text.NotUtf8 → CauseKind c
  another : c ≢ text.TooLong → c ≢ text.NotUtf8 → CauseKind c

-- Each cause is of one of the kinds.
CauseKind-of_cause : (c : TextCause) → CauseKind c
CauseKind-of_cause text.TooLong = long refl
CauseKind-of_cause text.NotUtf8 = encoded refl
CauseKind-of_cause text.Unterminated = another (λ e. cc) (λ e. cc)
CauseKind-of_cause text.Unexpected = another (λ e. cc) (λ e. cc)
CauseKind-of_cause text.Number = another (λ e. cc) (λ e. cc)
CauseKind-of_cause text.Name = another (λ e. cc) (λ e. cc)
CauseKind-of_cause text.Ragged = another (λ e. cc) (λ e. cc)
CauseKind-of_cause text.TooManyThreads = another (λ e. cc) (λ e. cc)
CauseKind-of_cause text.TooManyRows = another (λ e. cc) (λ e. cc)
CauseKind-of_cause text.TooManyLocations = another (λ e. cc) (λ e. cc)
CauseKind-of_cause text.Condition = another (λ e. cc) (λ e. cc)
CauseKind-of_cause text.Memory = another (λ e. cc) (λ e. cc)

module _ (one_place : (bytes : Bytes) (m n : ℕ) (c d : TextCause) → FailsAt bytes m c → FailsAt bytes n d → (m ≡ n) × (c ≡ d))
    (one_cell : (bytes : Bytes) (f g : CellFault) → CellFaultIsTrueOf bytes f → CellFaultIsTrueOf bytes g → f ≡ g)
    (bytes : Bytes) where
  -- At most one fault of a text is true.
  TextFaultIsTrue-unique : (f g : TextFault) → TextFaultIsTrue bytes f → TextFaultIsTrue bytes g → f ≡ g
  TextFaultIsTrue-unique f g p q = faults_equal-by_kinds (CauseKind-of_cause f.cause) (CauseKind-of_cause g.cause)
    where
      -- Two true faults of a text are equal, by the kinds of their causes.
      faults_equal-by_kinds : CauseKind f.cause → CauseKind g.cause → f ≡ g
      faults_equal-by_kinds (long e) d = let more = p.only_too_long e in p.too_long more ∙ sym (q.too_long more)
      faults_equal-by_kinds (encoded e) d = let is = p.only_not_utf8 e in p.not_utf8 is.0 is.1 ∙ sym (q.not_utf8 is.0 is.1)
      faults_equal-by_kinds (another a b) (long e) = let more = q.only_too_long e in p.too_long more ∙ sym (q.too_long more)
      faults_equal-by_kinds (another a b) (encoded e) =
          let is = q.only_not_utf8 e in p.not_utf8 is.0 is.1 ∙ sym (q.not_utf8 is.0 is.1)
      faults_equal-by_kinds (another a b) (another x y) =
          let u = one_place bytes f.at g.at f.cause g.cause (p.fails a b) (q.fails x y) in BenchFault-equal f g u.0 u.1

  -- At most one fault of a text or of a cell is true.
  pub ReadFaultIsTrue-unique : (f g : BenchFault)
      → IsFaultOfText f
      → IsFaultOfText g
      → ReadFaultIsTrue bytes f
      → ReadFaultIsTrue bytes g
      → f ≡ g
  ReadFaultIsTrue-unique (Text f) (Text g) a b p q = ap Text (TextFaultIsTrue-unique f g p q)
  ReadFaultIsTrue-unique (Text f) (Cell g) a b p q = absurd (p.none q.frame q.has_frame)
  ReadFaultIsTrue-unique (Cell f) (Text g) a b p q = absurd (q.none p.frame p.has_frame)
  ReadFaultIsTrue-unique (Cell f) (Cell g) a b p q = ap Cell (one_cell bytes f g p q)
  ReadFaultIsTrue-unique (Schedule f) g a b p q = absurd a
  ReadFaultIsTrue-unique (Limit f) g a b p q = absurd a
  ReadFaultIsTrue-unique Memory g a b p q = absurd a
  ReadFaultIsTrue-unique Read g a b p q = absurd a
  ReadFaultIsTrue-unique Write g a b p q = absurd a
  ReadFaultIsTrue-unique (Text f) (Schedule g) a b p q = absurd b
  ReadFaultIsTrue-unique (Text f) (Limit g) a b p q = absurd b
  ReadFaultIsTrue-unique (Text f) Memory a b p q = absurd b
  ReadFaultIsTrue-unique (Text f) Read a b p q = absurd b
  ReadFaultIsTrue-unique (Text f) Write a b p q = absurd b
  ReadFaultIsTrue-unique (Cell f) (Schedule g) a b p q = absurd b
  ReadFaultIsTrue-unique (Cell f) (Limit g) a b p q = absurd b
  ReadFaultIsTrue-unique (Cell f) Memory a b p q = absurd b
  ReadFaultIsTrue-unique (Cell f) Read a b p q = absurd b
  ReadFaultIsTrue-unique (Cell f) Write a b p q = absurd b
