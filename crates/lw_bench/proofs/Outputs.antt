-- What holds of the whole input, from what holds of the bytes that were read: if they are few enough, they are the input, and otherwise the
-- input is too long to be a test. Runs proves the whole run by this.
use Rattle.lw_bench.proofs.Common.{most_read_bytes, ◌≡◌, ◌≤◌, ◌⊎◌, inl, inr, ℕ, Option, Some, None, List, []}
use Rattle.lw_bench.proofs.Common.{◌++◌, length, sym, ap, ◌∙◌, subst, arith, append-nil, Appends, IsInput}
use Rattle.lw_bench.proofs.Common.{LitmusTest, HasTest, IsOutputOf, Writes}

-- Bytes that were read: the whole input, or more than a test has.
module _ (input bytes : List ℕ)
    (is : (rest : List ℕ) × (input ≡ bytes ++ rest) × ((rest ≡ []) ⊎ (length bytes ≡ most_read_bytes))) where
  -- Bytes that are not too many for a test are the whole input.
  pub input_is_whole : length bytes ≤ 65536 → bytes ≡ input
  input_is_whole short = go is.2
    where
      -- By whether the input has ended, or has as many bytes as are read.
      go : (is.0 ≡ []) ⊎ (length bytes ≡ most_read_bytes) → bytes ≡ input
      go (inl none) = sym (is.1 ∙ ap (λ rest. bytes ++ rest) none ∙ append-nil bytes)
      go (inr long) = absurd (omega arith)

  -- Each test of the bytes is a test of the whole input.
  pub HasTest-in_whole_input : (test : LitmusTest) → HasTest bytes test → HasTest input test
  HasTest-in_whole_input test has = subst (λ t. HasTest t test) (input_is_whole has.has_frame.short) has

-- If the bytes read are the input, as far as it may be read, and what was appended is an output of them, it is an output of the
-- input's test.
pub Writes-of_output : (IsMade : LitmusTest → List ℕ → Type 0) (known before after : Option (List ℕ)) (bytes made : List ℕ)
    → IsInput known bytes
    → IsOutputOf IsMade bytes made
    → Appends before after made
    → Writes IsMade known before after
Writes-of_output IsMade None before after bytes made is makes put = tt
Writes-of_output IsMade (Some input) before after bytes made is makes put = (
  made,
  record { test = makes.test; has_test = HasTest-in_whole_input _ bytes is _ makes.has_test; is_made = makes.is_made },
  put,
)
