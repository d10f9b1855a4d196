-- Sums of words, and changes of a location's word.
use Rattle.std.specs.Prelude.{ℕ, ◌+◌, ◌^◌, ◌%◌, Option, Some, None, List, slice_index, slice_set}
use Rattle.lw_base.specs.declared.change.Change.{Change}
use Rattle.lw_base.specs.declared.change.Change.TheVariants.{Put, Add}

-- The sum of two words, modulo 2^32.
abbrev pub wrapping_sum : ℕ → ℕ → ℕ
wrapping_sum a b = (a + b) % 2 ^ 32

-- The word after a change, from the word before.
abbrev pub changed_word : Change → ℕ → ℕ
changed_word (Put w) old = w
changed_word (Add w) old = wrapping_sum old w

-- The words of all locations after a change of the word at this index.
abbrev pub apply_change : List ℕ → ℕ → Change → List ℕ
apply_change words x change = slice_set words x (changed_word change (slice_index words x))

-- The word of the location at an index; 0 if no index is given.
abbrev pub word_or_zero : Option ℕ → List ℕ → ℕ
word_or_zero None words = 0
word_or_zero (Some x) words = slice_index words x

-- The words of all locations after a change of the word at an index. Unchanged if there is no index or no change.
abbrev pub apply_change_if_some : Option ℕ → Option Change → List ℕ → List ℕ
apply_change_if_some (Some x) (Some change) words = apply_change words x change
apply_change_if_some x change words = words
