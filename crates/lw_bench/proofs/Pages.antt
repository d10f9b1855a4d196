-- The page of a replay, written part by part, is the page of the definitions: `AllWritten` is the invariant
-- of each loop that writes an item for each index, and the other lemmas join the parts.
use Rattle.lw_bench.proofs.Common.{byte, registers, ◌≡◌, ℕ, suc, ◌<◌, ◌≤◌, ◌+◌, Some, List, [], ◌∷◌, ◌++◌}
use Rattle.lw_bench.proofs.Common.{length, map, drop, slice_get, refl, sym, ap, ◌∙◌, append_assoc, codes}
use Rattle.lw_bench.proofs.Common.{Result, Ok, Err, OnOk, is_ok, if◌then◌else◌, arith, option_map, decimal}
use Rattle.lw_bench.proofs.Common.{append-nil, drop-cons, drop_all, slice_get-map, slice_get_within}
use Rattle.lw_bench.proofs.Common.{get_or_from_slice_get, on_ok_weaker, written-append, TestHead, Arch}
use Rattle.lw_bench.proofs.Common.{Replay, Stop, End, Stopped, register_name, stop_code, stop_name, State}
use Rattle.lw_bench.proofs.Common.{Thread, Processor, LineState, numbered, first_lines, end_text}
use Rattle.lw_bench.proofs.Common.{register_names, thread_line, word_line, processor_title, processor_lines}
use Rattle.lw_bench.proofs.Common.{source_page, machine_page}

-- The items from an index on are the item there, followed by those from the next index on.
drop-get : {X : Type 0} (xs : List X) (k : ℕ) (x : X) → slice_get xs k ≡ Some x → drop k xs ≡ x ∷ drop (k + 1) xs
drop-get xs k x at =
    let next : suc k ≡ k + 1 = omega arith in
    drop-cons xs k x (slice_get_within xs k x at)
    ∙ ap (λ y. y ∷ drop (suc k) xs) (get_or_from_slice_get xs k x x at)
    ∙ ap (λ (n : ℕ). x ∷ drop n xs) next

-- The item at an index of a mapped list is the image of the item there.
pub slice_get-map_value : {X Y : Type 0} (f : X → Y) (xs : List X) (k : ℕ) (x : X) (y : Y)
    → slice_get xs k ≡ Some x
    → slice_get (map f xs) k ≡ Some y
    → y ≡ f x
slice_get-map_value {X} {Y} f xs k x y at read =
    let e : Some (f x) ≡ Some y = sym (slice_get-map f xs k ∙ ap (option_map f) at) ∙ read in cc

-- Items are written in sequence, each with its index: `out` followed by the texts of those from k on is `start` followed by the texts of
-- all.
pub record AllWritten {X : Type 0} (text_of : ℕ → X → List ℕ) (xs : List X) (start : List ℕ) (k : ℕ) (out : List ℕ) : Type 0 where
  pub left : out ++ numbered text_of k (drop k xs) ≡ start ++ numbered text_of 0 xs

module _ {X : Type 0} {text_of : ℕ → X → List ℕ} {xs : List X} {start out : List ℕ} {k : ℕ}
    (told : AllWritten text_of xs start k out) where
  -- Writing the text of the item at k extends the first k items written to `k + 1`.
  pub AllWritten-step : (x : X) (part new : List ℕ)
      → slice_get xs k ≡ Some x
      → part ≡ text_of k x
      → new ≡ out ++ part
      → AllWritten text_of xs start (k + 1) new
  AllWritten-step x part new at is written = record {
    left =
        ap (λ t. t ++ rest) written
        ∙ append_assoc out part rest
        ∙ ap (λ t. out ++ t) (ap (λ t. t ++ rest) is ∙ sym numbered-split)
        ∙ told.left;
  }
    where
      -- The texts of the items after the one at k.
      rest : List ℕ
      rest = numbered text_of (k + 1) (drop (k + 1) xs)

      -- The texts from k on are the text of the item at k, followed by those of the rest.
      numbered-split : numbered text_of k (drop k xs) ≡ text_of k x ++ rest
      numbered-split =
          ap (numbered text_of k) (drop-get xs k x at)
          ∙ ap (λ (n : ℕ). text_of k x ++ numbered text_of n (drop (k + 1) xs)) (let e : suc k ≡ k + 1 = omega arith in e)

  -- If all items are written, `out` is `start` followed by the texts of all.
  pub whole_text-AllWritten : length xs ≤ k → out ≡ start ++ numbered text_of 0 xs
  whole_text-AllWritten whole =
      sym (append-nil out) ∙ ap (λ (rest : List X). out ++ numbered text_of k rest) (sym (drop_all k xs whole)) ∙ told.left

-- If a title, then the parts, and then the line's end were written, the whole line was.
pub OnOk-line_with_title : {T E : Type 0} {first out new whole : List ℕ} (answer : Result T E) (start title parts : List ℕ)
    → first ≡ start ++ title
    → out ≡ first ++ parts
    → title ++ (parts ++ byte "\n" ∷ []) ≡ whole
    → new ≡ (if is_ok answer then out ++ byte "\n" ∷ [] else out)
    → OnOk answer (new ≡ start ++ whole)
OnOk-line_with_title (Err x) start title parts begun told is ended = tt
OnOk-line_with_title (Ok x) start title parts begun told is ended =
    ended
    ∙ ap (λ t. t ++ byte "\n" ∷ []) (told ∙ ap (λ t. t ++ parts) begun)
    ∙ append_assoc (start ++ title) parts (byte "\n" ∷ [])
    ∙ append_assoc start title (parts ++ byte "\n" ∷ [])
    ∙ ap (λ t. start ++ t) is

-- A processor's title is `P`, its number and a word, and the rest of the line follows.
pub processor_title-append : (cpu : ℕ) (word rest : List ℕ)
    → (byte "P" ∷ (decimal cpu ++ word)) ++ rest ≡ processor_title cpu (word ++ rest)
processor_title-append cpu word rest = ap (λ t. byte "P" ∷ t) (append_assoc (decimal cpu) word rest)

-- Three parts written in turn are their concatenation.
pub written-three_parts : {one two new : List ℕ} (start a b c : List ℕ)
    → one ≡ start ++ a
    → two ≡ one ++ b
    → new ≡ two ++ c
    → new ≡ start ++ (a ++ (b ++ c))
written-three_parts {one} {two} {new} start a b c e f g =
    written-append _ two new _ c (written-append _ one two a b e f) g ∙ ap (λ t. start ++ t) (append_assoc a b c)

-- In the list of a language's register names, the name of register k is at index k.
pub register_names-get : (arch : Arch) (k : ℕ) → k < registers → slice_get (register_names arch) k ≡ Some (register_name arch k)
register_names-get arch (suc (suc (suc (suc (suc (suc k)))))) below = absurd (omega (arith, below))
register_names-get arch _ below = refl

-- Concatenation of five parts and a rest is associative.
append-assoc_five : (a b c d e rest : List ℕ) → (a ++ (b ++ (c ++ (d ++ e)))) ++ rest ≡ a ++ (b ++ (c ++ (d ++ (e ++ rest))))
append-assoc_five a b c d e rest = simp append_assoc

-- The first lines of a page, as they are written, are those of the replay.
pub first_lines-written : (head : TestHead) (r : Replay) (name : List ℕ)
    → name ≡ head.name
    → (codes "Test " ++ (name ++ (codes "\nSteps " ++ (decimal r.done ++ codes "\nEnd "))))
    ++ (end_text r.done r.end ++ codes "\n")
    ≡ first_lines head r
first_lines-written head r name is =
    rw is
    (append-assoc_five (codes "Test ") head.name (codes "\nSteps ") (decimal r.done) (codes "\nEnd ")
    (end_text r.done r.end ++ codes "\n"))

-- If the text of an end was written, and the replay ended so, the text of the replay's end was written.
pub end_line-written : {T E : Type 0} {end known : End} (answer : Result T E) (start new text : List ℕ) (done : ℕ)
    → end ≡ known
    → text ≡ end_text done known ++ codes "\n"
    → OnOk answer (new ≡ start ++ text)
    → OnOk answer (new ≡ start ++ (end_text done end ++ codes "\n"))
end_line-written answer start new text done is told written =
    on_ok_weaker answer (λ e. e ∙ ap (λ t. start ++ t) (told ∙ ap (λ (e : End). end_text done e ++ codes "\n") (sym is))) written

-- The text written for a refused event, with its code and name, is that of the end.
pub end_text-Stopped : (done number : ℕ) (name : List ℕ) (stop : Stop) (end : End)
    → end ≡ Stopped stop
    → number ≡ stop_code stop
    → name ≡ stop_name stop
    → codes "Stopped at " ++ (decimal done ++ (codes " by " ++ (decimal number ++ (codes " " ++ (name ++ codes "\n")))))
    ≡ end_text done end ++ codes "\n"
end_text-Stopped done number name stop end e n m =
    rw (e, n, m)
    (sym (append-assoc_five (codes "Stopped at ") (decimal done) (codes " by ") (decimal (stop_code stop))
    (byte " " ∷ stop_name stop) (byte "\n" ∷ [])))

-- ---- a page, by its parts

-- The text of a source test's page, from `start`: the first lines, the threads, and the words.
pub record SourceParts (head : TestHead) (r : Replay) (s : State) (start new : List ℕ) : Type 0 where
  pub after_first_lines : List ℕ
  pub after_threads : List ℕ
  pub words : List ℕ
  pub first_lines_are : after_first_lines ≡ start ++ first_lines head r
  pub threads_are : after_threads
      ≡ after_first_lines ++ numbered (λ t (th : Thread). thread_line head.arch t th.position th.regs) 0 s.threads
  pub memory_line_is : new ≡ after_threads ++ word_line (codes "Memory") head.locs words
  pub is_memory : words ≡ s.words

-- The parts of a page in sequence are the page of a source test.
pub source_page-SourceParts : (head : TestHead) (r : Replay) (s : State) (start new : List ℕ)
    → SourceParts head r s start new
    → new ≡ start ++ source_page head r s
source_page-SourceParts head r s start new parts =
    let line = word_line (codes "Memory") head.locs in
    written-three_parts start _ _ (line s.words) parts.first_lines_are parts.threads_are
    (parts.memory_line_is ∙ ap (λ (ws : List ℕ). parts.after_threads ++ line ws) parts.is_memory)

-- The text of an x86 test's page, from `start`: the first lines, the processors, memory's words, and the content.
pub record MachineParts (head : TestHead) (r : Replay) (processors : List Processor) (held : ℕ → ℕ → LineState)
    (memory content start new : List ℕ) : Type 0 where
  pub after_first_lines : List ℕ
  pub after_processors : List ℕ
  pub after_memory : List ℕ
  pub memory_words : List ℕ
  pub content_words : List ℕ
  pub first_lines_are : after_first_lines ≡ start ++ first_lines head r
  pub processors_are : after_processors ≡ after_first_lines ++ numbered (processor_lines head held) 0 processors
  pub memory_line_is : after_memory ≡ after_processors ++ word_line (codes "Memory") head.locs memory_words
  pub content_line_is : new ≡ after_memory ++ word_line (codes "Content") head.locs content_words
  pub is_memory : memory_words ≡ memory
  pub is_content : content_words ≡ content

-- The parts of a page in sequence are the page of an x86 test.
pub machine_page-MachineParts : (head : TestHead) (r : Replay) (processors : List Processor) (held : ℕ → ℕ → LineState)
    (memory content start new : List ℕ)
    → MachineParts head r processors held memory content start new
    → new ≡ start ++ machine_page head r processors held memory content
machine_page-MachineParts head r processors held memory content start new parts =
    let first = word_line (codes "Memory") head.locs in
    let second = word_line (codes "Content") head.locs in
    let all = numbered (processor_lines head held) 0 processors in
    let after =
    written-three_parts parts.after_first_lines all (first memory) _ parts.processors_are
    (parts.memory_line_is ∙ ap (λ (ws : List ℕ). parts.after_processors ++ first ws) parts.is_memory)
    (parts.content_line_is ∙ ap (λ (ws : List ℕ). parts.after_memory ++ second ws) parts.is_content) in
    written-append start parts.after_first_lines new (first_lines head r) (all ++ (first memory ++ second content))
    parts.first_lines_are after
