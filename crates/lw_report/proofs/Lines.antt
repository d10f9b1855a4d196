-- The lines of a report, written part by part, are those of the definitions. Lemmas for `line.rt`,
-- `report.rt` and `marks.rt`: each formatted text is a concatenation, regrouped.
use Rattle.lw_report.proofs.Common.{mark_text, marked_line, ◌≡◌, ℕ, suc, slice_get, Some, ◌<◌, ◌≤◌, ◌+◌, List}
use Rattle.lw_report.proofs.Common.{[], ◌∷◌, ◌++◌, length, map, min, take, drop, get_or, refl, sym, ap, ◌∙◌}
use Rattle.lw_report.proofs.Common.{append_assoc, codes, length-take, arith, zip, flat_map, decimal, take_all}
use Rattle.lw_report.proofs.Common.{length-map, map-append, take_more, get_or_from_slice_get, min-le_left}
use Rattle.lw_report.proofs.Common.{min-le_right, get_or_default_zero, length-zip, get_or-zip}
use Rattle.lw_report.proofs.Common.{items_written-push, items_written-all, Bytes, register_name}
use Rattle.lw_report.proofs.Common.{condition_text, TestHead, joined, Seen, Register, Location, gap, label}
use Rattle.lw_report.proofs.Common.{labels, labelled_word, labelled_words, positive, negative, verdict_of}
use Rattle.lw_report.proofs.Common.{kind_text, verdict_text, word_text, state_line, title_line, count_line}
use Rattle.lw_report.proofs.Common.{observation_line, claim_line, judgement_lines, report_text, Claim}
use Rattle.lw_report.proofs.Common.{observed, ProjectedState, ListedState, projection_of}

-- The label of a name with its word is the prefix and the text of the name with its word.
labelled_word-label : (head : TestHead) (before : Bytes) (s : Seen) (w : ℕ)
    → labelled_word (label head before s, w) ≡ before ++ word_text head (s, w)
labelled_word-label head before s w = simp append_assoc

-- The words after the first, each after a space, as they are written.
labelled_words-after_first : (head : TestHead) (names : List Seen) (words : List ℕ)
    → flat_map labelled_word (zip (map (label head (codes " ")) names) words)
    ≡ flat_map (λ next. codes " " ++ next) (map (word_text head) (zip names words))
labelled_words-after_first head (s ∷ names) (w ∷ words) =
    ap (λ t. t ++ flat_map labelled_word (zip (map (label head (codes " ")) names) words))
    (labelled_word-label head (codes " ") s w)
    ∙ ap (λ t. (codes " " ++ word_text head (s, w)) ++ t) (labelled_words-after_first head names words)
labelled_words-after_first head _ _ = refl

-- All words of a state after their labels are its words separated by spaces.
labelled_words-joined : (head : TestHead) (names : List Seen) (words : List ℕ)
    → labelled_words (labels head names) words ≡ joined (codes " ") (map (word_text head) (zip names words))
labelled_words-joined head (s ∷ names) (w ∷ words) =
    ap (λ t. t ++ flat_map labelled_word (zip (map (label head (codes " ")) names) words)) (labelled_word-label head [] s w)
    ∙ ap (λ t. word_text head (s, w) ++ t) (labelled_words-after_first head names words)
labelled_words-joined head _ _ = refl

-- If `names` are the labels of the observed names, the words after these labels, and the line's end, are the state's line.
pub state_line-of_labels : (head : TestHead) (names : List Bytes) (words : List ℕ)
    → names ≡ labels head (observed head)
    → labelled_words names words ++ codes "\n" ≡ state_line head words
state_line-of_labels head names words are =
    ap (λ ns. labelled_words ns words ++ codes "\n") are ∙ ap (λ t. t ++ codes "\n") (labelled_words-joined head _ words)

-- The line of a state, written label by label, is the line of its words.
pub state_line-written : (head : TestHead) (names : List Bytes) (ws words : List ℕ) (out new : Bytes)
    → new ≡ out ++ (labelled_words names ws ++ codes "\n")
    → names ≡ labels head (observed head)
    → ws ≡ words
    → new ≡ out ++ state_line head words
state_line-written head names ws words out new written are same =
    written ∙ ap (λ t. out ++ t) (state_line-of_labels head names ws are ∙ ap (state_line head) same)

-- ---- The text of a label.

-- If the parts are those of a register, its label is the prefix and then these parts, as in `0:EAX=`.
pub label-register : {register : Bytes} {index cpu reg : ℕ} {name : Seen} (head : TestHead) (before : Bytes)
    → index ≡ cpu
    → register ≡ register_name head.arch reg
    → name ≡ Register cpu reg
    → before ++ (decimal index ++ (codes ":" ++ (register ++ codes "="))) ≡ label head before name
label-register {register} {cpu} {reg} head before is_index is_register is =
    ap (λ (n : ℕ). before ++ (decimal n ++ (codes ":" ++ (register ++ codes "=")))) is_index
    ∙ ap (λ (r : Bytes). before ++ (decimal cpu ++ (codes ":" ++ (r ++ codes "=")))) is_register
    ∙ ap (λ (t : Bytes). before ++ t) (sym (append_assoc (decimal cpu) (codes ":" ++ register_name head.arch reg) (codes "=")))
    ∙ ap (label head before) (sym is)

-- If a location has a name, its label is the prefix and then the name, as in `x=`.
pub label-location : {text : Bytes} {loc : ℕ} {name : Seen} (head : TestHead) (before : Bytes)
    → slice_get head.locs loc ≡ Some text
    → name ≡ Location loc
    → before ++ (text ++ codes "=") ≡ label head before name
label-location {text} {loc} head before at is =
    ap (λ (t : Bytes). before ++ (t ++ codes "=")) (sym (get_or_from_slice_get head.locs loc text [] at))
    ∙ ap (label head before) (sym is)

-- ---- One more label.

-- The labels of names and then x are the labels of the names, followed by that of x.
labels-append_one : (head : TestHead) (names : List Seen) (x : Seen)
    → labels head (names ++ x ∷ []) ≡ labels head names ++ label head (gap (length names)) x ∷ []
labels-append_one head [] x = refl
labels-append_one head (s ∷ names) x =
    ap (λ (ts : List Bytes). label head [] s ∷ ts) (map-append (label head (codes " ")) names (x ∷ []))

-- The label of the k-th name was rendered and appended to these texts.
pub record LabelMade (head : TestHead) (names : List Seen) (k : ℕ) (texts new : List Bytes) : Type 0 where
  pub name : Seen
  pub space : Bytes
  pub text : Bytes
  pub index_in_range : k < length names
  pub is_name : name ≡ get_or names k name
  pub is_gap : space ≡ gap k
  pub is_label : text ≡ label head space name
  pub pushed : new ≡ texts ++ text ∷ []

-- If `texts` are the labels of the first k names, and the label of the name at k is appended, they are those of the first k +
-- 1.
pub labels-push : (head : TestHead) (names : List Seen) (k : ℕ) (texts new : List Bytes)
    → LabelMade head names k texts new
    → texts ≡ labels head (take k names)
    → new ≡ labels head (take (k + 1) names)
labels-push head names k texts new one made =
    let x = one.name in
    let more = take_more names k x one.index_in_range ∙ ap (λ y. take k names ++ y ∷ []) (sym one.is_name) in
    let many : k ≡ length (take k names) = omega (arith, one.index_in_range, length-take k names) in
    let here = one.is_label ∙ ap (λ (b : Bytes). label head b x) one.is_gap ∙ ap (λ (n : ℕ). label head (gap n) x) many in
    one.pushed
    ∙ ap (λ (ts : List Bytes). ts ++ one.text ∷ []) made
    ∙ ap (λ (t : Bytes). labels head (take k names) ++ t ∷ []) here
    ∙ sym (ap (labels head) more ∙ labels-append_one head (take k names) x)

-- If `texts` are the labels of the first k names, and k is at least their number, they are the labels of all names.
pub labels-all : (head : TestHead) (names : List Seen) (k : ℕ) (texts : List Bytes)
    → length names ≤ k
    → texts ≡ labels head (take k names)
    → texts ≡ labels head names
labels-all head names k texts le made = made ∙ ap (labels head) (take_all k names le)

-- The gap before each label after the first is a space.
pub gap-suc : (k : ℕ) → codes " " ≡ gap (k + 1)
gap-suc k = let next : suc k ≡ k + 1 = omega arith in ap gap next

-- ---- One more word of a line.

-- The k-th word was written after its label, and both after the text so far.
pub record WordWritten (names : List Bytes) (words : List ℕ) (k : ℕ) (out new : Bytes) : Type 0 where
  pub end : ℕ
  pub name : Bytes
  pub text : Bytes
  pub index_in_range : k < end
  pub least : end ≡ min (length names) (length words)
  pub is_name : name ≡ get_or names k name
  pub is_text : text ≡ name
  pub written : new ≡ out ++ (text ++ (decimal (get_or words k 0) ++ codes ";"))

-- If what is written, followed by the words from k on, is the line, so it is after the k-th word is written.
pub labelled_words-push : (names : List Bytes) (words : List ℕ) (k : ℕ) (out new whole : Bytes)
    → WordWritten names words k out new
    → out ++ flat_map labelled_word (drop k (zip names words)) ≡ whole
    → new ++ flat_map labelled_word (drop (k + 1) (zip names words)) ≡ whole
labelled_words-push names words k out new whole one before =
    let w : ℕ = get_or words k 0 in
    let first : k < length names = omega (arith, one.index_in_range, one.least, min-le_left (length names) (length words)) in
    let second : k < length words = omega (arith, one.index_in_range, one.least, min-le_right (length names) (length words)) in
    let is : (one.name, w) ≡ get_or (zip names words) k (one.name, w) =
    cc (get_or-zip names words k (one.name, w) first second, one.is_name, get_or_default_zero words k w second) in
    items_written-push labelled_word (zip names words) k out whole before (one.name, w) new
    (omega (arith, length-zip names words, one.index_in_range, one.least)) is
    (one.written ∙ ap (λ t. out ++ (t ++ (decimal w ++ codes ";"))) one.is_text)

-- When as many words are written as the line has, the whole line is written.
pub labelled_words-all : (names : List Bytes) (words : List ℕ) (k end : ℕ) (out goal : Bytes)
    → end ≤ k
    → end ≡ min (length names) (length words)
    → out ++ flat_map labelled_word (drop k (zip names words)) ≡ goal
    → out ≡ goal
labelled_words-all names words k end out goal le least before =
    items_written-all labelled_word (zip names words) k out goal before (omega (arith, length-zip names words, le, least))

-- ---- The lines of all states.

-- The text that is written as the first lines of a report is its title line and the line of the number of states.
pub title_line-as_written : (head : TestHead) (name kind : Bytes) (n : ℕ)
    → name ≡ head.name
    → kind ≡ kind_text head.quant
    → codes "Test " ++ (name ++ (codes " " ++ (kind ++ (codes "\nStates " ++ (decimal n ++ codes "\n")))))
    ≡ title_line head ++ count_line n
title_line-as_written head name kind n is_name is_kind = rw (is_name, is_kind) (simp append_assoc)

-- The text that is written as the line of the observation, and what follows it, is that line and what follows it.
pub observation_line-as_written : {name n word w claimed line : Bytes} (p q : ℕ)
    → name ≡ n
    → word ≡ w
    → claimed ≡ line
    → codes "Observation "
    ++ (name ++ (codes " " ++ (word ++ (codes " " ++ (decimal p ++ (codes " " ++ (decimal q ++ (codes "\n" ++ claimed))))))))
    ≡ (codes "Observation "
    ++ (n ++ (codes " " ++ (w ++ (codes " " ++ (decimal p ++ (codes " " ++ (decimal q ++ codes "\n")))))))) ++ line
observation_line-as_written p q is_name is_word is_line = rw (is_name, is_word, is_line) (simp append_assoc)

-- The text that is written after the states, of the verdict, the numbers and the condition, and then the observation and the
-- claim, is the lines of the judgement.
pub judgement_lines-as_written : (head : TestHead) (claim : Claim) (p q : ℕ) (verdict condition : Bytes)
    → verdict ≡ verdict_text (verdict_of claim head.quant p q)
    → condition ≡ condition_text head
    → (verdict
    ++ (codes "\nPositive: "
    ++ (decimal p ++ (codes " Negative: " ++ (decimal q ++ (codes "\nCondition " ++ (condition ++ codes "\n")))))))
    ++ (observation_line head claim p q ++ claim_line claim)
    ≡ judgement_lines head claim p q
judgement_lines-as_written head claim p q verdict condition is_verdict is_condition =
    rw (is_verdict, is_condition) (simp append_assoc)

-- The lines of listed states are those of the states without their indices.
pub state_lines-of_projections : (head : TestHead) (states : List ListedState)
    → flat_map (λ (s : ListedState). state_line head s.words) states
    ≡ flat_map (λ (s : ProjectedState). state_line head s.words) (map projection_of states)
state_lines-of_projections head [] = refl
state_lines-of_projections head (s ∷ states) = ap (λ t. state_line head s.words ++ t) (state_lines-of_projections head states)

-- The parts of a report in sequence: from nothing to its title, its lines and its end.
pub record ReportParts (head : TestHead) (claim : Claim) (states : List ListedState) (end : Bytes) : Type 0 where
  pub first : Bytes
  pub title : Bytes
  pub lines : Bytes
  pub count : ℕ
  pub p : ℕ
  pub q : ℕ
  pub starts_empty : first ≡ []
  pub title_is : title ≡ first ++ (title_line head ++ count_line count)
  pub lines_are : lines ≡ title ++ flat_map (λ (s : ListedState). state_line head s.words) states
  pub end_is : end ≡ lines ++ judgement_lines head claim p q
  pub is_count : count ≡ length states
  pub is_positive : p ≡ positive (map projection_of states)
  pub is_negative : q ≡ negative (map projection_of states)

-- If the parts of a report were written in sequence, their text is the report.
pub report_text-of_parts : (head : TestHead) (claim : Claim) (states : List ListedState) (end : Bytes)
    → ReportParts head claim states end
    → end ≡ report_text head claim (map projection_of states)
report_text-of_parts head claim states end parts =
    let shown = map projection_of states in
    let begun =
    parts.title_is
    ∙ ap (λ t. t ++ (title_line head ++ count_line parts.count)) parts.starts_empty
    ∙ ap (λ (m : ℕ). title_line head ++ count_line m) (parts.is_count ∙ sym (length-map states projection_of)) in
    let all : Bytes = flat_map (λ (s : ProjectedState). state_line head s.words) shown in
    let lines_so_far : parts.lines ≡ title_line head ++ (count_line (length shown) ++ all) =
    parts.lines_are
    ∙ ap (λ t. parts.title ++ t) (state_lines-of_projections head states)
    ∙ ap (λ t. t ++ all) begun
    ∙ append_assoc (title_line head) (count_line (length shown)) all in
    let judged : Bytes = judgement_lines head claim (positive shown) (negative shown) in
    parts.end_is
    ∙ ap (λ (a : ℕ). parts.lines ++ judgement_lines head claim a parts.q) parts.is_positive
    ∙ ap (λ (b : ℕ). parts.lines ++ judgement_lines head claim (positive shown) b) parts.is_negative
    ∙ ap (λ t. t ++ judged) lines_so_far
    ∙ append_assoc (title_line head) (count_line (length shown) ++ all) judged
    ∙ ap (λ t. title_line head ++ t) (append_assoc (count_line (length shown)) all judged)

-- ---- The lines of marked states.

-- If a mark, and then the words after their labels, were written, they are the marked line of the state.
pub marked_line-written : (head : TestHead) (names : List Bytes) (ws : List ℕ) (s : ProjectedState) (mark out mid new : Bytes)
    → mid ≡ out ++ mark
    → mark ≡ mark_text s.holds
    → new ≡ mid ++ (labelled_words names ws ++ codes "\n")
    → names ≡ labels head (observed head)
    → ws ≡ s.words
    → new ≡ out ++ marked_line head s
marked_line-written head names ws s mark out mid new begun is_mark written are same =
    state_line-written head names ws s.words mid new written are same
    ∙ ap (λ t. t ++ state_line head s.words) (begun ∙ ap (λ m. out ++ m) is_mark)
    ∙ append_assoc out (mark_text s.holds) (state_line head s.words)

-- The marked lines of listed states are those of the states without their indices.
pub marked_lines-of_projections : (head : TestHead) (states : List ListedState)
    → flat_map (λ (s : ListedState). marked_line head (projection_of s)) states
    ≡ flat_map (marked_line head) (map projection_of states)
marked_lines-of_projections head [] = refl
marked_lines-of_projections head (s ∷ states) =
    ap (λ t. marked_line head (projection_of s) ++ t) (marked_lines-of_projections head states)
