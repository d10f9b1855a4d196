-- The texts of the events in a schedule, which are the pieces between its blanks, as the loop of
-- `read_schedule` consumes them. What was read and what remains make the whole text, so a faulty piece is the
-- first one.
use Rattle.lw_base.proofs.Common.{append_assoc, drop, ◌-◌, length-append, ◌≡◌, ◌<◌, ◌≤◌, ◌==◌, ℕ, zero, suc}
use Rattle.lw_base.proofs.Common.{true, false, not, List, [], ◌∷◌, ◌++◌, length, refl, sym, ap, ◌∙◌, arith}
use Rattle.lw_base.proofs.Common.{true≢false, eqb-true, append-nil, map, not-true, not-false, map-append}
use Rattle.lw_base.proofs.Common.{drop-append_seam, AllByRecursion, Bytes, NameTable, is_blank, first_byte_is}
use Rattle.lw_base.proofs.Common.{Event, split_blanks, event_texts, IsEvent, event_text, IsSchedule}

-- If the pieces of r begin with the empty one, as before a blank or at the end, then the pieces of w and r in sequence, where
-- no byte of w is blank, are w and then those of r after the first.
split_blanks-first_piece : (w r : Bytes) (ps : List Bytes)
    → AllByRecursion (λ b. not (is_blank b) ≡ true) w
    → split_blanks r ≡ [] ∷ ps
    → split_blanks (w ++ r) ≡ w ∷ ps
split_blanks-first_piece [] r ps others e = e
split_blanks-first_piece (b ∷ w) r ps others e =
    rw (not-true (is_blank b) others.0, split_blanks-first_piece w r ps others.1 e) refl

-- If a text is blanks w followed by r, its pieces that are not empty are those of r.
pub event_texts-after_blanks : (text w r : Bytes)
    → text ≡ w ++ r
    → AllByRecursion (λ b. is_blank b ≡ true) w
    → event_texts text ≡ event_texts r
event_texts-after_blanks text [] r e all = ap event_texts e
event_texts-after_blanks text (b ∷ w) r e all = rw (e, all.0) (event_texts-after_blanks (w ++ r) w r refl all.1)

-- A text that is not empty begins with a piece: no blank is before it or in it, and it ends at a blank or with the text.
pub record BeginsWithPiece (text piece after : Bytes) : Type 0 where
  pub parts : text ≡ piece ++ after
  pub not_empty : 0 < length text
  pub front : first_byte_is is_blank text ≡ false
  pub others : AllByRecursion (λ b. not (is_blank b) ≡ true) piece
  pub ends : first_byte_is (λ b. not (is_blank b)) after ≡ false

-- The piece with which a text begins is not empty.
not-BeginsWithPiece-nil : (text after : Bytes) → BeginsWithPiece text [] after → ⊥
not-BeginsWithPiece-nil text [] x = omega (arith, ap length x.parts, x.not_empty)
not-BeginsWithPiece-nil text (c ∷ r) x =
    true≢false (sym (not-false (is_blank c) x.ends) ∙ (ap (first_byte_is is_blank) (sym x.parts) ∙ x.front))

-- If a text begins with a piece, its pieces are that one and those of the rest.
pub event_texts-first : (text w r : Bytes) → BeginsWithPiece text w r → event_texts text ≡ w ∷ event_texts r
event_texts-first text [] r x = absurd (not-BeginsWithPiece-nil text r x)
event_texts-first text (b ∷ w) [] x = rw (x.parts, split_blanks-first_piece (b ∷ w) [] [] x.others refl) refl
event_texts-first text (b ∷ w) (c ∷ r) x =
    let blank : is_blank c ≡ true = not-false (is_blank c) x.ends in
    rw (x.parts, split_blanks-first_piece (b ∷ w) (c ∷ r) (split_blanks r) x.others (rw blank refl), blank) refl

-- If the texts of some events of the test are those of the events `done` and then w and others, w is the text of an event of
-- the test.
IsEvent-of_next_text : (names : NameTable) (done events : List Event) (w : Bytes) (ws : List Bytes)
    → AllByRecursion (IsEvent names) events
    → map (event_text names) events ≡ map (event_text names) done ++ w ∷ ws
    → (e : Event) × IsEvent names e × (event_text names e ≡ w)
IsEvent-of_next_text names [] [] w ws all same = absurd cc
IsEvent-of_next_text names [] (e ∷ events) w ws all same = (e, all.0, cc)
IsEvent-of_next_text names (d ∷ done) [] w ws all same = absurd cc
IsEvent-of_next_text names (d ∷ done) (e ∷ events) w ws all same = IsEvent-of_next_text names done events w ws all.1 cc

-- A text is no schedule if, after the texts of some events, it has a piece that is no event's text.
pub not-IsSchedule-if_no_event_text : (names : NameTable) (text : Bytes) (done : List Event) (w : Bytes) (ws : List Bytes)
    → event_texts text ≡ map (event_text names) done ++ w ∷ ws
    → ((e : Event) → IsEvent names e → event_text names e ≡ w → ⊥)
    → (events : List Event)
    → IsSchedule names text events
    → ⊥
not-IsSchedule-if_no_event_text names text done w ws whole none events is =
    let e = IsEvent-of_next_text _ _ _ w ws is.0 (sym is.1 ∙ whole) in none e.0 e.1 e.2

-- If the rest of a text begins with a piece w and blanks b, what follows them also follows everything that was read.
pub text_eq-append_piece : {text rest after : Bytes} (front w b last : Bytes)
    → text ≡ front ++ rest
    → rest ≡ w ++ after
    → after ≡ b ++ last
    → text ≡ (front ++ w ++ b) ++ last
text_eq-append_piece front w b last e f g =
    rw (e, f, g) (sym (append_assoc (front ++ w) b last ∙ append_assoc front w (b ++ last)))

-- The last part of a text begins at the difference of the lengths, which gives the offset of a piece.
pub drop-back : (text front rest : Bytes) → text ≡ front ++ rest → drop (length text - length rest) text ≡ rest
drop-back text front rest e =
    let n : length text - length rest ≡ length front = omega (arith, ap length e, length-append front rest) in
    rw (n, e) (drop-append_seam front rest)

-- The last part of a text is no longer than the text.
pub length_le-suffix : (text front rest : Bytes) → text ≡ front ++ rest → length rest ≤ length text
length_le-suffix text front rest e = omega (arith, ap length e, length-append front rest)

-- Appending an event of the test to events of the test gives events of the test.
pub IsEvent-push : (names : NameTable) (es fs : List Event) (e : Event)
    → fs ≡ es ++ e ∷ []
    → AllByRecursion (IsEvent names) es
    → IsEvent names e
    → AllByRecursion (IsEvent names) fs
IsEvent-push names es fs e more all is = rw more (go es all)
  where
    -- By induction on the events before e.
    go : (ds : List Event) → AllByRecursion (IsEvent names) ds → AllByRecursion (IsEvent names) (ds ++ e ∷ [])
    go [] h = (is, tt)
    go (d ∷ ds) h = (h.0, go ds h.1)

-- One more event of a text is read. The pieces of the events es were read before it. The rest begins with the piece of e, followed by
-- blanks and the last part of the text.
pub record OneMoreRead (names : NameTable) (text last : Bytes) (es : List Event) (e : Event) : Type 0 where
  pub rest : Bytes
  pub piece : Bytes
  pub after : Bytes
  pub before : event_texts text ≡ map (event_text names) es ++ event_texts rest
  pub first : event_texts rest ≡ piece ∷ event_texts after
  pub after_blanks : event_texts after ≡ event_texts last
  pub says : event_text names e ≡ piece

-- If one more event is read, the pieces of the text are those of the events fs that were read, and of the last part, which is not read yet.
pub event_texts-push : (names : NameTable) (text last : Bytes) (es fs : List Event) (e : Event)
    → OneMoreRead names text last es e
    → fs ≡ es ++ e ∷ []
    → event_texts text ≡ map (event_text names) fs ++ event_texts last
event_texts-push names text last es fs e x more =
    let piece = event_text names in
    let one =
    ap (λ ds. map piece ds ++ event_texts last) more
    ∙ ap (λ ws. ws ++ event_texts last) (map-append piece es (e ∷ []))
    ∙ append_assoc (map piece es) (piece e ∷ []) (event_texts last) in
    let two = ap (λ ws. map piece es ++ ws) (x.first ∙ ap (λ ws. x.piece ∷ ws) x.after_blanks) in
    x.before ∙ two ∙ ap (λ v. map piece es ++ v ∷ event_texts last) (sym x.says) ∙ sym one

-- If nothing of a text remains, its pieces are the texts of the events that were read.
pub event_texts-all_read : (names : NameTable) (text rest : Bytes) (es : List Event)
    → event_texts text ≡ map (event_text names) es ++ event_texts rest
    → true ≡ (length rest == 0)
    → event_texts text ≡ map (event_text names) es
event_texts-all_read names text [] es before none = before ∙ append-nil (map (event_text names) es)
event_texts-all_read names text (b ∷ rest) es before none = absurd (omega (arith, eqb-true (length (b ∷ rest)) 0 (sym none)))

-- A number that is not 0 is positive.
pub positive-if_not_zero : (n : ℕ) → false ≡ (n == 0) → 0 < n
positive-if_not_zero zero e = absurd (true≢false (sym e))
positive-if_not_zero (suc n) e = omega arith

-- The text after its first piece and the following blanks is shorter than the text, so the loop terminates.
pub length_lt-after_piece : (rest w after b last : Bytes)
    → BeginsWithPiece rest w after
    → after ≡ b ++ last
    → length last < length rest
length_lt-after_piece rest [] after b last x blanks = absurd (not-BeginsWithPiece-nil rest after x)
length_lt-after_piece rest (c ∷ w) after b last x blanks =
    omega (arith, ap length x.parts, length-append w after, ap length blanks, length-append b last)
