-- Writing schedules: the texts of their events, and that they are read back. For `write_schedule`, and for
-- the law about its result.
use Rattle.lw_base.proofs.Common.{byte, ◌≡◌, ℕ, zero, suc, ◌<◌, inl, inr, true, false, not, List, [], ◌∷◌}
use Rattle.lw_base.proofs.Common.{◌++◌, length, refl, sym, ap, ◌∙◌, arith, drop, flat_map, map}
use Rattle.lw_base.proofs.Common.{slice_index_or, codes, AllByRecursion, not-true, cases_Bool, agree_below_at}
use Rattle.lw_base.proofs.Common.{Bytes, NameTable, digit, is_blank, is_name_byte, first_byte_is}
use Rattle.lw_base.proofs.Common.{most_threads, IsUnreservedName, IsNameTable, IsEvent, event_text}
use Rattle.lw_base.proofs.Common.{schedule_text, event_texts, IsSchedule, Event, Step, Drain, Evict}
use Rattle.lw_base.proofs.Common.{append-nil, append_assoc}
use Rattle.lw_base.proofs.api.Blanks.{is_blank-passes}
use Rattle.lw_base.proofs.EventTexts.{event_texts-after_blanks, event_texts-first}

-- The text of an event after a space.
abbrev pub spaced_event_text : NameTable → Event → Bytes
spaced_event_text names e = codes " " ++ event_text names e

-- Joining the texts of events, each after a space, is joining the value of `spaced_event_text` for each event.
flat_map-spaced_event_text : (names : NameTable) (es : List Event)
    → flat_map (λ next. codes " " ++ next) (map (event_text names) es) ≡ flat_map (spaced_event_text names) es
flat_map-spaced_event_text names [] = refl
flat_map-spaced_event_text names (e ∷ es) = ap (λ t. spaced_event_text names e ++ t) (flat_map-spaced_event_text names es)

-- If there are no events, appending the text of the schedule changes nothing.
pub schedule_text-nil : (names : NameTable) (events : List Event) (out : Bytes)
    → length events ≡ 0
    → out ≡ out ++ schedule_text names events
schedule_text-nil names [] out none = sym (append-nil out)
schedule_text-nil names (e ∷ events) out none = absurd (omega (arith, none))

-- If the first event's text was written, it and the texts of the others, each after a space, are the schedule's text.
pub schedule_text-first_event : (names : NameTable) (events : List Event) (first : Event) (others : List Event)
    (start out : Bytes)
    → events ≡ first ∷ others
    → out ≡ start ++ event_text names first
    → out ++ flat_map (spaced_event_text names) (drop 0 others) ≡ start ++ schedule_text names events
schedule_text-first_event names events first others start out are written =
    ap (λ t. t ++ flat_map (spaced_event_text names) others) written
    ∙ append_assoc start (event_text names first) (flat_map (spaced_event_text names) others)
    ∙ ap (λ t. start ++ (event_text names first ++ t)) (sym (flat_map-spaced_event_text names others))
    ∙ ap (λ es. start ++ schedule_text names es) (sym are)

-- ---- Written schedules are read back.

-- No byte of the text is blank.
abbrev pub HasNoBlank : Bytes → Type 0
HasNoBlank w = AllByRecursion (λ b. not (is_blank b) ≡ true) w

-- A processor's digit is not blank.
is_blank-false_of_digit : (n : ℕ) → n < most_threads → not (is_blank (digit n)) ≡ true
is_blank-false_of_digit n lt = agree_below_at (λ d. not (is_blank (digit d))) (λ d. true) most_threads n refl lt

-- A name byte is not blank.
is_blank-false_of_name_byte : (b : ℕ) → is_name_byte b ≡ true → not (is_blank b) ≡ true
is_blank-false_of_name_byte b is = elim (cases_Bool (is_blank b)) [
  | inl e ↦ absurd (let k = not-true (is_name_byte b) (is_blank-passes (λ c. not (is_name_byte c)) b refl e) in cc)
  | inr e ↦ ap not e
]

-- A text of name bytes has no blank.
HasNoBlank-name_bytes : (w : Bytes) → AllByRecursion (λ b. is_name_byte b ≡ true) w → HasNoBlank w
HasNoBlank-name_bytes [] all = tt
HasNoBlank-name_bytes (b ∷ w) all = (is_blank-false_of_name_byte b all.0, HasNoBlank-name_bytes w all.1)

-- The name of a location of the table has no blank, if all names are unreserved names.
HasNoBlank-location_name : (names : NameTable) (l : ℕ)
    → AllByRecursion IsUnreservedName names
    → l < length names
    → HasNoBlank (slice_index_or names l [])
HasNoBlank-location_name [] l all lt = absurd (omega (arith, lt))
HasNoBlank-location_name (n ∷ names) zero all lt = HasNoBlank-name_bytes n all.0.0.0.are_name_bytes
HasNoBlank-location_name (n ∷ names) (suc l) all lt = HasNoBlank-location_name names l all.1 (omega (arith, lt))

-- If the names are a table, the text of an event of the test has no blank.
HasNoBlank-event_text : (names : NameTable) (e : Event) → IsNameTable names → IsEvent names e → HasNoBlank (event_text names e)
HasNoBlank-event_text names (Step c) table is = (refl, (is_blank-false_of_digit c is, tt))
HasNoBlank-event_text names (Drain c) table is = (refl, (is_blank-false_of_digit c is, tt))
HasNoBlank-event_text names (Evict c l) table is =
    (refl, (is_blank-false_of_digit c is.0, (refl, HasNoBlank-location_name _ l table.are_unreserved is.1)))

-- The texts of events, concatenated.
module _ (names : NameTable) (table : IsNameTable names) where
  -- If an event's text is followed by the end or a blank, it is the first piece, and the others are those of what follows.
  event_texts-first_event : (e : Event) (r : Bytes)
      → IsEvent names e
      → first_byte_is (λ b. not (is_blank b)) r ≡ false
      → event_texts (event_text names e ++ r) ≡ event_text names e ∷ event_texts r
  event_texts-first_event (Step c) r is ends =
      event_texts-first (event_text names (Step c) ++ r) (event_text names (Step c)) r (record {
        parts = refl;
        not_empty = omega arith;
        front = refl;
        others = HasNoBlank-event_text names (Step c) table is;
        ends = ends;
      })
  event_texts-first_event (Drain c) r is ends =
      event_texts-first (event_text names (Drain c) ++ r) (event_text names (Drain c)) r (record {
        parts = refl;
        not_empty = omega arith;
        front = refl;
        others = HasNoBlank-event_text names (Drain c) table is;
        ends = ends;
      })
  event_texts-first_event (Evict c l) r is ends =
      event_texts-first (event_text names (Evict c l) ++ r) (event_text names (Evict c l)) r (record {
        parts = refl;
        not_empty = omega arith;
        front = refl;
        others = HasNoBlank-event_text names (Evict c l) table is;
        ends = ends;
      })

  -- The texts of the events after the first, each after a space.
  abbrev pub rest_of : List Event → Bytes
  rest_of es = flat_map (λ next. codes " " ++ next) (map (event_text names) es)

  -- The pieces of a schedule's text are the texts of its events.
  event_texts-written_events : (e : Event) (es : List Event)
      → IsEvent names e
      → AllByRecursion (IsEvent names) es
      → event_texts (event_text names e ++ rest_of es) ≡ event_text names e ∷ map (event_text names) es
  event_texts-written_events e [] is all = event_texts-first_event e [] is refl
  event_texts-written_events e (f ∷ es) is all =
      let rest_texts : event_texts (rest_of (f ∷ es)) ≡ event_texts (event_text names f ++ rest_of es) =
      event_texts-after_blanks (rest_of (f ∷ es)) (byte " " ∷ []) (event_text names f ++ rest_of es) refl (refl, tt) in
      event_texts-first_event e (rest_of (f ∷ es)) is refl
      ∙ ap (λ ws. event_text names e ∷ ws) (rest_texts ∙ event_texts-written_events f es all.0 all.1)

-- A written schedule is read back as the same events.
pub schedule_text-read_back : (names : NameTable) (events : List Event)
    → IsNameTable names
    → AllByRecursion (IsEvent names) events
    → IsSchedule names (schedule_text names events) events
schedule_text-read_back names [] table all = (tt, refl)
schedule_text-read_back names (e ∷ es) table all = (all, event_texts-written_events names table e es all.0 all.1)
