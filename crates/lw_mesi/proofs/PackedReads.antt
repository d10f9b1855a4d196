-- The packed cache line after a GetS, the bus transaction of a load that has no copy. One lemma for each case
-- of `get_s`, in either protocol.
use Rattle.lw_mesi.proofs.Common.{◌≡◌, ◌≢◌, ℕ, suc, ◌<◌, Option, Some, None, Bool, true, false, inl, inr}
use Rattle.lw_mesi.proofs.Common.{List, [], ◌∷◌, length, map, set, refl, sym, ap, ap₂, ◌∙◌, subst, arith}
use Rattle.lw_mesi.proofs.Common.{length-set, get_or-set_same, get_or-set_other, ◌==◌, slice_index_or}
use Rattle.lw_mesi.proofs.Common.{eqb-true, eq-eqb, ne_eqb, cases_lt, or_from, eqb-false, true_from_ne_false}
use Rattle.lw_mesi.proofs.Common.{length-map, get_or_past, fill_by_all, most_threads, is_held, Protocol, Mesi}
use Rattle.lw_mesi.proofs.Common.{Moesi, Copy, Invalid, CacheLine, copy_of, copy_state, copy_word}
use Rattle.lw_mesi.proofs.Common.{coherent_word, empty_cpu_set, is_owner, ProtocolTable, is_held_anywhere}
use Rattle.lw_mesi.proofs.Common.{copy_from, cache_line_to_read, on_load, table_of, moesi_on_other_get_s}
use Rattle.lw_mesi.proofs.Common.{IsProtocolState, HasProtocolStates, copy_in, copy_in-map, copy_in-set_same}
use Rattle.lw_mesi.proofs.Common.{copy_in-invalid_if_none_held, copy_word-copy_from, Inside, IsPacked}
use Rattle.lw_mesi.proofs.Common.{sharer_copy, copy_at, unpacked, on_other_get_s-invalid}
use Rattle.lw_mesi.proofs.IndexLemmas.{length-at_each, get_or-at_each, at_each-set_of_list}
use Rattle.lw_mesi.proofs.PackedCopies.{copy_of_bits, copy_of-unpacked, copy_of_bits-sharer}
use Rattle.lw_mesi.proofs.PackedCopies.{copy_of-unpacked_owned, coherent_word-unpacked}
use Rattle.lw_mesi.proofs.PackedCopies.{is_held_anywhere-if_owned, cache_line_of, is_owner-false_if_invalid}

-- ---- one processor's copy

-- Under MOESI, the copies of a dirty line that is marked as in O are those before it was so marked, each after another
-- processor's GetS: the owner's copy is in O, and no other changes.
copy_of_bits-dirty_moesi_owner : (own b s : Bool) (w : ℕ)
    → copy_of_bits own true true s w ≡ moesi_on_other_get_s (copy_of_bits own true b s w)
copy_of_bits-dirty_moesi_owner true true s w = refl
copy_of_bits-dirty_moesi_owner true false s w = refl
copy_of_bits-dirty_moesi_owner false b true w = refl
copy_of_bits-dirty_moesi_owner false b false w = refl

-- If the line is clean (`d`) under MOESI, and not in O, another processor's GetS turns the owner (`own`) into a sharer, and
-- leaves sharers and non-sharers (`s`) as they are; `new` says who is a sharer then.
sharer_copy-on_other_get_s : (q : Protocol) (own d s new : Bool) (w : ℕ)
    → (q ≡ Moesi → d ≡ false)
    → (own ≡ true → new ≡ true)
    → (own ≡ false → new ≡ s)
    → sharer_copy new w ≡ (table_of q).on_other_get_s (copy_of_bits own d false s w)
sharer_copy-on_other_get_s Mesi true true s new w clean here there = ap (λ (x : Bool). sharer_copy x w) (here refl)
sharer_copy-on_other_get_s Mesi true false s new w clean here there = ap (λ (x : Bool). sharer_copy x w) (here refl)
sharer_copy-on_other_get_s Mesi false d true new w clean here there = ap (λ (x : Bool). sharer_copy x w) (there refl)
sharer_copy-on_other_get_s Mesi false d false new w clean here there = ap (λ (x : Bool). sharer_copy x w) (there refl)
sharer_copy-on_other_get_s Moesi true true s new w clean here there = let e : true ≡ false = clean refl in cc
sharer_copy-on_other_get_s Moesi true false s new w clean here there = ap (λ (x : Bool). sharer_copy x w) (here refl)
sharer_copy-on_other_get_s Moesi false d true new w clean here there = ap (λ (x : Bool). sharer_copy x w) (there refl)
sharer_copy-on_other_get_s Moesi false d false new w clean here there = ap (λ (x : Bool). sharer_copy x w) (there refl)

-- If a packed line is well formed and its copies are in states of MESI, it is not marked as in O.
is_owned-false_in_mesi : (p : Inside) → IsPacked p → HasProtocolStates Mesi (unpacked p) → p.is_owned ≡ false
is_owned-false_in_mesi p ok states = go p.owner refl p.is_dirty refl p.is_owned refl
  where
    -- By the owner and the two marks: an owner that is dirty and in O would have a copy in O, which is no state of MESI.
    go : (owner : Option ℕ) → p.owner ≡ owner → (d : Bool) → p.is_dirty ≡ d → (b : Bool) → p.is_owned ≡ b → p.is_owned ≡ false
    go owner eo d ed false eb = eb
    go owner eo false ed true eb = ok.owned ed
    go None eo true ed true eb = ok.owned (ok.unowned eo)
    go (Some o) eo true ed true eb =
        absurd (subst (IsProtocolState Mesi) (copy_of-unpacked_owned p o (ok.in_range o eo) eo ed eb) (states o))

-- If a packed line is well formed, its copies are in states of protocol q, and it is clean if q is MOESI, then it is not marked
-- as in O.
pub is_owned-false_if_clean : (p : Inside) (q : Protocol)
    → IsPacked p
    → HasProtocolStates q (unpacked p)
    → (q ≡ Moesi → p.is_dirty ≡ false)
    → p.is_owned ≡ false
is_owned-false_if_clean p Mesi ok states clean = is_owned-false_in_mesi p ok states
is_owned-false_if_clean p Moesi ok states clean = ok.owned (clean refl)

-- A packed cache line without an owner, neither dirty nor marked as in O (b is `false`), is well formed, if its word is
-- memory's and it has a bit for each processor.
pub IsPacked-no_owner : (w : ℕ) (b : Bool) (xs : List Bool)
    → b ≡ false
    → length xs ≡ most_threads
    → IsPacked (record { owner = None; is_dirty = false; is_owned = b; sharers = xs; word = w; memory = w })
IsPacked-no_owner w b xs e long = record {
  as_many = long;
  in_range = λ o h. cc;
  owner_is_no_sharer = λ o h. cc;
  no_other_copy = λ o h f. cc;
  unowned = λ h. refl;
  owned = λ h. e;
  clean = λ h. refl;
}

-- ---- a cache line that has an owner, and any

-- A processor in range reads a packed cache line, and has no copy of it.
pub record IsReader (p : Inside) (t : ℕ) : Type 0 where
  pub packed : IsPacked p
  pub cpu : t < most_threads
  pub without : copy_of (unpacked p) t ≡ Invalid

-- q results from p by a GetS of processor t, copy by copy: t gets its copy by whether the line was held, and the other copies change as the
-- table says.
record IsGotten (p q : Inside) (t : ℕ) (table : ProtocolTable) (held : Bool) : Type 0 where
  invalid : table.on_other_get_s Invalid ≡ Invalid
  holds : is_held_anywhere (unpacked p).copies ≡ held
  memory : table.memory_after_get_s (unpacked p) ≡ q.memory
  mine : copy_at q t ≡ copy_from held p.word
  others : (u : ℕ) → u < most_threads → u ≢ t → copy_at q u ≡ table.on_other_get_s (copy_at p u)

-- If q results from p by a GetS, then q unpacked is the cache line after the load.
unpacked-after_get_s : (p q : Inside) (t : ℕ) (table : ProtocolTable) (held : Bool)
    → IsReader p t
    → IsGotten p q t table held
    → unpacked q ≡ cache_line_to_read table t (unpacked p)
unpacked-after_get_s p q t table held reader gotten =
    let line : CacheLine = unpacked p in
    let others : List Copy = map table.on_other_get_s line.copies in
    let copies : (unpacked q).copies ≡ set others t (copy_from held p.word) =
    at_each-set_of_list (copy_at q) others t (copy_from held p.word) _
    (length-map line.copies table.on_other_get_s ∙ length-at_each (copy_at p)) reader.cpu gotten.mine (λ u within ne.
    gotten.others u within ne
    ∙ ap table.on_other_get_s (sym (copy_of-unpacked p u within))
    ∙ sym (copy_in-map table.on_other_get_s line.copies u gotten.invalid)) in
    ap (λ (cs : List Copy). cache_line_of cs q.memory) copies
    ∙ sym (ap₂ (λ c (m : ℕ). cache_line_of (set others t c) m)
    (ap₂ copy_from gotten.holds (coherent_word-unpacked p reader.packed)) gotten.memory)
    ∙ sym (ap (λ (c : Copy). on_load table c t line) reader.without)

-- If t reads a packed line of which it has no copy, then after the load its copy has the line's word.
pub copy_word-after_read : (p : Inside) (t : ℕ) (table : ProtocolTable)
    → IsReader p t
    → Some p.word ≡ copy_word (copy_of (cache_line_to_read table t (unpacked p)) t)
copy_word-after_read p t table reader =
    let line : CacheLine = unpacked p in
    let others : List Copy = map table.on_other_get_s line.copies in
    let mine : Copy = copy_from (is_held_anywhere line.copies) (coherent_word line) in
    let long : length others ≡ most_threads = length-map line.copies table.on_other_get_s ∙ length-at_each (copy_at p) in
    ap (λ (v : ℕ). Some v) (sym (coherent_word-unpacked p reader.packed))
    ∙ sym (ap (λ (c : Copy). copy_word (copy_of (on_load table c t line) t)) reader.without
    ∙ ap copy_word (copy_in-set_same others t mine (let lt = reader.cpu in omega (arith, long, lt)))
    ∙ copy_word-copy_from (is_held_anywhere line.copies) (coherent_word line))

-- If t reads a dirty line of owner o, the packed line marked as in O, with t as a sharer, is, unpacked, the line after the load
-- under MOESI.
pub unpacked-shared_by_dirty_owner : (p : Inside) (t o : ℕ)
    → IsReader p t
    → p.owner ≡ Some o
    → p.is_dirty ≡ true
    → unpacked (record p { is_owned = true; sharers = set p.sharers t true }) ≡ cache_line_to_read (table_of Moesi) t (unpacked p)
unpacked-shared_by_dirty_owner p t o reader own dirty =
    let ok = reader.packed in
    unpacked-after_get_s p _ t (table_of Moesi) true reader (record {
      invalid = refl;
      holds = is_held_anywhere-if_owned p o (ok.in_range o own) own;
      memory = refl;
      mine =
          copy_of_bits-sharer _ _ _ _ p.word (is_owner-false_if_invalid p t reader.cpu reader.without)
          (get_or-set_same p.sharers t true false (let lt = reader.cpu in omega (arith, ok.as_many, lt)));
      others = λ u within ne.
          let s : Bool = slice_index_or p.sharers u false in
          ap₂ (λ (d x : Bool). copy_of_bits (is_owner p.owner u) d true x p.word) dirty
          (get_or-set_other p.sharers t u true false ne)
          ∙ copy_of_bits-dirty_moesi_owner (is_owner p.owner u) p.is_owned s p.word
          ∙ ap (λ (d : Bool). moesi_on_other_get_s (copy_of_bits (is_owner p.owner u) d p.is_owned s p.word)) (sym dirty);
    })

-- If t reads a line of owner o that is not in O, and clean if the protocol is MOESI, then the packed line without an owner,
-- with o and t as sharers and its word in memory, is, unpacked, the line after the load.
pub unpacked-shared_by_clean_owner : (p : Inside) (t o : ℕ) (q : Protocol)
    → IsReader p t
    → p.owner ≡ Some o
    → p.is_owned ≡ false
    → (q ≡ Moesi → p.is_dirty ≡ false)
    → unpacked (record p { owner = None; is_dirty = false; sharers = set (set p.sharers o true) t true; memory = p.word })
    ≡ cache_line_to_read (table_of q) t (unpacked p)
unpacked-shared_by_clean_owner p t o q reader own unowned clean =
    unpacked-after_get_s p (record p { owner = None; is_dirty = false; sharers = set mid t true; memory = p.word }) t (table_of q)
    true reader (record {
      invalid = on_other_get_s-invalid q;
      holds = is_held_anywhere-if_owned p o (ok.in_range o own) own;
      memory = memory_then q clean;
      mine =
          copy_of_bits-sharer false false p.is_owned _ p.word refl
          (get_or-set_same mid t true false (let lt = reader.cpu in omega (arith, long, lt)));
      others = other_copies_eq;
    })
  where
    -- The packed line is well formed, since it has a reader.
    ok : IsPacked p
    ok = reader.packed

    -- The sharers, with the former owner among them.
    mid : List Bool
    mid = set p.sharers o true

    -- There is a bit for each processor.
    long : length mid ≡ most_threads
    long = length-set p.sharers o true ∙ ok.as_many

    -- After the GetS memory has the line's word, by the protocol: under MESI it is written, under MOESI the line is clean.
    memory_then : (q : Protocol) → (q ≡ Moesi → p.is_dirty ≡ false) → (table_of q).memory_after_get_s (unpacked p) ≡ p.word
    memory_then Mesi clean = coherent_word-unpacked p ok
    memory_then Moesi clean = ok.clean (clean refl)

    -- Each copy but t's is, after the GetS, that of a sharer or of none.
    other_copies_eq : (u : ℕ)
        → u < most_threads
        → u ≢ t
        → sharer_copy (slice_index_or (set mid t true) u false) p.word ≡ (table_of q).on_other_get_s (copy_at p u)
    other_copies_eq u within ne =
        let s : Bool = slice_index_or p.sharers u false in
        let kept = get_or-set_other mid t u true false ne in
        let is : (o == u) ≡ is_owner p.owner u = sym (ap (λ (x : Option ℕ). is_owner x u) own) in
        sharer_copy-on_other_get_s q (is_owner p.owner u) p.is_dirty s _ p.word clean
        (λ h.
        kept
        ∙ subst (λ (k : ℕ). slice_index_or mid k false ≡ true) (eqb-true o u (is ∙ h))
        (get_or-set_same p.sharers o true false (omega (arith, ok.as_many, ok.in_range o own))))
        (λ h. kept ∙ get_or-set_other p.sharers o u true false (λ e. eqb-false o u (is ∙ h) (sym e)))
        ∙ ap (λ (b : Bool). (table_of q).on_other_get_s (copy_of_bits (is_owner p.owner u) p.is_dirty b s p.word)) (sym unowned)

-- ---- a cache line without an owner

-- If no processor has a copy, `is_held_anywhere` is false.
is_held_anywhere-false : (copies : List Copy) → ((t : ℕ) → copy_in copies t ≡ Invalid) → is_held_anywhere copies ≡ false
is_held_anywhere-false [] h = refl
is_held_anywhere-false (c ∷ copies) h =
    or_from (is_held (copy_state c)) (is_held_anywhere copies) (ap (λ (x : Copy). is_held (copy_state x)) (h 0))
    (is_held_anywhere-false copies (λ t. h (suc t)))

-- A processor without a copy is not a sharer (s is `false`).
sharer-false_if_invalid : (s : Bool) (w : ℕ) → sharer_copy s w ≡ Invalid → s ≡ false
sharer-false_if_invalid true w e = cc
sharer-false_if_invalid false w e = refl

module _ (p : Inside) (t : ℕ) (q : Protocol) (reader : IsReader p t) (own : p.owner ≡ None) where
  -- The packed line is well formed.
  ok : IsPacked p
  ok = reader.packed

  -- No processor is the owner.
  unowned : (u : ℕ) → is_owner p.owner u ≡ false
  unowned u = ap (λ (x : Option ℕ). is_owner x u) own

  -- Each copy is that of a sharer, or invalid.
  sharer_at : (u : ℕ) → copy_at p u ≡ sharer_copy (slice_index_or p.sharers u false) p.word
  sharer_at u = ap (λ (x : Bool). copy_of_bits x p.is_dirty p.is_owned (slice_index_or p.sharers u false) p.word) (unowned u)

  -- A GetS of another processor leaves each copy as it is.
  sharer_stays : (u : ℕ) → sharer_copy (slice_index_or p.sharers u false) p.word ≡ (table_of q).on_other_get_s (copy_at p u)
  sharer_stays u =
      let s : Bool = slice_index_or p.sharers u false in
      sharer_copy-on_other_get_s q false p.is_dirty s s p.word (λ e. ok.unowned own) (λ h. cc) (λ h. refl)
      ∙ ap (table_of q).on_other_get_s (sym (sharer_at u))

  -- A GetS leaves memory's word as it is, in each protocol.
  memory_stays : (r : Protocol) → (table_of r).memory_after_get_s (unpacked p) ≡ p.memory
  memory_stays Mesi = coherent_word-unpacked p ok ∙ sym (ok.clean (ok.unowned own))
  memory_stays Moesi = refl

  -- If t reads a line without an owner that has no sharers, the packed line with owner t, who is clean, is, unpacked, the line
  -- after the load: t's copy is in E.
  pub unpacked-first_reader : p.sharers ≡ empty_cpu_set
      → unpacked (record p { owner = Some t }) ≡ cache_line_to_read (table_of q) t (unpacked p)
  unpacked-first_reader no_other_copy = unpacked-after_get_s p (record p { owner = Some t }) t (table_of q) false reader (record {
    invalid = on_other_get_s-invalid q;
    holds = is_held_anywhere-false (unpacked p).copies all_invalid;
    memory = memory_stays q;
    mine =
        ap₂ (λ (x d : Bool). copy_of_bits x d p.is_owned (slice_index_or p.sharers t false) p.word) (eq-eqb t t refl)
        (ok.unowned own);
    others = λ u within ne.
        ap (λ (x : Bool). copy_of_bits x p.is_dirty p.is_owned (slice_index_or p.sharers u false) p.word)
        (ne_eqb t u (λ e. ne (sym e)))
        ∙ sharer_stays u;
  })
    where
      -- Each copy is invalid: a processor in range is neither the owner nor a sharer.
      all_invalid : (u : ℕ) → copy_in (unpacked p).copies u ≡ Invalid
      all_invalid u = elim (cases_lt u most_threads) [
        | inl within ↦
            copy_of-unpacked p u within
            ∙ sharer_at u
            ∙ ap (λ (s : Bool). sharer_copy s p.word)
            (ap (λ xs. slice_index_or xs u false) no_other_copy ∙ get_or-at_each (λ k. false) u false within)
        | inr past ↦ get_or_past (unpacked p).copies u Invalid (omega (arith, length-at_each (copy_at p)))
      ]

  -- If t reads a line without an owner that has sharers, the packed line with t as a sharer is, unpacked, the line after the
  -- load.
  pub unpacked-next_reader : (p.sharers ≡ empty_cpu_set → ⊥)
      → unpacked (record p { sharers = set p.sharers t true }) ≡ cache_line_to_read (table_of q) t (unpacked p)
  unpacked-next_reader some =
      unpacked-after_get_s p (record p { sharers = set p.sharers t true }) t (table_of q) true reader (record {
        invalid = on_other_get_s-invalid q;
        holds =
            true_from_ne_false _
            (λ none. some (fill_by_all (λ k. false) p.sharers most_threads false ok.as_many (nobody_if none)));
        memory = memory_stays q;
        mine =
            copy_of_bits-sharer _ p.is_dirty p.is_owned _ p.word (unowned t)
            (get_or-set_same p.sharers t true false (let lt = reader.cpu in omega (arith, ok.as_many, lt)));
        others = λ u within ne.
            ap₂ (λ (x s : Bool). copy_of_bits x p.is_dirty p.is_owned s p.word) (unowned u)
            (get_or-set_other p.sharers t u true false ne)
            ∙ sharer_stays u;
      })
    where
      -- If no processor holds the line, none is a sharer.
      nobody_if : is_held_anywhere (unpacked p).copies ≡ false
          → (u : ℕ)
          → u < most_threads
          → slice_index_or p.sharers u false ≡ false
      nobody_if none u within =
          sharer-false_if_invalid (slice_index_or p.sharers u false) p.word
          (sym (sharer_at u) ∙ sym (copy_of-unpacked p u within) ∙ copy_in-invalid_if_none_held (unpacked p).copies none u)
