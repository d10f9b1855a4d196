-- Proves `PackedCacheLine::get_s`, the bus transaction of a load without a copy, as the protocol's table says.
-- One lemma for each case: a dirty owner under MOESI (`unpacked-shared_by_dirty_owner`), another owner (`unpacked-shared_by_clean_owner`), no
-- holder (`unpacked-first_reader`), and sharers only (`unpacked-next_reader`). Under MESI no owner is in O, so the packed line
-- stays well formed (`not_owned`).
use Rattle.lw_mesi.proofs.Common.{◌≡◌, ◌<◌, ℕ, Some, false, sym, ◌∙◌, subst, length-set, true≢false, Invalid}
use Rattle.lw_mesi.proofs.Common.{copy_of, HasProtocolStates, table_of, Moesi, CacheLine, Protocol, Inside}
use Rattle.lw_mesi.proofs.Common.{IsPacked, unpacked, most_threads, copy_word, cache_line_to_read}
use Rattle.lw_mesi.proofs.PackedReads.{IsReader, copy_word-after_read, unpacked-shared_by_dirty_owner}
use Rattle.lw_mesi.proofs.PackedReads.{unpacked-shared_by_clean_owner, unpacked-first_reader}
use Rattle.lw_mesi.proofs.PackedReads.{unpacked-next_reader, is_owned-false_if_clean, IsPacked-no_owner}
use Rattle.lw_mesi.proofs.cache_line.PackedCacheLine.get_s.Goals.{in_default-via-in-Moesi+else-self}
use Rattle.lw_mesi.proofs.cache_line.PackedCacheLine.get_s.Goals.{in_default-via-in_default}
use Rattle.lw_mesi.proofs.cache_line.PackedCacheLine.get_s.Goals as goal

not_dirty-if_moesi : (c : goal.After-insert-in_default-2) → c.args.protocol ≡ Moesi → c.self.inside.is_dirty ≡ false
not_dirty-if_moesi c e = elim c.in_default.branch [
  | in_default-via-in-Moesi+else-self w ↦ w.if-self.false
  | in_default-via-in_default w ↦ absurd (w.in_default.not-Moesi e)
]

not_owned : (c : goal.After-insert-in_default-2) → c.self.inside.is_owned ≡ false
not_owned c =
    is_owned-false_if_clean c.self.inside c.args.protocol c.self.invariant
    (subst (HasProtocolStates c.args.protocol) (sym c.self.view_is) c.requires.states) (not_dirty-if_moesi c)

pub invariant_of-self-in_default : goal.invariant_of-self-in_default
invariant_of-self-in_default c =
    IsPacked-no_owner c.self.inside.word c.self.inside.is_owned _ (not_owned c)
    (rw (c.insert-in_default-2.ensures, c.insert-in_default.ensures)
    (length-set _ _ _ ∙ (length-set _ _ _ ∙ c.self.invariant.as_many)))

-- If a well-formed packed line is `line`, unpacked, and processor t has no copy of `line`, then t is a reader of the packed
-- line.
IsReader-of_line : (p : Inside) {line : CacheLine} {t : ℕ}
    → unpacked p ≡ line
    → IsPacked p
    → t < most_threads
    → copy_of line t ≡ Invalid
    → IsReader p t
IsReader-of_line p {t = t} is packed cpu without =
    record { packed = packed; cpu = cpu; without = subst (λ l. copy_of l t ≡ Invalid) (sym is) without }

-- If a well-formed packed line is `line`, unpacked, and processor t has no copy of `line`, then after a load by protocol q the
-- copy of t has the packed line's word.
copy_word-after_get_s : (p : Inside) {line : CacheLine} {t : ℕ} (q : Protocol)
    → unpacked p ≡ line
    → IsPacked p
    → t < most_threads
    → copy_of line t ≡ Invalid
    → Some p.word ≡ copy_word (copy_of (cache_line_to_read (table_of q) t line) t)
copy_word-after_get_s p {t = t} q is packed cpu without =
    rw (← is) (copy_word-after_read p t (table_of q) (IsReader-of_line p is packed cpu without))

pub returns-in-Moesi-clause-line : goal.returns-in-Moesi-clause-line
returns-in-Moesi-clause-line c =
    let asks = IsReader-of_line c.self.inside c.self.view_is c.self.invariant c.requires.cpu c.requires.without in
    rw (← c.self.view_is, c.in-Moesi.is, c.insert.ensures)
    (unpacked-shared_by_dirty_owner c.self.inside c.args.cpu c.in-Some.owner asks c.in-Some.is c.if-self.true)

pub returns-in_default-clause-line : goal.returns-in_default-clause-line
returns-in_default-clause-line c =
    let asks = IsReader-of_line c.self.inside c.self.view_is c.self.invariant c.requires.cpu c.requires.without in
    rw (← c.self.view_is, c.insert-in_default-2.ensures, c.insert-in_default.ensures)
    (unpacked-shared_by_clean_owner c.self.inside c.args.cpu c.in-Some.owner c.args.protocol asks c.in-Some.is (not_owned c)
    (not_dirty-if_moesi c))

pub returns-in-None-clause-line : goal.returns-in-None-clause-line
returns-in-None-clause-line c =
    let asks = IsReader-of_line c.self.inside c.self.view_is c.self.invariant c.requires.cpu c.requires.without in
    rw (← c.self.view_is)
    (unpacked-first_reader c.self.inside c.args.cpu c.args.protocol asks c.in-None.is (c.is_empty.ensures.0 c.if-is_empty.true))

pub returns-in-None-2-clause-line : goal.returns-in-None-2-clause-line
returns-in-None-2-clause-line c =
    let asks = IsReader-of_line c.self.inside c.self.view_is c.self.invariant c.requires.cpu c.requires.without in
    rw (← c.self.view_is, c.insert-in-None-2.ensures)
    (unpacked-next_reader c.self.inside c.args.cpu c.args.protocol asks c.in-None.is
    (λ none. true≢false (sym (c.is_empty.ensures.1 none) ∙ c.if-is_empty.false)))

pub returns-in-Moesi-clause-word : goal.returns-in-Moesi-clause-word
returns-in-Moesi-clause-word c =
    copy_word-after_get_s c.self.inside c.args.protocol c.self.view_is c.self.invariant c.requires.cpu c.requires.without

pub returns-in_default-clause-word : goal.returns-in_default-clause-word
returns-in_default-clause-word c =
    copy_word-after_get_s c.self.inside c.args.protocol c.self.view_is c.self.invariant c.requires.cpu c.requires.without

pub returns-in-None-clause-word : goal.returns-in-None-clause-word
returns-in-None-clause-word c =
    copy_word-after_get_s c.self.inside c.args.protocol c.self.view_is c.self.invariant c.requires.cpu c.requires.without

pub returns-in-None-2-clause-word : goal.returns-in-None-2-clause-word
returns-in-None-2-clause-word c =
    copy_word-after_get_s c.self.inside c.args.protocol c.self.view_is c.self.invariant c.requires.cpu c.requires.without
