-- Proves `restart` of the caches, which empties them and writes the initial words to memory. After the loop
-- all lines are overwritten, since there are as many words as lines (`caches_empty-after_loop`).
use Rattle.lw_mesi.proofs.Common.{◌≡◌, ◌≤◌, ◌<◌, ◌∙◌, ℕ, List, arith, length, length-set, map, take, refl}
use Rattle.lw_mesi.proofs.Common.{sym, ap, subst, take_all, length-map, map_more, take_more_set, most_threads}
use Rattle.lw_mesi.proofs.Common.{Caches, CacheLine, unheld_cache_line, empty_caches, coherent_word}
use Rattle.lw_mesi.proofs.Common.{coherent_words, SatisfiesProtocol}
use Rattle.lw_mesi.proofs.Start.{coherent_words-empty_caches, SatisfiesProtocol-empty_caches}
use Rattle.lw_mesi.proofs.caches.SnoopingCachesMemorySystem.restart.Goals as goal

-- If the first k lines are empty lines for the first k words, k is at least the number of words, and there are as many words as
-- lines, then the caches are the empty caches over the words.
caches_empty-after_loop : {cache_lines old : List CacheLine} {cpus was k : ℕ} (before : Caches) (words : List ℕ)
    → (let m : Caches = record { cpus = was; cache_lines = old } in m) ≡ before
    → cpus ≡ was
    → length cache_lines ≡ length old
    → take k cache_lines ≡ map unheld_cache_line (take k words)
    → length words ≤ k
    → length words ≡ length (coherent_words before)
    → (let m : Caches = record { cpus = cpus; cache_lines = cache_lines } in m) ≡ empty_caches before.cpus words
caches_empty-after_loop {cache_lines = cache_lines} {old = old} {k = k} before words is same many each past as_many =
    let olds = sym (length-map old coherent_word) ∙ ap (λ m. length (coherent_words m)) is ∙ sym as_many in
    let all : cache_lines ≡ map unheld_cache_line words =
    sym (take_all k cache_lines (omega (arith, many, olds))) ∙ each ∙ ap (map unheld_cache_line) (take_all k words past) in
    rw (all, same ∙ ap (λ (m : Caches). m.cpus) is) refl

-- One more line is emptied, and has its initial word.
pub loop-index-preserved : goal.loop-index-preserved
loop-index-preserved g c =
    let cache_lines = c.loop-index.self-inside.cache_lines.items in
    let k = c.loop-index.index in
    let words = c.args.words.now in
    let as_many : length c.self.inside.cache_lines.items ≡ length words =
    sym (length-map c.self.inside.cache_lines.items coherent_word)
    ∙ ap (λ (m : Caches). length (coherent_words m)) c.self.view_is
    ∙ sym c.requires in
    let within : k < length cache_lines = omega (arith, c.loop-index.invariant.many, as_many) in
    record {
      cpus = c.loop-index.invariant.cpus;
      many = length-set cache_lines k c.new.result ∙ c.loop-index.invariant.many;
      cache_lines =
          take_more_set cache_lines k c.new.result within
          ∙ rw (c.loop-index.invariant.cache_lines, c.new.ensures)
          (sym (map_more unheld_cache_line words k 0 c.loop-index-test.true));
    }

pub returns-clause-start : goal.returns-clause-start
returns-clause-start g c =
    caches_empty-after_loop c.args.self.now c.args.words.now c.self.view_is c.loop-index.invariant.cpus
    c.loop-index.invariant.many c.loop-index.invariant.cache_lines c.loop-index-test.false c.requires

pub returns-clause-words : goal.returns-clause-words
returns-clause-words g c = ap coherent_words (returns-clause-start g c) ∙ coherent_words-empty_caches c.args.self.now.cpus _

pub returns-clause-sound : goal.returns-clause-sound
returns-clause-sound g c =
    let few : c.args.self.now.cpus ≤ most_threads =
    omega (arith, ap (λ (m : Caches). m.cpus) c.self.view_is, c.self.invariant.1.coherent.bounded) in
    subst (SatisfiesProtocol g.P.ProtocolType.protocol) (sym (returns-clause-start g c))
    (SatisfiesProtocol-empty_caches _ _ _ few)

pub invariant_of-self : goal.invariant_of-self
invariant_of-self g c = (omega (arith, c.loop-index.invariant.many, c.self.invariant.0), returns-clause-sound g c)
