-- Empty caches are coherent, have only states of each protocol, and their content is memory. For `new` and
-- `restart` of the caches, and for the law about empty caches.
use Rattle.lw_mesi.proofs.Common.{◌≡◌, ℕ, zero, suc, ◌<◌, ◌≤◌, List, [], ◌∷◌, length, map, replicate, get_or}
use Rattle.lw_mesi.proofs.Common.{refl, sym, ap, subst, arith, most_threads, Protocol, Invalid}
use Rattle.lw_mesi.proofs.Common.{unheld_cache_line, empty_caches, copy_of, cache_line_at, coherent_word}
use Rattle.lw_mesi.proofs.Common.{coherent_words, IsOnlyCopy, IsDirty, IsProtocolState, HasProtocolStates}
use Rattle.lw_mesi.proofs.Common.{LineSatisfiesProtocol, SatisfiesProtocol, copy_word-none_if_invalid}
use Rattle.lw_mesi.proofs.Common.{IsProtocolState-invalid}

-- The content of empty caches is memory's words.
pub coherent_words-empty_caches : (cpus : ℕ) (words : List ℕ) → coherent_words (empty_caches cpus words) ≡ words
coherent_words-empty_caches n [] = refl
coherent_words-empty_caches n (w ∷ ws) = ap (λ r. w ∷ r) (coherent_words-empty_caches n ws)

-- Whatever the index, a list that repeats one item has it there, or it is the default.
get_or-replicate : {A : Type 0} (a : A) (n t : ℕ) → get_or (replicate n a) t a ≡ a
get_or-replicate a (suc n) (suc t) = get_or-replicate a n t
get_or-replicate a _ _ = refl

-- In a cache line that no processor holds every copy is invalid.
copy_of-unheld : (w t : ℕ) → copy_of (unheld_cache_line w) t ≡ Invalid
copy_of-unheld w t = get_or-replicate Invalid most_threads t

-- The copies of a cache line that no processor holds are in states of each protocol.
HasProtocolStates-unheld : (p : Protocol) (w : ℕ) → HasProtocolStates p (unheld_cache_line w)
HasProtocolStates-unheld p w = λ t. subst (IsProtocolState p) (sym (copy_of-unheld w t)) (IsProtocolState-invalid p)

-- A cache line that no processor holds satisfies each protocol.
LineSatisfiesProtocol-unheld : (p : Protocol) (w : ℕ) → LineSatisfiesProtocol p (unheld_cache_line w)
LineSatisfiesProtocol-unheld p w = record {
  coherent = record {
    as_many = refl;
    no_other_copy = λ t u own ne. absurd (subst IsOnlyCopy (copy_of-unheld w t) own);
    one_dirty = λ t u d e. absurd (subst IsDirty (copy_of-unheld w t) d);
    same_word = λ t k h.
        copy_word-none_if_invalid (copy_of (unheld_cache_line w) t) k (coherent_word (unheld_cache_line w)) (copy_of-unheld w t)
        h;
  };
  states = HasProtocolStates-unheld p w;
}

-- Each cache line of empty caches satisfies each protocol.
LineSatisfiesProtocol-empty_caches : (p : Protocol) (words : List ℕ) (x : ℕ)
    → x < length (map unheld_cache_line words)
    → LineSatisfiesProtocol p (cache_line_at (map unheld_cache_line words) x)
LineSatisfiesProtocol-empty_caches p [] x lt = absurd (omega arith)
LineSatisfiesProtocol-empty_caches p (w ∷ ws) zero lt = LineSatisfiesProtocol-unheld p w
LineSatisfiesProtocol-empty_caches p (w ∷ ws) (suc x) lt = LineSatisfiesProtocol-empty_caches p ws x (omega arith)

-- Empty caches of at most `most_threads` processors satisfy each protocol.
pub SatisfiesProtocol-empty_caches : (p : Protocol) (cpus : ℕ) (words : List ℕ)
    → cpus ≤ most_threads
    → SatisfiesProtocol p (empty_caches cpus words)
SatisfiesProtocol-empty_caches p cpus words few = record {
  coherent = record { bounded = few; cache_lines = λ x lt. (LineSatisfiesProtocol-empty_caches p words x lt).coherent };
  states = λ x lt. (LineSatisfiesProtocol-empty_caches p words x lt).states;
}
