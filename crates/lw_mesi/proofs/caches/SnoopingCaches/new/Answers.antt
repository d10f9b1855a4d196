-- Proves `SnoopingCaches::new`, which creates empty caches over a memory with these words. After the loop
-- each location has a line without copies (`cache_lines-after_loop`), and such caches satisfy each protocol
-- (`SatisfiesProtocol-empty_caches`).
use Rattle.lw_mesi.proofs.Common.{◌≡◌, ◌≤◌, ◌++◌, ◌∙◌, ℕ, List, arith, drop, length, map, sym, ap, subst}
use Rattle.lw_mesi.proofs.Common.{append-nil, drop_all, length-map, CacheLine, Caches, unheld_cache_line}
use Rattle.lw_mesi.proofs.Common.{SatisfiesProtocol, common_steps}
use Rattle.lw_mesi.proofs.Start.{SatisfiesProtocol-empty_caches}
use Rattle.lw_mesi.proofs.caches.SnoopingCaches.new.Goals as goal

-- If the lines made and empty lines for the words from k on are the empty lines of all words, and k is at least the number of
-- words, then the lines made are the empty lines of all words.
cache_lines-after_loop : (cache_lines : List CacheLine) (words : List ℕ) (k : ℕ)
    → cache_lines ++ map unheld_cache_line (drop k words) ≡ map unheld_cache_line words
    → length words ≤ k
    → cache_lines ≡ map unheld_cache_line words
cache_lines-after_loop cache_lines words k each past =
    sym (append-nil cache_lines)
    ∙ ap (λ (rest : List ℕ). cache_lines ++ map unheld_cache_line rest) (sym (drop_all k words past))
    ∙ each

pub invariant_of-result : goal.invariant_of-result
invariant_of-result g c =
    let cache_lines = cache_lines-after_loop _ c.args.words.now _ c.loop-word.invariant c.loop-word-test.false in (
      omega (arith, ap length cache_lines, length-map c.args.words.now unheld_cache_line, c.requires.words),
      subst (λ (ls : List CacheLine).
          let m : Caches = record { cpus = c.args.cpus; cache_lines = ls } in SatisfiesProtocol g.P.ProtocolType.protocol m)
          (sym cache_lines) (SatisfiesProtocol-empty_caches _ c.args.cpus _ c.requires.cpus),
    )

pub returns-clause-cache_lines : goal.returns-clause-cache_lines
returns-clause-cache_lines g c = cache_lines-after_loop _ c.args.words.now _ c.loop-word.invariant c.loop-word-test.false

pub returns-clause-kept : goal.returns-clause-kept
returns-clause-kept g c = (invariant_of-result g c).1

pub loop-word-preserved : goal.loop-word-preserved
loop-word-preserved g c = grind (arith, common_steps)
