-- Proves `words_of`, which returns an outcome's words of these names. Each name is in range of the outcome,
-- as `word_of` requires, and `map_prefix-push` appends its word.
use Rattle.lw_report.proofs.Common.{◌∙◌, length, subst, sym, All-get_or, IsSeenInRange}
use Rattle.lw_report.proofs.Names.{map_prefix-push, map_prefix-all}
use Rattle.lw_report.proofs.projection.words_of.Goals as goal

-- Each name is in range of the outcome.
pub word_of-requires : goal.word_of-requires
word_of-requires g c =
    let outcome = c.args.outcome.now in
    let there =
    All-get_or (IsSeenInRange (length outcome.regs) (length outcome.words)) c.args.names.now c.loop-name.name-index
    c.name-item.result c.loop-name-test.true c.requires.names in
    record {
      name = subst (IsSeenInRange (length outcome.regs) (length outcome.words)) (sym c.name-item.is) there;
      outcome = c.requires.outcome;
    }

pub loop-name-init : goal.loop-name-init
loop-name-init g c = c.in_ok-words.ensures.items

pub loop-name-preserved : goal.loop-name-preserved
loop-name-preserved g c =
    map_prefix-push _ c.args.names.now _ _ c.loop-name.invariant c.name-item.result c.word_of.result c.push.new.self.items
    c.loop-name-test.true c.name-item.is c.word_of.ensures c.in_ok-push.ensures.items

pub returns : goal.returns
returns g c = c.from.ensures ∙ map_prefix-all _ c.args.names.now _ _ c.loop-name.invariant c.loop-name-test.false
