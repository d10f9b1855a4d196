-- `word_of_register` returns the word of a register of a thread that the program has: the key's number leads to the thread's state.
use Rattle.lw_search.proofs.Common.{◌∙◌, ◌<◌, arith, length, slice_get-in_range}
use Rattle.lw_search.proofs.ObservedOutcomes.{final_word-register}
use Rattle.lw_search.proofs.observed.word_of_register.Goals as goal

pub returns : goal.returns
returns g c = λ s is_represented as_many.
    let lt : c.args.cpu < length s.processors =
    omega (arith, c.if-len-index.false, c.len.ensures, c.index.ensures.value, as_many) in
    let p = slice_get-in_range s.processors c.args.cpu lt in
    c.register_of.ensures p.0 (is_represented.threads c.args.cpu p.0 p.1) ∙ final_word-register s c.args.cpu c.args.reg p.0 p.1
