-- Law: a frame says at most one source test. It is the law of all languages (`test-unique`), applied to the
-- source grammar, which satisfies the rule of cells (`source_grammar_is_lawful`).
use Rattle.lw_statements.proofs.api.Tests.{test-unique}
use Rattle.lw_source.specs.Grammar.{source_grammar}
use Rattle.lw_source.proofs.SourceLaws.{source_grammar_is_lawful}
use Rattle.lw_source.proofs.read.a_frame_has_one_source.Goals as goal

pub returns : goal.returns
returns c = test-unique source_grammar source_grammar_is_lawful
