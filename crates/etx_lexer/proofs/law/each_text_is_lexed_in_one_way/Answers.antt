-- The laws of the rules and the function.
use Rattle.etx_lexer.proofs.Laws.{lexes_of, only_lexed, lexed_is_shorter}
use Rattle.etx_lexer.proofs.law.each_text_is_lexed_in_one_way.Goals as goal

pub returns-clause-one : goal.returns-clause-one
returns-clause-one c = lexes_of

pub returns-clause-only : goal.returns-clause-only
returns-clause-only c = λ cats text rest state behind lexed l. only_lexed cats l

pub returns-clause-shorter : goal.returns-clause-shorter
returns-clause-shorter c = lexed_is_shorter
