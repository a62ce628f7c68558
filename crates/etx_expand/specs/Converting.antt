-- What expansion writes: numbers, meanings, lists of tokens and their characters ("TeX: The Program", sections 465 to 472; the e-TeX
-- manual for \unexpanded and \detokenize).
use Rattle.std.specs.Prelude.{ℕ, Bool, List, Option, Some, None}
use Rattle.etx_exprs.specs.declared.value.Value.{Value as Amount}
use Rattle.etx_matter.specs.declared.token.Token.{Token}
use Rattle.etx_state.specs.declared.key.Meaning.{Meaning}
use Rattle.etx_state.specs.declared.scan.ExpansionNumber.{ExpansionNumber}
use Rattle.etx_state.specs.declared.scan.ExpansionNumber.TheVariants as takes
use Rattle.etx_state.specs.declared.scan.ExpansionText.{ExpansionText}
use Rattle.etx_state.specs.declared.scan.ExpansionText.TheVariants as texts
use Rattle.etx_state.specs.Rests.{RestState}
use Rattle.etx_answers.specs.declared.plan.Insert.{Insert}
use Rattle.etx_answers.specs.declared.plan.Move.TheVariants as move
use Rattle.etx_answers.specs.declared.plan.Plan.{Plan}
use Rattle.etx_answers.specs.declared.plan.Then.TheVariants as afterwards
use Rattle.etx_answers.specs.declared.plan.Ended.{Ended}
use Rattle.etx_answers.specs.Answers.{Finished, quiet, quiet_end, insert_of}
use Rattle.etx_conditionals.specs.Conditionals.{decided, ended_decided, first_taken, holds, is_odd, case_taken}
use Rattle.etx_answers.specs.Printing.{character_tokens, tokens_text}
use Rattle.etx_answers.specs.Reads.{kept_by}
use Rattle.etx_answers.specs.Showing.{integer_text, roman_text, amount_text, meaning_text}
use Rattle.etx_numbers.specs.Taking.{amount_in}

-- characters are read next
abbrev pub written : List ℕ → Insert
written text = insert_of (character_tokens text)

unfoldable pub meaning_row : Meaning → RestState → Plan
meaning_row mm r = quiet (move.Used (written (meaning_text mm r)))

abbrev pub text_ended : List ℕ → Ended
text_ended text = quiet_end (afterwards.Insert (written text))

abbrev pub text_finished : List ℕ → RestState → Finished
text_finished text r = record { rest = r; ended = text_ended text }

-- a line for each number that expansion takes
unfoldable pub number_given : ExpansionNumber → Amount → ℕ → RestState → Finished
number_given takes.Number a line r = text_finished (integer_text (amount_in a)) r
number_given takes.RomanNumeral a line r = text_finished (roman_text (amount_in a)) r
number_given (takes.The is_kept) a line r = text_finished (amount_text a) r
number_given (takes.First t is_dimension) a line r = first_taken t is_dimension (amount_in a) r
number_given (takes.Second t n o) a line r = ended_decided (decided t (holds n o (amount_in a)) line r)
number_given (takes.Odd t) a line r = ended_decided (decided t (is_odd (amount_in a)) line r)
number_given (takes.Case t) a line r = case_taken t (amount_in a) line r

-- a line for each text that expansion takes
unfoldable pub text_given : ExpansionText → List Token → RestState → Ended
text_given (texts.Unexpanded is_kept) ts r = quiet_end (afterwards.Insert (kept_by is_kept ts))
text_given texts.Detokenize ts r = text_ended (tokens_text r ts)
