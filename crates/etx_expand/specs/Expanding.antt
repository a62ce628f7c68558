-- What an expandable token begins ("TeX: The Program", sections 366 to 372).
use Rattle.std.specs.Prelude.{ℕ, Bool, true, false, List, [], ◌∷◌, codes, if◌then◌else◌}
use Rattle.etx_matter.specs.declared.token.Token.{Token}
use Rattle.etx_matter.specs.declared.end.End.TheVariants.{Unbuilt}
use Rattle.etx_macros.specs.Feeding.{started}
use Rattle.etx_state.specs.declared.scan.ExpansionScan.{ExpansionScan}
use Rattle.etx_state.specs.declared.scan.ExpansionScan.TheVariants as expansion
use Rattle.etx_state.specs.declared.scan.Scan.TheVariants as scan
use Rattle.etx_state.specs.Macros.{MacroState}
use Rattle.etx_answers.specs.declared.meaning.Expandable.{Expandable}
use Rattle.etx_answers.specs.declared.meaning.Expandable.TheVariants as expandable
use Rattle.etx_answers.specs.declared.plan.Insert.TheVariants as insert
use Rattle.etx_answers.specs.declared.plan.Push.TheVariants as push
use Rattle.etx_answers.specs.declared.plan.Start.{Start}
use Rattle.etx_state.specs.declared.scan.ExpansionNumber.{ExpansionNumber}
use Rattle.etx_state.specs.declared.scan.ExpansionNumber.TheVariants as takes
use Rattle.etx_state.specs.declared.scan.ExpansionText.{ExpansionText}
use Rattle.etx_state.specs.declared.scan.ExpansionText.TheVariants as texts
use Rattle.etx_state.specs.declared.scan.TextFinish.TheVariants as finish
use Rattle.etx_state.specs.declared.taker.Want.{Want}
use Rattle.etx_state.specs.declared.taker.Want.TheVariants as want
use Rattle.etx_state.specs.Rests.{RestState}
use Rattle.etx_answers.specs.Answers.{Begun, starting, nothing, start_ends, start_fails}
use Rattle.etx_conditionals.specs.Conditionals.{number_for, if_begun, fi_or_else_begun}
use Rattle.etx_expand.specs.Converting.{written}
use Rattle.etx_numbers.specs.Numbers.{integer}
use Rattle.etx_expand.specs.Texts.{text_for}

abbrev pub scan_begun : ExpansionScan → Start
scan_begun e = starting (push.Begin (scan.Expansion e))

-- a macro whose call is its name alone
abbrev pub is_plain : List (List Token) → Bool
is_plain ([] ∷ []) = true
is_plain _ = false

-- Such a macro stands for its body. Of another one the call is read.
abbrev pub macro_begun : Token → MacroState → Start
macro_begun name m =
    if is_plain m.parts then starting (push.Insert (insert.Text m.body))
    else scan_begun (expansion.Call (record { name = name; definition = m; matcher = started m.parts m.is_long; is_cut = false }))

abbrev pub undefined : Start
undefined = start_fails (codes "Undefined control sequence") nothing

-- what begins, where the rest stays as it is
abbrev pub beginning : Start → RestState → Begun
beginning s r = record { rest = r; start = s }

-- a number or a text that expansion takes
abbrev pub number_begun : Want → ExpansionNumber → Start
number_begun w f = starting (push.Begin (number_for w f))

abbrev pub text_begun : Token → ExpansionText → Start
text_begun reader f = starting (push.Begin (scan.Text (text_for reader false) (finish.Expansion f)))

-- a line for each kind of expandable token
unfoldable pub expansion_begun : Expandable → Token → ℕ → RestState → Begun
expansion_begun expandable.Undefined t line r = beginning undefined r
expansion_begun expandable.ExpandAfter t line r = beginning (scan_begun expansion.ExpandAfter) r
expansion_begun expandable.NoExpand t line r = beginning (scan_begun expansion.NoExpand) r
expansion_begun expandable.CsName t line r = beginning (scan_begun (expansion.CsName [])) r
expansion_begun expandable.Unless t line r = beginning (scan_begun expansion.Unless) r
expansion_begun expandable.StringOf t line r = beginning (scan_begun expansion.StringOf) r
expansion_begun expandable.MeaningOf t line r = beginning (scan_begun expansion.MeaningOf) r
expansion_begun expandable.Number t line r = beginning (number_begun integer takes.Number) r
expansion_begun expandable.RomanNumeral t line r = beginning (number_begun integer takes.RomanNumeral) r
expansion_begun expandable.JobName t line r = beginning (starting (push.Insert (written r.job))) r
expansion_begun expandable.Revision t line r = beginning (starting (push.Insert (written (codes ".6")))) r
expansion_begun (expandable.The is_kept) t line r = beginning (number_begun want.Whole (takes.The is_kept)) r
expansion_begun (expandable.Unexpanded is_kept) t line r = beginning (text_begun t (texts.Unexpanded is_kept)) r
expansion_begun expandable.Detokenize t line r = beginning (text_begun t texts.Detokenize) r
expansion_begun (expandable.If kind) t line r = if_begun kind false line r
expansion_begun (expandable.FiOrElse kind) t line r = fi_or_else_begun kind t line r
expansion_begun (expandable.Call m) t line r = beginning (macro_begun t m) r
expansion_begun expandable.Unbuilt t line r = beginning (start_ends Unbuilt) r
