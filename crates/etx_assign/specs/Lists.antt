-- Lists of tokens as values ("TeX: The Program", sections 1226 and 1227).
use Rattle.std.specs.Prelude.{ℕ, Bool, true, false, not, ◌&&◌, ◌||◌, List, [], ◌∷◌, ◌++◌, Option, Some, None, codes, if◌then◌else◌}
use Rattle.etx_matter.specs.declared.token.Token.{Token}
use Rattle.etx_matter.specs.declared.token.Token.TheVariants.{Char}
use Rattle.etx_prims.specs.declared.command.Primitive.{Primitive}
use Rattle.etx_prims.specs.declared.command.Primitive.TheVariants as prims
use Rattle.etx_prims.specs.declared.quantities.RegisterKind.{RegisterKind}
use Rattle.etx_prims.specs.declared.quantities.RegisterKind.TheVariants as registers
use Rattle.etx_prims.specs.declared.parameters.TokenParam.{TokenParam}
use Rattle.etx_prims.specs.declared.parameters.TokenParam.TheVariants as params
use Rattle.etx_keys.specs.declared.key.Key.{Key}
use Rattle.etx_keys.specs.declared.key.Key.TheVariants as key
use Rattle.etx_state.specs.declared.key.Val.TheVariants as val
use Rattle.etx_state.specs.declared.key.Meaning.{Meaning}
use Rattle.etx_state.specs.declared.key.Meaning.TheVariants as means
use Rattle.etx_state.specs.declared.scan.AssignNumber.TheVariants as takes
use Rattle.etx_state.specs.declared.scan.AssignScan.TheVariants as assign
use Rattle.etx_state.specs.declared.scan.AssignText.{AssignText}
use Rattle.etx_state.specs.declared.scan.AssignText.TheVariants as texts
use Rattle.etx_state.specs.declared.scan.TextFinish.TheVariants as finish
use Rattle.etx_state.specs.declared.scan.TextPlace.TheVariants as place
use Rattle.etx_state.specs.declared.scan.Scan.{Scan}
use Rattle.etx_state.specs.declared.scan.Scan.TheVariants as scan
use Rattle.etx_state.specs.declared.taker.NumberScan.TheVariants as number
use Rattle.etx_state.specs.Reading.{tokens_at}
use Rattle.etx_state.specs.Rests.{RestState}
use Rattle.etx_answers.specs.declared.plan.Move.TheVariants as move
use Rattle.etx_answers.specs.Answers.{Planned, planned, reading, Finished, fails_back}
use Rattle.etx_answers.specs.Meanings.{has_category, is_relax}
use Rattle.etx_numbers.specs.Numbers.{integer, is_other}
use Rattle.etx_expand.specs.Texts.{text_for}
use Rattle.etx_assign.specs.declared.lists.Source.{Source}
use Rattle.etx_assign.specs.declared.lists.Source.TheVariants as source
use Rattle.etx_assign.specs.Assignments.{with_fitting, over, scan_over, value_over}
use Rattle.etx_assign.specs.Arithmetic.{taker_for}

-- ---- where a list comes from that isn't written out

abbrev pub source_kind : RegisterKind → Source
source_kind registers.Toks = source.Register
source_kind _ = source.Nothing

abbrev pub source_primitive : Primitive → Source
source_primitive (prims.TokenParam p) = source.Key (key.Tokens p)
source_primitive (prims.Register kind) = source_kind kind
source_primitive _ = source.Nothing

abbrev pub source_register : RegisterKind → ℕ → Source
source_register registers.Toks n = source.Key (key.Register registers.Toks n)
source_register _ n = source.Nothing

unfoldable pub source_of : Meaning → Source
source_of (means.Primitive p) = source_primitive p
source_of (means.Register kind n) = source_register kind n
source_of _ = source.Nothing

-- ---- a list gets a token

-- the list comes next, inside its braces
abbrev pub list_text : Key → Bool → Token → Scan
list_text k is_global reader = scan.Text (record (text_for reader false) { place = place.Inside 0 }) (finish.Assign (texts.List k is_global))

abbrev pub with_list : Key → Bool → List Token → RestState → RestState
with_list k is_global ts r = with_fitting k is_global (val.Tokens ts) r

abbrev pub list_by : Source → Key → Bool → Token → RestState → Planned
list_by (source.Key from) k is_global reader r = scan_over (over (with_list k is_global (tokens_at r.values from) r))
list_by source.Register k is_global reader r = planned r (move.Begin (scan.Number (number.Start integer) (taker_for (takes.ListOf k is_global))))
list_by source.Nothing k is_global reader r = reading (fails_back (codes "Missing { inserted") (move.Begin (list_text k is_global reader))) r

abbrev pub list_begun : Key → Bool → Token → Meaning → RestState → Planned
list_begun k is_global reader mm r = if has_category 1 mm then planned r (move.Begin (list_text k is_global reader)) else list_by (source_of mm) k is_global reader r

-- spaces are skipped, one equals sign, and behind that \relax
unfoldable pub list_row : Key → Bool → Token → Bool → Token → Meaning → RestState → Planned
list_row k is_global reader is_behind t mm r =
    if has_category 10 mm || (not is_behind && is_other 61 t) || is_relax mm
    then planned r (move.Stay (scan.Assign (assign.List k is_global reader (is_behind || not (has_category 10 mm)))))
    else list_begun k is_global reader mm r

-- ---- a list that was written out

-- that of an output routine stands in braces
abbrev pub in_braces : List Token → List Token
in_braces [] = []
in_braces (t ∷ ts) = Char 123 1 ∷ (t ∷ ts) ++ Char 125 2 ∷ []

abbrev pub is_output_parameter : TokenParam → Bool
is_output_parameter params.Output = true
is_output_parameter _ = false

abbrev pub is_output : Key → Bool
is_output (key.Tokens p) = is_output_parameter p
is_output _ = false

abbrev pub list_for : Key → List Token → List Token
list_for k ts = if is_output k then in_braces ts else ts

unfoldable pub list_given : AssignText → List Token → RestState → Finished
list_given (texts.List k is_global) ts r = value_over (over (with_list k is_global (list_for k ts) r))
