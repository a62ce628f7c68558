-- \csname and \string ("TeX: The Program", sections 372 to 374 and 470 to 472).
use Rattle.std.specs.Prelude.{ℕ, ◌==◌, List, [], ◌∷◌, ◌++◌, codes, if◌then◌else◌}
use Rattle.etx_matter.specs.declared.token.Token.{Token}
use Rattle.etx_matter.specs.declared.token.Token.TheVariants.{Char, Name, Param}
use Rattle.etx_matter.specs.declared.end.End.TheVariants.{Capacity}
use Rattle.etx_matter.specs.declared.end.Limit.TheVariants.{Names}
use Rattle.etx_prims.specs.declared.command.Primitive.TheVariants as prims
use Rattle.etx_keys.specs.declared.key.Key.TheVariants as key
use Rattle.etx_state.specs.declared.key.Val.TheVariants as val
use Rattle.etx_state.specs.declared.key.Meaning.{Meaning}
use Rattle.etx_state.specs.declared.key.Meaning.TheVariants as means
use Rattle.etx_state.specs.declared.scan.ExpansionScan.TheVariants as expansion
use Rattle.etx_state.specs.declared.scan.Scan.TheVariants as scan
use Rattle.etx_state.specs.Values.{assign}
use Rattle.etx_state.specs.Reading.{meaning_in}
use Rattle.etx_state.specs.Rests.{RestState, with_values, number_of, with_name, has_room}
use Rattle.etx_answers.specs.declared.plan.Insert.TheVariants as insert
use Rattle.etx_answers.specs.declared.plan.Move.{Move}
use Rattle.etx_answers.specs.declared.plan.Move.TheVariants.{Used, Copied}
use Rattle.etx_answers.specs.declared.plan.Plan.{Plan}
use Rattle.etx_answers.specs.Answers.{Planned, planned, reading, quiet, used, ends, fails_under, insert_of}
use Rattle.etx_answers.specs.Printing.{spelled, character_tokens}

-- a name that means nothing becomes \relax, in the innermost group
abbrev pub relaxed : ℕ → Meaning → RestState → RestState
relaxed n means.Undefined r = with_values (assign r.values (key.Meaning n) (val.Means (means.Primitive prims.Relax))) r
relaxed n (means.Primitive p) r = r
relaxed n (means.Char code cat) r = r
relaxed n (means.Macro m) r = r
relaxed n (means.CharGiven code) r = r
relaxed n (means.MathGiven code) r = r
relaxed n (means.Register kind number) r = r
relaxed n means.Unexpanded r = r
relaxed n means.EndTemplate r = r

unfoldable pub name_made : List ℕ → RestState → RestState
name_made name r = relaxed (number_of name r) (meaning_in (with_name name r).values (number_of name r)) (with_name name r)

abbrev pub missing_end : List ℕ
missing_end = codes "Missing \\endcsname inserted"

-- at the end of a name its control sequence is read; where \endcsname didn't end it, what did is read behind it
abbrev pub name_over : Token → Meaning → Plan
name_over name (means.Primitive prims.EndCsName) = quiet (Used (insert.Token name))
name_over name mm = fails_under name missing_end used

unfoldable pub name_ended : List ℕ → Meaning → RestState → Planned
name_ended name mm r =
    if has_room name r
    then reading (name_over (Name (record { 0 = number_of name r })) mm) (name_made name r)
    else reading (ends (Capacity Names)) r

-- a character belongs to the name, whatever its category is, unless it is active
unfoldable pub cs_name_row : List ℕ → Token → Meaning → RestState → Planned
cs_name_row name (Char code cat) mm r = if cat == 13 then name_ended name mm r else planned r (Copied (scan.Expansion (expansion.CsName (name ++ code ∷ []))))
cs_name_row name (Name n) mm r = name_ended name mm r
cs_name_row name (Param n) mm r = name_ended name mm r

-- \string gives the characters of a token
unfoldable pub string_row : Token → RestState → Move
string_row t r = Used (insert_of (character_tokens (spelled r t)))
