-- Texts in braces, expanded or not ("TeX: The Program", sections 403 and 473 to 478).
use Rattle.std.specs.Prelude.{ℕ, ◌+◌, ◌-◌, Bool, ◌==◌, ◌||◌, List, [], ◌∷◌, ◌++◌, codes, if◌then◌else◌}
use Rattle.etx_matter.specs.declared.token.Token.{Token}
use Rattle.etx_macros.specs.declared.mark.Brace.{Brace}
use Rattle.etx_macros.specs.declared.mark.Brace.TheVariants.{Left, Right, Neither}
use Rattle.etx_macros.specs.Marks.{brace_of}
use Rattle.etx_state.specs.declared.key.Meaning.{Meaning}
use Rattle.etx_state.specs.declared.scan.TextPlace.{TextPlace}
use Rattle.etx_state.specs.declared.scan.TextPlace.TheVariants as place
use Rattle.etx_state.specs.declared.scan.OpenText.{OpenText}
use Rattle.etx_state.specs.declared.scan.TextFinish.{TextFinish}
use Rattle.etx_state.specs.declared.scan.Scan.{Scan}
use Rattle.etx_state.specs.declared.scan.Scan.TheVariants as scan
use Rattle.etx_state.specs.declared.scan.Value.TheVariants as value
use Rattle.etx_answers.specs.declared.plan.Move.{Move}
use Rattle.etx_answers.specs.declared.plan.Move.TheVariants.{Stay, Copied, Gives}
use Rattle.etx_answers.specs.declared.plan.Plan.{Plan}
use Rattle.etx_answers.specs.Answers.{quiet, fails_back}
use Rattle.etx_answers.specs.Meanings.{has_category, is_relax}

-- a text that this control sequence reads, expanded or not, before its left brace
abbrev pub text_for : Token → Bool → OpenText
text_for reader is_expanded = record { reader = reader; is_expanded = is_expanded; place = place.Before; items = [] }

-- a space, or \relax
abbrev pub is_blank : Meaning → Bool
is_blank mm = has_category 10 mm || is_relax mm

abbrev pub inside : ℕ → OpenText → TextFinish → Scan
inside depth o f = scan.Text (record o { place = place.Inside depth }) f

unfoldable pub before_text_row : OpenText → TextFinish → Meaning → Plan
before_text_row o f mm =
    if is_blank mm then quiet (Stay (scan.Text o f))
    else if has_category 1 mm then quiet (Stay (inside 0 o f))
    else fails_back (codes "Missing { inserted") (Stay (inside 0 o f))

-- the text with this token more
abbrev pub text_goes_on : ℕ → OpenText → TextFinish → Token → Move
text_goes_on depth o f t = Copied (inside depth (record o { items = o.items ++ t ∷ [] }) f)

-- a text is whole at the right brace that has no partner in it
abbrev pub inside_by : Brace → ℕ → OpenText → TextFinish → Token → Move
inside_by Left depth o f t = text_goes_on (depth + 1) o f t
inside_by Right depth o f t = if depth == 0 then Gives (value.Text o.items f) else text_goes_on (depth - 1) o f t
inside_by Neither depth o f t = text_goes_on depth o f t

abbrev pub text_by : TextPlace → OpenText → TextFinish → Token → Meaning → Plan
text_by place.Before o f t mm = before_text_row o f mm
text_by (place.Inside depth) o f t mm = quiet (inside_by (brace_of t) depth o f t)

unfoldable pub text_row : OpenText → TextFinish → Token → Meaning → Plan
text_row o f t mm = text_by o.place o f t mm
