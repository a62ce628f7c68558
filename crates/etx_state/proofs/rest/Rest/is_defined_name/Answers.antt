use Rattle.std.proofs.Common.{◌≡◌, ℕ, Bool, true, not, List, ap, ◌∙◌, refl}
use Rattle.etx_state.specs.declared.key.Meaning.{Meaning}
use Rattle.etx_state.specs.Naming.{has_name, place_of}
use Rattle.etx_state.specs.Reading.{meaning_in}
use Rattle.etx_state.specs.Rests.{RestState, rest_of, number_of, is_undefined, is_defined_name}
use Rattle.etx_state.proofs.rest.Rest.is_defined_name.Goals as goal

-- a name that has a number
has_number : (name : List ℕ) (r : RestState) (n : ℕ) (mm : Meaning) (b : Bool) → has_name r.names name ≡ true → place_of r.names name ≡ n → mm ≡ meaning_in r.values n → b ≡ is_undefined mm → not b ≡ is_defined_name name r
unfolding number_of
has_number name r n mm b known place means is = rw (known, place) (ap not (is ∙ ap is_undefined means))

pub returns-in-Some : goal.returns-in-Some
returns-in-Some c = has_number c.args.name.now (rest_of c.args.self.now) c.in-Some.number.0 c.meaning.result.now c.is_undefined.result c.in-Some.ensures.known c.in-Some.ensures.place c.meaning.ensures c.is_undefined.ensures
