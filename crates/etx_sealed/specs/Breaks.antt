-- The places at which a line may end ("TeX: The Program", sections 866 to 869), by the numbers of their items from 1 on. The
-- end of the paragraph is one of them: its number is one more than the last item's.
use Rattle.std.specs.Prelude.{ℕ, ◌+◌, ◌-◌, ◌==◌, nat_lt, Bool, true, false, not, ◌&&◌, if◌then◌else◌, ℤ, pos, negsuc, int_lt, List, [], ◌∷◌, ◌++◌, length, slice_get, Option, Some, None}
use Rattle.etx_matter.specs.declared.node.Discretionary.{Discretionary}
use Rattle.etx_matter.specs.declared.node.KernKind.{KernKind}
use Rattle.etx_matter.specs.declared.node.KernKind.TheVariants.{Normal, Explicit, Accent}
use Rattle.etx_matter.specs.declared.node.Node.{Node, Node-F, out-Node}
use Rattle.etx_matter.specs.Layers.{NodeLayer}
use Rattle.etx_matter.specs.Sizes.{is_discardable}
use Rattle.etx_sealed.specs.declared.breaks.Scan.{Scan}
use Rattle.etx_sealed.specs.declared.params.BreakParams.{BreakParams}
use Rattle.etx_sealed.specs.Paragraphs.{Paragraph, is_glue}

abbrev pub is_empty : List Node → Bool
is_empty [] = true
is_empty (node ∷ nodes) = false

abbrev pub is_explicit : KernKind → Bool
is_explicit Normal = false
is_explicit Explicit = true
is_explicit Accent = false

-- the penalty of a discretionary: one for a hyphen, and another where it shows nothing before its break
abbrev pub disc_penalty : BreakParams → Discretionary → ℤ
disc_penalty p it = if is_empty it.pre.nodes then p.ex_hyphen_penalty else p.hyphen_penalty

-- an item, if there is one, is glue
abbrev pub glue_in : Option Node → Bool
glue_in None = false
glue_in (Some node) = is_glue node

-- the next item is glue
abbrev pub glue_follows : List Node → Bool
glue_follows nodes = glue_in (slice_get nodes 0)

-- `text` says that the item stands in no formula, `holds` that a break is allowed at glue behind the item before, and `glue`
-- that glue follows
abbrev layer_is_legal : BreakParams → Bool → Bool → Bool → NodeLayer → Bool
layer_is_legal p text holds glue (Node-F.Glue it) = text && holds
layer_is_legal p text holds glue (Node-F.Leaders it leader) = text && holds
layer_is_legal p text holds glue (Node-F.Kern width kind) = text && is_explicit kind && glue
layer_is_legal p text holds glue (Node-F.Math on width) = not on && glue
layer_is_legal p text holds glue (Node-F.Penalty penalty) = int_lt penalty (pos 10_000)
layer_is_legal p text holds glue (Node-F.Disc it) = int_lt (disc_penalty p it) (pos 10_000)
layer_is_legal p text holds glue _ = false

-- whether a line may end at an item that belongs to no other
unfoldable pub is_legal : BreakParams → Bool → Bool → Bool → Node → Bool
is_legal p text holds glue node = layer_is_legal p text holds glue (out-Node node)

abbrev layer_text : Bool → NodeLayer → Bool
layer_text text (Node-F.Math on width) = not on
layer_text text _ = text

-- whether what follows an item stands in no formula
unfoldable pub text_behind : Bool → Node → Bool
text_behind text node = layer_text text (out-Node node)

abbrev layer_holds : Bool → NodeLayer → Bool
layer_holds discardable (Node-F.Kern width kind) = not (is_explicit kind)
layer_holds discardable _ = not discardable

-- a break is allowed at glue behind an item that isn't discardable, and behind a kern that isn't explicit
unfoldable pub holds_glue : Node → Bool
holds_glue node = layer_holds (is_discardable node) (out-Node node)

abbrev layer_replaces : NodeLayer → ℕ
layer_replaces (Node-F.Disc it) = it.replaces
layer_replaces _ = 0

-- how many items behind an item belong to it: a discretionary's are left out where a line is broken at it
unfoldable pub replaces : Node → ℕ
replaces node = layer_replaces (out-Node node)

-- what the breaks from an item on depend on: whether it stands in no formula, whether a break is allowed at glue there, and
-- how many items from it on belong to a discretionary before them
unfoldable pub may_end : BreakParams → Scan → Bool → Node → Bool
may_end p scan glue node = if nat_lt 0 scan.passed then false else is_legal p scan.text scan.holds glue node

unfoldable pub scan_behind : Scan → Node → Scan
scan_behind scan node =
    if nat_lt 0 scan.passed then record scan { passed = scan.passed - 1 }
    else record { text = text_behind scan.text node; holds = holds_glue node; passed = replaces node }

-- glue that comes first is no legal break
abbrev pub scan_start : Scan
scan_start = record { text = true; holds = false; passed = 0 }

-- a place, if it is one of these
abbrev pub if_legal : Bool → ℕ → List ℕ
if_legal true number = number ∷ []
if_legal false number = []

-- the legal breaks among items of which the first has this number
unfoldable pub breaks_from : BreakParams → ℕ → Scan → List Node → List ℕ
breaks_from p number scan [] = []
breaks_from p number scan (node ∷ nodes) =
    if_legal (may_end p scan (glue_follows nodes) node) number ++ breaks_from p (number + 1) (scan_behind scan node) nodes

abbrev pub end_of : Paragraph → ℕ
end_of p = length p.list + 1

unfoldable pub legal_breaks : Paragraph → List ℕ
legal_breaks p = breaks_from p.params.breaks 1 scan_start p.list ++ (end_of p ∷ [])

-- the item of a number; there is none at the start and at the end
unfoldable pub item_at : List Node → ℕ → Option Node
item_at nodes k = if k == 0 then None else slice_get nodes (k - 1)

abbrev layer_penalty : BreakParams → NodeLayer → ℤ
layer_penalty p (Node-F.Penalty penalty) = penalty
layer_penalty p (Node-F.Disc it) = disc_penalty p it
layer_penalty p _ = pos 0

abbrev layer_is_hyphen : NodeLayer → Bool
layer_is_hyphen (Node-F.Disc it) = true
layer_is_hyphen _ = false

unfoldable pub penalty_of : BreakParams → Node → ℤ
penalty_of p node = layer_penalty p (out-Node node)

unfoldable pub is_hyphen : Node → Bool
is_hyphen node = layer_is_hyphen (out-Node node)

-- a break without an item is the end of the paragraph: it is forced, and counts as hyphenated
abbrev pub penalty_in : BreakParams → Option Node → ℤ
penalty_in p None = negsuc 9_999
penalty_in p (Some node) = penalty_of p node

abbrev pub hyphenated_in : Option Node → Bool
hyphenated_in None = true
hyphenated_in (Some node) = is_hyphen node

-- the penalty of a break
unfoldable pub penalty_at : Paragraph → ℕ → ℤ
penalty_at p j = if j == 0 then pos 0 else penalty_in p.params.breaks (slice_get p.list (j - 1))

-- whether a line that ends at a break counts as hyphenated
unfoldable pub is_hyphenated : Paragraph → ℕ → Bool
is_hyphenated p j = if j == 0 then false else hyphenated_in (slice_get p.list (j - 1))
