-- The machine of ligatures ends: each pair of neighbours comes to something, and each step leaves less work.
use Rattle.std.proofs.Common.{◌≡◌, ℕ, zero, suc, ◌+◌, ◌-◌, ◌<◌, ◌≤◌, min, Bool, true, false, ◌==◌, ◌&&◌, ◌||◌, List, [], ◌∷◌, map, drop, unwrap_or, Option, None, Some, refl, sym, ap, subst, ◌∙◌, inl, inr, arith}
use Rattle.std.specs.Option.{is_none, option_and_then}
use Rattle.std.proofs.lemmas.Bool.{cases_lt, le-ltb}
use Rattle.std.proofs.lemmas.Option.{slice_get_past}
use Rattle.etx_matter.specs.declared.node.Node.{Node}
use Rattle.etx_matter.specs.declared.font.PairAction.{PairAction}
use Rattle.etx_matter.specs.declared.font.PairAction.TheVariants.{Kern, Ligature}
use Rattle.etx_matter.specs.declared.font.FontInfo.{FontInfo}
use Rattle.etx_matter.specs.declared.font.LigItem.{LigItem}
use Rattle.etx_matter.specs.declared.font.LigItem.TheVariants.{Boundary, Glyph}
use Rattle.etx_matter.specs.declared.font.LigStep.{LigStep}
use Rattle.etx_matter.specs.declared.font.LigStep.TheVariants.{Pair, Elsewhere}
use Rattle.etx_matter.specs.Fonts.{FontState, info_at, has_bad_among}
use Rattle.etx_matter.specs.Soundness.{IsSound, has_bad_steps}
use Rattle.etx_matter.specs.Ligatures.{action_between, found_in, names, last, any_below, some_item, deepest, comes_round, program_of}
use Rattle.etx_tfm.specs.declared.pairs.Task.{Task}
use Rattle.etx_tfm.specs.declared.pairs.Task.TheVariants as task
use Rattle.etx_tfm.specs.declared.piece.Edges.{Edges}
use Rattle.etx_tfm.specs.declared.piece.Piece.{Piece}
use Rattle.etx_tfm.specs.Pairs.{task_of, task_between}
use Rattle.etx_tfm.specs.Machine.{item_of, place, by_action, stepped, passed, edges_with, made_of}
use Rattle.etx_tfm.proofs.Knowing.{by_task, last-zero, last-suc, last-by}

-- what is found with so many pairs one within the other is found with one more
stable-twice : (font : FontInfo) (depth : ℕ) (x y m z : LigItem)
    → ((u v w : LigItem) → last font depth u v ≡ Some w → last font (suc depth) u v ≡ Some w)
    → (o : Option LigItem) → last font depth x m ≡ o → option_and_then (λ end. last font depth end y) o ≡ Some z
    → option_and_then (λ end. last font (suc depth) end y) (last font (suc depth) x m) ≡ Some z
stable-twice font depth x y m z on None k h = absurd (cc)
stable-twice font depth x y m z on (Some end) k h =
    ap (λ o. option_and_then (λ end. last font (suc depth) end y) o) (on x m end k) ∙ on end y z h

stable-by : (font : FontInfo) (depth : ℕ) (x y z : LigItem)
    → ((u v w : LigItem) → last font depth u v ≡ Some w → last font (suc depth) u v ≡ Some w)
    → (t : Task) → by_task (last font depth) x y t ≡ Some z → by_task (last font (suc depth)) x y t ≡ Some z
stable-by font depth x y z on (task.Here w) h = h
stable-by font depth x y z on (task.Pair u v) h = on u v z h
stable-by font depth x y z on (task.Twice m) h = stable-twice font depth x y m z on (last font depth x m) refl h

pub stable : (font : FontInfo) (depth : ℕ) (x y z : LigItem) → last font depth x y ≡ Some z → last font (suc depth) x y ≡ Some z
stable font zero x y z h =
    let e : None ≡ Some z = sym (last-zero font x y) ∙ h in
    absurd (cc)
stable font (suc depth) x y z h =
    last-suc font (suc depth) x y
    ∙ stable-by font depth x y z (λ u v w. stable font depth u v w) (task_between font x y) (sym (last-suc font depth x y) ∙ h)

-- the work of two neighbours
abbrev pub cost_behind : (LigItem → LigItem → ℕ) → LigItem → Option LigItem → ℕ
cost_behind cost y None = 0
cost_behind cost y (Some end) = cost end y

abbrev pub cost_by : (LigItem → LigItem → ℕ) → (LigItem → LigItem → Option LigItem) → LigItem → LigItem → Task → ℕ
cost_by cost find x y (task.Here z) = 1
cost_by cost find x y (task.Pair u v) = suc (cost u v)
cost_by cost find x y (task.Twice m) = suc (cost x m + cost_behind cost y (find x m))

unfoldable pub cost : FontInfo → ℕ → LigItem → LigItem → ℕ
cost font zero x y = 0
cost font (suc depth) x y = cost_by (cost font depth) (last font depth) x y (task_between font x y)

same-twice : (font : FontInfo) (depth : ℕ) (x y m z : LigItem)
    → ((u v w : LigItem) → last font depth u v ≡ Some w → cost font (suc depth) u v ≡ cost font depth u v)
    → (o : Option LigItem) → last font depth x m ≡ o → option_and_then (λ end. last font depth end y) o ≡ Some z
    → cost font (suc depth) x m + cost_behind (cost font (suc depth)) y (last font (suc depth) x m)
    ≡ cost font depth x m + cost_behind (cost font depth) y (last font depth x m)
same-twice font depth x y m z on None k h = absurd (cc)
same-twice font depth x y m z on (Some end) k h =
    let a : cost font (suc depth) x m ≡ cost font depth x m = on x m end k in
    let b : cost font (suc depth) end y ≡ cost font depth end y = on end y z h in
    let c : cost_behind (cost font (suc depth)) y (last font (suc depth) x m) ≡ cost font (suc depth) end y =
    ap (λ o. cost_behind (cost font (suc depth)) y o) (stable font depth x m end k) in
    let d : cost_behind (cost font depth) y (last font depth x m) ≡ cost font depth end y =
    ap (λ o. cost_behind (cost font depth) y o) k in
    rw (a, c, b, d) refl

same-by : (font : FontInfo) (depth : ℕ) (x y z : LigItem)
    → ((u v w : LigItem) → last font depth u v ≡ Some w → cost font (suc depth) u v ≡ cost font depth u v)
    → (t : Task) → by_task (last font depth) x y t ≡ Some z
    → cost_by (cost font (suc depth)) (last font (suc depth)) x y t ≡ cost_by (cost font depth) (last font depth) x y t
same-by font depth x y z on (task.Here w) h = refl
same-by font depth x y z on (task.Pair u v) h = ap suc (on u v z h)
same-by font depth x y z on (task.Twice m) h = ap suc (same-twice font depth x y m z on (last font depth x m) refl h)

-- and where they come to something, it is the same with one more
cost-same : (font : FontInfo) (depth : ℕ) (x y z : LigItem) → last font depth x y ≡ Some z → cost font (suc depth) x y ≡ cost font depth x y
unfolding cost
cost-same font zero x y z h =
    let e : None ≡ Some z = sym (last-zero font x y) ∙ h in
    absurd (cc)
cost-same font (suc depth) x y z h =
    same-by font depth x y z (λ u v w. cost-same font depth u v w) (task_between font x y) (sym (last-suc font depth x y) ∙ h)

-- what two neighbours come to; each pair of a font comes to something
abbrev pub end_from : FontInfo → ℕ → LigItem → LigItem → LigItem
end_from font depth x y = unwrap_or (last font depth x y) Boundary

-- the work of an item and those behind it, and of a list
unfoldable pub work_from : FontInfo → ℕ → LigItem → List LigItem → ℕ
work_from font depth x [] = 0
work_from font depth x (y ∷ rest) = cost font depth x y + work_from font depth (end_from font depth x y) rest

unfoldable pub work : FontInfo → ℕ → List LigItem → ℕ
work font depth [] = 0
work font depth (x ∷ rest) = work_from font depth x rest

-- what a task leaves of two neighbours
abbrev pub items_by : LigItem → LigItem → List LigItem → Task → List LigItem
items_by x y rest (task.Here z) = z ∷ rest
items_by x y rest (task.Pair u v) = u ∷ v ∷ rest
items_by x y rest (task.Twice m) = x ∷ m ∷ y ∷ rest

work-pair : (font : FontInfo) (depth : ℕ) (u v z : LigItem) (rest : List LigItem) → last font depth u v ≡ Some z
    → work font (suc depth) (u ∷ v ∷ rest) ≡ cost font depth u v + work_from font (suc depth) z rest
unfolding work work_from
work-pair font depth u v z rest h =
    let a : cost font (suc depth) u v ≡ cost font depth u v = cost-same font depth u v z h in
    let b : end_from font (suc depth) u v ≡ z = ap (λ o. unwrap_or o Boundary) (stable font depth u v z h) in
    ap (λ n. n + work_from font (suc depth) (end_from font (suc depth) u v) rest) a
    ∙ ap (λ item. cost font depth u v + work_from font (suc depth) item rest) b

work-twice : (font : FontInfo) (depth : ℕ) (x y m z : LigItem) (rest : List LigItem) (o : Option LigItem) → last font depth x m ≡ o
    → option_and_then (λ end. last font depth end y) o ≡ Some z
    → work font (suc depth) (x ∷ m ∷ y ∷ rest) ≡ cost font depth x m + cost_behind (cost font depth) y (last font depth x m) + work_from font (suc depth) z rest
unfolding work work_from
work-twice font depth x y m z rest None k h = absurd (cc)
work-twice font depth x y m z rest (Some end) k h =
    let a : cost font depth x m + cost_behind (cost font depth) y (last font depth x m) ≡ cost font depth x m + cost font depth end y =
    ap (λ o. cost font depth x m + cost_behind (cost font depth) y o) k in
    let b : work font (suc depth) (x ∷ m ∷ y ∷ rest) ≡ cost font depth x m + work_from font (suc depth) end (y ∷ rest) =
    work-pair font depth x m end (y ∷ rest) k in
    let c : work_from font (suc depth) end (y ∷ rest) ≡ cost font depth end y + work_from font (suc depth) z rest =
    work-pair font depth end y z rest h in
    omega (arith, a, b, c)

work-by : (font : FontInfo) (depth : ℕ) (x y z : LigItem) (rest : List LigItem) (t : Task) → by_task (last font depth) x y t ≡ Some z
    → cost_by (cost font depth) (last font depth) x y t + work_from font (suc depth) z rest ≡ suc (work font (suc depth) (items_by x y rest t))
unfolding work
work-by font depth x y z rest (task.Here w) h =
    let e : w ≡ z = cc in
    let k : work_from font (suc depth) w rest ≡ work_from font (suc depth) z rest = ap (λ item. work_from font (suc depth) item rest) e in
    omega (arith, k)
work-by font depth x y z rest (task.Pair u v) h =
    omega (arith, work-pair font depth u v z rest h)
work-by font depth x y z rest (task.Twice m) h =
    omega (arith, work-twice font depth x y m z rest (last font depth x m) refl h)

-- a step leaves less work
pub work-falls : (font : FontInfo) (depth : ℕ) (x y z : LigItem) (rest : List LigItem) → last font (suc depth) x y ≡ Some z
    → work font (suc depth) (x ∷ y ∷ rest) ≡ suc (work font (suc depth) (items_by x y rest (task_between font x y)))
unfolding work work_from cost
work-falls font depth x y z rest h =
    let e : by_task (last font depth) x y (task_between font x y) ≡ Some z = sym (last-suc font depth x y) ∙ h in
    let k : end_from font (suc depth) x y ≡ z = ap (λ o. unwrap_or o Boundary) h in
    ap (λ item. cost font (suc depth) x y + work_from font (suc depth) item rest) k
    ∙ work-by font depth x y z rest (task_between font x y) e

-- what no pair is, each pair isn't
or-left : (a b : Bool) → (a || b) ≡ false → a ≡ false
or-left false b h = refl
or-left true b h = absurd (cc)

or-right : (a b : Bool) → (a || b) ≡ false → b ≡ false
or-right false b h = h
or-right true b h = absurd (cc)

none_below : (test : ℕ → Bool) (n c : ℕ) → any_below test n ≡ false → c < n → test c ≡ false
unfolding any_below
none_below test zero c h low = absurd (omega (arith, low))
none_below test (suc n) c h low =
    elim (cases_lt c n) [
      | inl less ↦ none_below test n c (or-right (test n) (any_below test n) h) less
      | inr more ↦
          let e : c ≡ n = omega (arith, low, more) in
          rw e (or-left (test n) (any_below test n) h)
    ]

no_item : (test : LigItem → Bool) → some_item test ≡ false → (test Boundary ≡ false) × ((code : ℕ) → code < 256 → test (Glyph code) ≡ false)
no_item test h = (
  or-left (test Boundary) (any_below (λ code. test (Glyph code)) 256) h,
  λ code low. none_below (λ code. test (Glyph code)) 256 code (or-right (test Boundary) (any_below (λ code. test (Glyph code)) 256) h) low,
)

-- behind the last code there is no character, and nothing is done at its side
missing : (font : FontInfo) (code : ℕ) → IsSound font → 256 ≤ code → info_at font code ≡ None
unfolding info_at
missing font code sound high =
    let first : font.first ≤ code = omega (arith, sound.codes, high) in
    rw (le-ltb code font.first first) (slice_get_past font.characters (code - font.first) (omega (arith, sound.codes, high)))

no_left : (font : FontInfo) (code : ℕ) (y : LigItem) → info_at font code ≡ None → action_between font (Glyph code) y ≡ None
unfolding action_between
no_left font code y h = rw h refl

and_false : (a : Bool) → (a && false) ≡ false
and_false true = refl
and_false false = refl

no_name : (font : FontInfo) (next code : ℕ) → info_at font code ≡ None → names font next (Glyph code) ≡ false
no_name font next code h = rw h (and_false (code == next))

none_found : (font : FontInfo) (code skipped : ℕ) (steps : List LigStep) → info_at font code ≡ None → found_in font (Glyph code) skipped steps ≡ None
unfolding found_in
none_found font code zero [] h = refl
none_found font code (suc skipped) [] h = refl
none_found font code (suc skipped) (step ∷ steps) h = none_found font code skipped steps h
none_found font code zero (Elsewhere place ∷ steps) h = refl
none_found font code zero (Pair next action None ∷ steps) h = rw (no_name font next code h) refl
none_found font code zero (Pair next action (Some skip) ∷ steps) h = rw (no_name font next code h) (none_found font code skip steps h)

no_program : (font : FontInfo) (code : ℕ) (program : Option ℕ) → info_at font code ≡ None
    → option_and_then (λ place. found_in font (Glyph code) 0 (drop place font.steps)) program ≡ None
no_program font code None h = refl
no_program font code (Some place) h = none_found font code 0 (drop place font.steps) h

no_right : (font : FontInfo) (x : LigItem) (code : ℕ) → info_at font code ≡ None → action_between font x (Glyph code) ≡ None
unfolding action_between
no_right font x code h = no_program font code (program_of font x) h

idle : (font : FontInfo) (depth : ℕ) (x y : LigItem) → action_between font x y ≡ None → last font (suc depth) x y ≡ Some y
unfolding task_between
idle font depth x y h = last-by font depth x y (task.Here y) (ap (λ a. task_of x y a) h)

-- so each pair comes to something
pub deepest-suc : (font : FontInfo) → deepest font ≡ suc (deepest font - 1)
unfolding deepest
deepest-suc font = omega arith

settled : (font : FontInfo) → IsSound font → comes_round font ≡ false
unfolding has_bad_steps
settled font sound = or-right (has_bad_among font font.steps) (comes_round font) sound.steps

some_end : (o : Option LigItem) → is_none o ≡ false → o ≡ Some (unwrap_or o Boundary)
some_end None h = absurd (cc)
some_end (Some item) h = refl

some_last : (font : FontInfo) (depth : ℕ) (x y : LigItem) → is_none (last font depth x y) ≡ false → last font depth x y ≡ Some (end_from font depth x y)
some_last font depth x y h = some_end (last font depth x y) h

small_pair : (font : FontInfo) (x : LigItem) → IsSound font
    → (test : LigItem → Bool) → some_item test ≡ false → ((code : ℕ) → 256 ≤ code → test (Glyph code) ≡ false) → test x ≡ false
small_pair font Boundary sound test h large = (no_item test h).0
small_pair font (Glyph code) sound test h large =
    elim (cases_lt code 256) [
      | inl low ↦ (no_item test h).1 code low
      | inr high ↦ large code high
    ]

found_is : (o : Option LigItem) (item : LigItem) → o ≡ Some item → is_none o ≡ false
found_is o item e = rw e refl

idle_deepest : (font : FontInfo) (x y : LigItem) → action_between font x y ≡ None → is_none (last font (deepest font) x y) ≡ false
idle_deepest font x y h = rw (deepest-suc font) (found_is (last font (suc (deepest font - 1)) x y) y (idle font (deepest font - 1) x y h))

pub all_off : (test : ℕ → Bool) (n : ℕ) → ((c : ℕ) → test c ≡ false) → any_below test n ≡ false
unfolding any_below
all_off test zero h = refl
all_off test (suc n) h = rw (h n, all_off test n h) refl

row_idle : (font : FontInfo) (code : ℕ) → info_at font code ≡ None → some_item (λ y. is_none (last font (deepest font) (Glyph code) y)) ≡ false
row_idle font code h =
    let a : is_none (last font (deepest font) (Glyph code) Boundary) ≡ false = idle_deepest font (Glyph code) Boundary (no_left font code Boundary h) in
    let b : any_below (λ c. is_none (last font (deepest font) (Glyph code) (Glyph c))) 256 ≡ false =
    all_off (λ c. is_none (last font (deepest font) (Glyph code) (Glyph c))) 256 (λ c. idle_deepest font (Glyph code) (Glyph c) (no_left font code (Glyph c) h)) in
    rw (a, b) refl

row_found : (font : FontInfo) (x : LigItem) → IsSound font → some_item (λ y. is_none (last font (deepest font) x y)) ≡ false
unfolding comes_round
row_found font x sound =
    small_pair font x sound (λ u. some_item (λ y. is_none (last font (deepest font) u y))) (settled font sound)
    (λ code high. row_idle font code (missing font code sound high))

pub each_found : (font : FontInfo) (x y : LigItem) → IsSound font → last font (deepest font) x y ≡ Some (end_from font (deepest font) x y)
each_found font x y sound =
    some_last font (deepest font) x y
    (small_pair font y sound (λ v. is_none (last font (deepest font) x v)) (row_found font x sound)
    (λ code high. idle_deepest font x (Glyph code) (no_right font x code (missing font code sound high))))

-- what the machine leaves of two neighbours is what their task leaves
items_passed : (font : FontState) (written : List Node) (edges : Edges) (items : List Piece) (n m : ℕ) → n ≡ m
    → map item_of (passed font n written edges items).rest ≡ map item_of (passed font m written edges items).rest
items_passed font written edges items n m e = ap (λ k. map item_of (passed font k written edges items).rest) e

items_left : (font : FontState) (written : List Node) (edges : Edges) (x y : Piece) (rest : List Piece) (action : Option PairAction)
    → map item_of (by_action font written edges x y rest action).rest ≡ items_by (item_of x) (item_of y) (map item_of rest) (task_of (item_of x) (item_of y) action)
unfolding passed
items_left font written edges x y rest None = refl
items_left font written edges x y rest (Some (Kern place)) = refl
items_left font written edges x y rest (Some (Ligature code false false passes)) =
    items_passed font written (edges_with edges x y) (made_of x y code false false ∷ rest) (min passes 0) 0 (omega arith)
items_left font written edges x y rest (Some (Ligature code true false zero)) =
    items_passed font written (edges_with edges x y) (x ∷ made_of x y code true false ∷ rest) (min 0 1) 0 (omega arith)
items_left font written edges x y rest (Some (Ligature code true false (suc passes))) =
    items_passed font written (edges_with edges x y) (x ∷ made_of x y code true false ∷ rest) (min (suc passes) 1) 1 (omega arith)
items_left font written edges x y rest (Some (Ligature code false true zero)) =
    items_passed font written (edges_with edges x y) (made_of x y code false true ∷ y ∷ rest) (min 0 1) 0 (omega arith)
items_left font written edges x y rest (Some (Ligature code false true (suc passes))) =
    items_passed font written (edges_with edges x y) (made_of x y code false true ∷ y ∷ rest) (min (suc passes) 1) 1 (omega arith)
items_left font written edges x y rest (Some (Ligature code true true zero)) =
    items_passed font written (edges_with edges x y) (x ∷ made_of x y code true true ∷ y ∷ rest) (min 0 2) 0 (omega arith)
items_left font written edges x y rest (Some (Ligature code true true (suc zero))) =
    items_passed font written (edges_with edges x y) (x ∷ made_of x y code true true ∷ y ∷ rest) (min 1 2) 1 (omega arith)
items_left font written edges x y rest (Some (Ligature code true true (suc (suc passes)))) =
    items_passed font written (edges_with edges x y) (x ∷ made_of x y code true true ∷ y ∷ rest) (min (suc (suc passes)) 2) 2 (omega arith)

-- the work that is left for the machine
abbrev pub left_to_do : FontState → List Piece → ℕ
left_to_do font items = work font.info (deepest font.info) (map item_of items)

-- one step, at a depth that isn't 0
step_less : (font : FontInfo) (depth deep : ℕ) (x y z : LigItem) (rest after : List LigItem) → depth ≡ suc deep
    → last font depth x y ≡ Some z → after ≡ items_by x y rest (task_between font x y) → work font depth after < work font depth (x ∷ y ∷ rest)
step_less font depth deep x y z rest after e h k =
    let found : last font (suc deep) x y ≡ Some z = subst (λ n. last font n x y ≡ Some z) e h in
    let falls : work font (suc deep) (x ∷ y ∷ rest) ≡ suc (work font (suc deep) (items_by x y rest (task_between font x y))) =
    work-falls font deep x y z rest found in
    rw (e, k) (omega (arith, falls))

pub step_falls : (font : FontState) (written written' : List Node) (edges edges' : Edges) (x y : Piece) (before rest behind : List Piece) → IsSound font.info
    → before ≡ x ∷ y ∷ behind → place written' edges' rest ≡ stepped font written edges x y behind
    → left_to_do font rest < left_to_do font before
unfolding stepped task_between
step_falls font written written' edges edges' x y before rest behind sound e k =
    let items : map item_of rest ≡ items_by (item_of x) (item_of y) (map item_of behind) (task_between font.info (item_of x) (item_of y)) =
    ap (λ p. map item_of p.rest) k ∙ items_left font written edges x y behind (action_between font.info (item_of x) (item_of y)) in
    rw e (step_less font.info (deepest font.info) (deepest font.info - 1) (item_of x) (item_of y) (end_from font.info (deepest font.info) (item_of x) (item_of y))
    (map item_of behind) (map item_of rest) (deepest-suc font.info) (each_found font.info (item_of x) (item_of y) sound) items)
