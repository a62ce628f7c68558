-- How a list gets the end of a paragraph.
use Rattle.std.proofs.Common.{◌≡◌, Bool, true, false, cond, List, [], ◌∷◌, ◌++◌, refl, sym, subst, ap, ◌∙◌, arith}
use Rattle.etx_matter.specs.declared.node.Node.{Node}
use Rattle.etx_matter.specs.Nests.{list_depth, IsNested, AreNested}
use Rattle.etx_matter.proofs.Nestings.{nested-append, nested-front, nested-back}
use Rattle.etx_sealed.specs.Paragraphs.{is_glue, without_last_glue}

put_before : (b : Bool) (y : Node) (s t : List Node) → y ∷ cond b s t ≡ cond b (y ∷ s) (y ∷ t)
put_before true y s t = refl
put_before false y s t = refl

pub last_glue : (xs : List Node) (x : Node) → without_last_glue (xs ++ x ∷ []) ≡ cond (is_glue x) xs (xs ++ x ∷ [])
unfolding without_last_glue
last_glue [] x = refl
last_glue (y ∷ []) x = put_before (is_glue x) y [] (x ∷ [])
last_glue (y ∷ (z ∷ zs)) x = ap (λ (l : List Node). y ∷ l) (last_glue (z ∷ zs) x) ∙ put_before (is_glue x) y (z ∷ zs) ((z ∷ zs) ++ x ∷ [])

nested_alone : (node : Node) → IsNested node → AreNested (node ∷ [])
unfolding IsNested AreNested list_depth
nested_alone node h = omega (arith, h)

alone_nested : (node : Node) → AreNested (node ∷ []) → IsNested node
unfolding IsNested AreNested list_depth
alone_nested node h = omega (arith, h)

pub nested_more : (nodes : List Node) (node : Node) (more : List Node) → AreNested nodes → IsNested node → more ≡ nodes ++ node ∷ [] → AreNested more
nested_more nodes node more h g e = subst AreNested (sym e) (nested-append nodes (node ∷ []) h (nested_alone node g))

pub nested_last : (nodes : List Node) (node : Node) → AreNested (nodes ++ node ∷ []) → IsNested node
nested_last nodes node h = alone_nested node (nested-back nodes (node ∷ []) h)

-- what is left of a list whose last item was taken off, and put back unless it was glue
pub put_back_is : (old rest kept : List Node) (last : Node) → old ≡ rest ++ last ∷ [] → kept ≡ cond (is_glue last) rest (rest ++ last ∷ []) → kept ≡ without_last_glue old
put_back_is old rest kept last e k = k ∙ sym (ap without_last_glue e ∙ last_glue rest last)

either_nested : (b : Bool) (rest whole kept : List Node) → AreNested rest → AreNested whole → kept ≡ cond b rest whole → AreNested kept
either_nested true rest whole kept h g e = subst AreNested (sym e) h
either_nested false rest whole kept h g e = subst AreNested (sym e) g

pub put_back_nested : (old rest kept : List Node) (last : Node) → AreNested old → old ≡ rest ++ last ∷ [] → kept ≡ cond (is_glue last) rest (rest ++ last ∷ []) → AreNested kept
put_back_nested old rest kept last h e k =
    let whole : AreNested (rest ++ last ∷ []) = subst AreNested e h in
    either_nested (is_glue last) rest (rest ++ last ∷ []) kept (nested-front rest (last ∷ []) whole) whole k

pub nothing_left : (old rest : List Node) → old ≡ [] → rest ≡ [] → rest ≡ without_last_glue old
unfolding without_last_glue
nothing_left old rest e k = k ∙ sym (ap without_last_glue e)
