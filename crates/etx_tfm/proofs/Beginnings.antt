-- Lists that begin with others.
use Rattle.std.proofs.Common.{◌≡◌, List, [], ◌∷◌, ◌++◌, drop, length, refl, sym, ap, ◌∙◌, subst, arith, append_assoc}
use Rattle.std.proofs.lemmas.List.{take-append-drop, take-append-le}
use Rattle.etx_matter.specs.declared.node.Node.{Node}
use Rattle.etx_tfm.specs.Machine.{Begins}

pub begins-same : (xs : List Node) → Begins xs xs
begins-same [] = refl
begins-same (x ∷ xs) = ap (λ rest. x ∷ rest) (begins-same xs)

pub begins-more : (xs more : List Node) → Begins xs (xs ++ more)
begins-more xs more = take-append-le (length xs) xs more (omega arith) ∙ begins-same xs

pub begins-by : (old new : List Node) → new ≡ old → Begins old new
begins-by old new e = subst (λ (it : List Node). Begins old it) (sym e) (begins-same old)

pub begins-with : (old new more : List Node) → new ≡ old ++ more → Begins old new
begins-with old new more e = subst (λ (it : List Node). Begins old it) (sym e) (begins-more old more)

-- what begins with a list has more behind it
parts : (old new : List Node) → Begins old new → new ≡ old ++ drop (length old) new
parts old new h = sym (take-append-drop (length old) new) ∙ ap (λ (it : List Node). it ++ drop (length old) new) h

pub begins-over : (xs ys zs : List Node) → Begins xs ys → Begins ys zs → Begins xs zs
begins-over xs ys zs h k =
    let first = drop (length xs) ys in
    let second = drop (length ys) zs in
    begins-with xs zs (first ++ second)
    (parts ys zs k ∙ ap (λ (it : List Node). it ++ second) (parts xs ys h) ∙ append_assoc xs first second)
