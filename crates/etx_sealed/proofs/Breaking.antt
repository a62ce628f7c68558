-- The walk that finds the legal breaks.
use Rattle.std.proofs.Common.{◌≡◌, ℕ, zero, suc, ◌+◌, ◌<◌, ◌≤◌, Bool, List, [], ◌∷◌, ◌++◌, length, get_or, drop, slice_get, refl, sym, ap, ◌∙◌, append_assoc}
use Rattle.std.proofs.lemmas.List.{at_drop_more, append-nil}
use Rattle.etx_matter.specs.declared.node.Node.{Node}
use Rattle.etx_sealed.specs.declared.breaks.Scan.{Scan}
use Rattle.etx_sealed.specs.declared.params.BreakParams.{BreakParams}
use Rattle.etx_sealed.specs.Breaks.{glue_in, may_end, scan_behind, if_legal, breaks_from}
use Rattle.etx_sealed.proofs.Summing.{drop_past}

next_item : (xs : List Node) (n : ℕ) → slice_get (drop n xs) 0 ≡ slice_get xs n
next_item [] zero = refl
next_item [] (suc n) = refl
next_item (x ∷ xs) zero = refl
next_item (x ∷ xs) (suc n) = next_item xs n

pub breaks_step : (p : BreakParams) (nodes : List Node) (i : ℕ) (scan : Scan) (node : Node) (old new : List ℕ) (legal : Bool)
    → i < length nodes → node ≡ get_or nodes i node
    → legal ≡ may_end p scan (glue_in (slice_get nodes (i + 1))) node
    → new ≡ old ++ if_legal legal (i + 1)
    → new ++ breaks_from p (i + 1 + 1) (scan_behind scan node) (drop (i + 1) nodes) ≡ old ++ breaks_from p (i + 1) scan (drop i nodes)
unfolding breaks_from
breaks_step p nodes i scan node old new legal h e l n =
    let here : drop i nodes ≡ node ∷ drop (i + 1) nodes =
    at_drop_more (λ (xs : List Node). xs) nodes i node h ∙ ap (λ (x : Node). x ∷ drop (i + 1) nodes) (sym e) in
    rw (n, l, here, next_item nodes (i + 1)) (append_assoc old (if_legal (may_end p scan (glue_in (slice_get nodes (i + 1))) node) (i + 1)) _)

pub breaks_end : (p : BreakParams) (nodes : List Node) (i : ℕ) (scan : Scan) (found all : List ℕ) → length nodes ≤ i
    → found ++ breaks_from p (i + 1) scan (drop i nodes) ≡ all → found ≡ all
unfolding breaks_from
breaks_end p nodes i scan found all h e =
    sym (append-nil found) ∙ ap (λ (rest : List Node). found ++ breaks_from p (i + 1) scan rest) (sym (drop_past nodes i h)) ∙ e
