-- Sums over lists of nodes.
use Rattle.std.proofs.Common.{◌≡◌, ℕ, zero, suc, ◌+◌, ◌-◌, ◌<◌, ◌≤◌, min, ℤ, List, [], ◌∷◌, ◌++◌, length, get_or, take, drop, refl, sym, ap, ◌∙◌, arith}
use Rattle.std.proofs.lemmas.Int.{ints}
use Rattle.std.proofs.lemmas.List.{at_drop_more, take-append-drop, take-take, drop-take}
use Rattle.etx_matter.specs.declared.node.Node.{Node}
use Rattle.etx_pack.specs.declared.orders.OrderTotals.{OrderTotals}
use Rattle.etx_sealed.specs.declared.measure.Measure.{Measure}
use Rattle.etx_sealed.specs.Sums.{none, plus, less, measure_of, measure_all, IsSmall}

abbrev made : ℤ → ℤ → ℤ → ℤ → ℤ → ℤ → Measure
made natural normal fil fill filll shrink = record { natural = natural; stretch = record { normal = normal; fil = fil; fill = fill; filll = filll }; shrink = shrink }

pub same : (a b : Measure) → a.natural ≡ b.natural → a.stretch.normal ≡ b.stretch.normal → a.stretch.fil ≡ b.stretch.fil → a.stretch.fill ≡ b.stretch.fill
    → a.stretch.filll ≡ b.stretch.filll → a.shrink ≡ b.shrink → a ≡ b
same a b n s f g h k =
    ap (λ (x : ℤ). made x a.stretch.normal a.stretch.fil a.stretch.fill a.stretch.filll a.shrink) n
    ∙ ap (λ (x : ℤ). made b.natural x a.stretch.fil a.stretch.fill a.stretch.filll a.shrink) s
    ∙ ap (λ (x : ℤ). made b.natural b.stretch.normal x a.stretch.fill a.stretch.filll a.shrink) f
    ∙ ap (λ (x : ℤ). made b.natural b.stretch.normal b.stretch.fil x a.stretch.filll a.shrink) g
    ∙ ap (λ (x : ℤ). made b.natural b.stretch.normal b.stretch.fil b.stretch.fill x a.shrink) h
    ∙ ap (λ (x : ℤ). made b.natural b.stretch.normal b.stretch.fil b.stretch.fill b.stretch.filll x) k

abbrev totals : ℤ → ℤ → ℤ → ℤ → OrderTotals
totals normal fil fill filll = record { normal = normal; fil = fil; fill = fill; filll = filll }

pub same_stretch : (a b : OrderTotals) → a.normal ≡ b.normal → a.fil ≡ b.fil → a.fill ≡ b.fill → a.filll ≡ b.filll → a ≡ b
same_stretch a b s f g h =
    ap (λ (x : ℤ). totals x a.fil a.fill a.filll) s
    ∙ ap (λ (x : ℤ). totals b.normal x a.fill a.filll) f
    ∙ ap (λ (x : ℤ). totals b.normal b.fil x a.filll) g
    ∙ ap (λ (x : ℤ). totals b.normal b.fil b.fill x) h

pub plus_assoc : (a b c : Measure) → plus (plus a b) c ≡ plus a (plus b c)
plus_assoc a b c =
    same (plus (plus a b) c) (plus a (plus b c))
    (omega (arith, ints)) (omega (arith, ints)) (omega (arith, ints)) (omega (arith, ints)) (omega (arith, ints)) (omega (arith, ints))

pub none_plus : (a : Measure) → plus none a ≡ a
none_plus a = same (plus none a) a (omega (arith, ints)) (omega (arith, ints)) (omega (arith, ints)) (omega (arith, ints)) (omega (arith, ints)) (omega (arith, ints))

pub plus_none : (a : Measure) → plus a none ≡ a
plus_none a = same (plus a none) a (omega (arith, ints)) (omega (arith, ints)) (omega (arith, ints)) (omega (arith, ints)) (omega (arith, ints)) (omega (arith, ints))

pub plus_less : (a b : Measure) → less (plus a b) a ≡ b
plus_less a b =
    same (less (plus a b) a) b
    (omega (arith, ints)) (omega (arith, ints)) (omega (arith, ints)) (omega (arith, ints)) (omega (arith, ints)) (omega (arith, ints))

-- a line between two places: sides, text behind the first place, what stands between, text before the second
pub regrouped : (s after first last before : Measure) → plus s (plus after (plus (less last first) before)) ≡ less (plus s (plus last before)) (less first after)
regrouped s after first last before =
    same (plus s (plus after (plus (less last first) before))) (less (plus s (plus last before)) (less first after))
    (omega (arith, ints)) (omega (arith, ints)) (omega (arith, ints)) (omega (arith, ints)) (omega (arith, ints)) (omega (arith, ints))

pub measure-append : (xs ys : List Node) → measure_all (xs ++ ys) ≡ plus (measure_all xs) (measure_all ys)
unfolding measure_all
measure-append [] ys = sym (none_plus (measure_all ys))
measure-append (x ∷ xs) ys = ap (plus (measure_of x)) (measure-append xs ys) ∙ sym (plus_assoc (measure_of x) (measure_all xs) (measure_all ys))

front_and_more : (n m : ℕ) (xs : List Node) → take (n + m) xs ≡ take n xs ++ take m (drop n xs)
front_and_more n m xs =
    sym (take-append-drop n (take (n + m) xs))
    ∙ ap (λ (front : List Node). front ++ drop n (take (n + m) xs)) (take-take n (n + m) xs (omega arith))
    ∙ ap (λ (more : List Node). take n xs ++ more) (drop-take n m xs)

-- the sums of the first items and of so many more
pub measure_joined : (n m : ℕ) (xs : List Node) → plus (measure_all (take n xs)) (measure_all (take m (drop n xs))) ≡ measure_all (take (n + m) xs)
measure_joined n m xs = sym (ap measure_all (front_and_more n m xs) ∙ measure-append (take n xs) (take m (drop n xs)))

pub measure_between : (n m : ℕ) (xs : List Node) → measure_all (take m (drop n xs)) ≡ less (measure_all (take (n + m) xs)) (measure_all (take n xs))
measure_between n m xs =
    sym (ap (λ (it : Measure). less it (measure_all (take n xs))) (sym (measure_joined n m xs)) ∙ plus_less (measure_all (take n xs)) (measure_all (take m (drop n xs))))

-- a step of the walk that adds all up
pub sums_step : (sums : Measure) (nodes : List Node) (i : ℕ) (node : Node) → i < length nodes → node ≡ get_or nodes i node
    → plus (plus sums (measure_of node)) (measure_all (drop (i + 1) nodes)) ≡ plus sums (measure_all (drop i nodes))
unfolding measure_all
sums_step sums nodes i node h e =
    plus_assoc sums (measure_of node) (measure_all (drop (i + 1) nodes))
    ∙ ap (λ (n : Node). plus sums (plus (measure_of n) (measure_all (drop (i + 1) nodes)))) e
    ∙ sym (at_drop_more (λ (rest : List Node). plus sums (measure_all rest)) nodes i node h)

-- the same behind the last step
pub drop_past : (xs : List Node) (i : ℕ) → length xs ≤ i → drop i xs ≡ []
drop_past [] zero h = refl
drop_past [] (suc i) h = refl
drop_past (x ∷ xs) zero h = absurd (omega (arith, h))
drop_past (x ∷ xs) (suc i) h = drop_past xs i (omega (arith, h))

pub sums_end : (sums : Measure) (nodes : List Node) (i : ℕ) → length nodes ≤ i → plus sums (measure_all (drop i nodes)) ≡ measure_all nodes
    → sums ≡ measure_all nodes
unfolding measure_all
sums_end sums nodes i h e =
    sym (plus_none sums) ∙ ap (λ (rest : List Node). plus sums (measure_all rest)) (sym (drop_past nodes i h)) ∙ e

take_bound : (xs : List Node) (m n : ℕ) → m ≡ min n (length xs) → take m xs ≡ take n xs
take_bound [] zero zero e = refl
take_bound [] zero (suc n) e = refl
take_bound [] (suc m) zero e = refl
take_bound [] (suc m) (suc n) e = refl
take_bound (x ∷ xs) zero zero e = refl
take_bound (x ∷ xs) zero (suc n) e = absurd (omega (arith, e))
take_bound (x ∷ xs) (suc m) zero e = absurd (omega (arith, e))
take_bound (x ∷ xs) (suc m) (suc n) e = ap (λ (l : List Node). x ∷ l) (take_bound xs m n (omega (arith, e)))

pub few_taken : (n : ℕ) (xs : List Node) → length (take n xs) ≤ n
few_taken zero [] = omega arith
few_taken zero (x ∷ xs) = omega arith
few_taken (suc n) [] = omega arith
few_taken (suc n) (x ∷ xs) = omega (arith, few_taken n xs)

-- sums that go on from where they were
pub joined_at : (nodes : List Node) (at to : ℕ) (sums more joined : Measure) → sums ≡ measure_all (take at nodes)
    → more ≡ measure_all (take (to - at) (drop at nodes)) → joined ≡ plus sums more → at ≤ to → joined ≡ measure_all (take to nodes)
joined_at nodes at to sums more joined s m j le =
    let whole : at + (to - at) ≡ to = omega (arith, le) in
    j ∙ ap (λ (it : Measure). plus it more) s ∙ ap (λ (it : Measure). plus (measure_all (take at nodes)) it) m
    ∙ measure_joined at (to - at) nodes ∙ ap (λ (n : ℕ). measure_all (take n nodes)) whole

pub joined_to : (nodes : List Node) (at to most : ℕ) (sums more joined : Measure) → sums ≡ measure_all (take at nodes)
    → more ≡ measure_all (take (most - at) (drop at nodes)) → joined ≡ plus sums more → at ≤ most → most ≡ min to (length nodes)
    → joined ≡ measure_all (take to nodes)
joined_to nodes at to most sums more joined s m j le e =
    joined_at nodes at most sums more joined s m j le ∙ ap measure_all (take_bound nodes most to e)

pub none_is_small : IsSmall 0 none
none_is_small = record {
  natural = omega (arith, ints);
  stretch = record { normal = omega (arith, ints); fil = omega (arith, ints); fill = omega (arith, ints); filll = omega (arith, ints) };
  shrink = omega (arith, ints);
}

pub smaller : (m n : ℕ) (it : Measure) → m ≤ n → IsSmall m it → IsSmall n it
smaller m n it le s = record {
  natural = omega (arith, s.natural, le);
  stretch = record {
    normal = omega (arith, s.stretch.normal, le);
    fil = omega (arith, s.stretch.fil, le);
    fill = omega (arith, s.stretch.fill, le);
    filll = omega (arith, s.stretch.filll, le);
  };
  shrink = omega (arith, s.shrink, le);
}
