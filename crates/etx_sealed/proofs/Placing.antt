-- A line by the sums at its ends.
use Rattle.std.proofs.Common.{◌≡◌, ℕ, ◌+◌, ◌-◌, ◌<◌, ◌≤◌, true, false, nat_lt, List, [], ◌++◌, take, drop, sym, ap, ◌∙◌, arith}
use Rattle.std.proofs.lemmas.Bool.{ltb-true, ltb-false}
use Rattle.etx_matter.specs.declared.node.Node.{Node}
use Rattle.etx_sealed.specs.declared.measure.Measure.{Measure}
use Rattle.etx_sealed.specs.Breaks.{item_at}
use Rattle.etx_sealed.specs.Lines.{left_out, kept, line_nodes, line_measure, sides, before_in, after_in}
use Rattle.etx_sealed.specs.Paragraphs.{Paragraph}
use Rattle.etx_sealed.specs.Stops.{StopState, stop_at, end_at, start_at}
use Rattle.etx_sealed.specs.Sums.{plus, less, measure_all}
use Rattle.etx_sealed.proofs.Summing.{plus_assoc, regrouped, measure-append, measure_between}

-- the parts of a line
pub line_parts : (p : Paragraph) (i j : ℕ)
    → line_measure p i j ≡ plus (sides p) (plus (measure_all (after_in (item_at p.list i))) (plus (measure_all (kept p.list i j)) (measure_all (before_in (item_at p.list j)))))
unfolding line_measure line_nodes
line_parts p i j =
    ap (plus (sides p))
    (measure-append (after_in (item_at p.list i)) (kept p.list i j ++ before_in (item_at p.list j))
    ∙ ap (plus (measure_all (after_in (item_at p.list i)))) (measure-append (kept p.list i j) (before_in (item_at p.list j))))

last_place : (left j : ℕ) → left < j → left + (j - 1 - left) ≡ j - 1
last_place left j h = omega (arith, h)

pub kept_between : (p : Paragraph) (i j : ℕ) → left_out p.list i < j
    → measure_all (kept p.list i j) ≡ less (measure_all (take (j - 1) p.list)) (measure_all (take (left_out p.list i) p.list))
unfolding kept
kept_between p i j h =
    measure_between (left_out p.list i) (j - 1 - left_out p.list i) p.list
    ∙ ap (λ (n : ℕ). less (measure_all (take n p.list)) (measure_all (take (left_out p.list i) p.list))) (last_place (left_out p.list i) j h)

pub line_by_ends : (p : Paragraph) (i j : ℕ) → nat_lt (left_out p.list i) j ≡ true → less (end_at p j) (start_at p i) ≡ line_measure p i j
unfolding end_at start_at
line_by_ends p i j t =
    sym (line_parts p i j
    ∙ ap (λ (it : Measure). plus (sides p) (plus (measure_all (after_in (item_at p.list i))) (plus it (measure_all (before_in (item_at p.list j))))))
    (kept_between p i j (ltb-true (left_out p.list i) j t))
    ∙ regrouped (sides p) (measure_all (after_in (item_at p.list i))) (measure_all (take (left_out p.list i) p.list)) (measure_all (take (j - 1) p.list)) (measure_all (before_in (item_at p.list j))))

nothing_kept : (p : Paragraph) (i j : ℕ) → j ≤ left_out p.list i → kept p.list i j ≡ []
unfolding kept
nothing_kept p i j h =
    let none : j - 1 - left_out p.list i ≡ 0 = omega (arith, h) in
    ap (λ (n : ℕ). take n (drop (left_out p.list i) p.list)) none

pub empty_line : (p : Paragraph) (i j : ℕ) → nat_lt (left_out p.list i) j ≡ false
    → plus (plus (sides p) (measure_all (after_in (item_at p.list i)))) (measure_all (before_in (item_at p.list j))) ≡ line_measure p i j
unfolding line_measure line_nodes
empty_line p i j t =
    plus_assoc (sides p) (measure_all (after_in (item_at p.list i))) (measure_all (before_in (item_at p.list j)))
    ∙ ap (plus (sides p))
    (sym (measure-append (after_in (item_at p.list i)) (before_in (item_at p.list j)))
    ∙ ap (λ (some : List Node). measure_all (after_in (item_at p.list i) ++ (some ++ before_in (item_at p.list j)))) (sym (nothing_kept p i j (ltb-false (left_out p.list i) j t))))

pub whole_line : (p : Paragraph) (i j : ℕ)
    → plus (plus (sides p) (measure_all (after_in (item_at p.list i)))) (plus (measure_all (kept p.list i j)) (measure_all (before_in (item_at p.list j)))) ≡ line_measure p i j
whole_line p i j =
    plus_assoc (sides p) (measure_all (after_in (item_at p.list i))) (plus (measure_all (kept p.list i j)) (measure_all (before_in (item_at p.list j))))
    ∙ sym (line_parts p i j)

-- the same two by the measures of their parts, as the code has them
pub empty_line_by : (p : Paragraph) (i j : ℕ) (nodes after_nodes before_nodes : List Node) (s a b first whole : Measure)
    → nat_lt (left_out p.list i) j ≡ false → nodes ≡ p.list → after_nodes ≡ after_in (item_at nodes i) → before_nodes ≡ before_in (item_at nodes j)
    → s ≡ sides p → a ≡ measure_all after_nodes → b ≡ measure_all before_nodes → first ≡ plus s a → whole ≡ plus first b
    → whole ≡ line_measure p i j
empty_line_by p i j nodes after_nodes before_nodes s a b first whole t n an bn e f g h k = rw (k, h, e, f, g, an, bn, n) (empty_line p i j t)

pub whole_line_by : (p : Paragraph) (i j : ℕ) (nodes after_nodes kept_nodes before_nodes : List Node) (s a m b first last whole : Measure)
    → nodes ≡ p.list → after_nodes ≡ after_in (item_at nodes i) → kept_nodes ≡ kept nodes i j → before_nodes ≡ before_in (item_at nodes j)
    → s ≡ sides p → a ≡ measure_all after_nodes → m ≡ measure_all kept_nodes → b ≡ measure_all before_nodes
    → first ≡ plus s a → last ≡ plus m b → whole ≡ plus first last
    → whole ≡ line_measure p i j
whole_line_by p i j nodes after_nodes kept_nodes before_nodes s a m b first last whole n an kn bn e f d g h l k =
    rw (k, h, l, e, f, d, g, an, kn, bn, n) (whole_line p i j)

-- the line from one stop to another
left_out_there : (p : Paragraph) (s : StopState) → s ≡ stop_at p s.place → s.left_out ≡ left_out p.list s.place
unfolding stop_at
left_out_there p s e = ap (λ (it : StopState). it.left_out) e

start_there : (p : Paragraph) (s : StopState) → s ≡ stop_at p s.place → s.start ≡ start_at p s.place
unfolding stop_at
start_there p s e = ap (λ (it : StopState). it.start) e

end_there : (p : Paragraph) (s : StopState) → s ≡ stop_at p s.place → s.end ≡ end_at p s.place
unfolding stop_at
end_there p s e = ap (λ (it : StopState). it.end) e

pub line_of_stops : (p : Paragraph) (from to : StopState) (it : Measure) → from ≡ stop_at p from.place → to ≡ stop_at p to.place
    → true ≡ nat_lt from.left_out to.place → it ≡ less to.end from.start → it ≡ line_measure p from.place to.place
line_of_stops p from to it f t b h =
    h ∙ ap (λ (m : Measure). less m from.start) (end_there p to t)
    ∙ ap (λ (m : Measure). less (end_at p to.place) m) (start_there p from f)
    ∙ line_by_ends p from.place to.place (ap (λ (n : ℕ). nat_lt n to.place) (sym (left_out_there p from f)) ∙ sym b)

pub nothing_between : (p : Paragraph) (from to : StopState) (i j : ℕ) → from ≡ stop_at p from.place → false ≡ nat_lt from.left_out to.place
    → i ≡ from.place → j ≡ to.place → nat_lt (left_out p.list i) j ≡ false
nothing_between p from to i j f b e k = rw (e, k) (ap (λ (n : ℕ). nat_lt n to.place) (sym (left_out_there p from f)) ∙ sym b)
