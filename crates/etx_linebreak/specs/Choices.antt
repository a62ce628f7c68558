-- Which rows end a paragraph, and the breaks that lead to one.
use Rattle.std.specs.Prelude.{◌≡◌, ◌⊎◌, ℕ, zero, suc, ◌==◌, Bool, true, false, ◌&&◌, ◌||◌, if◌then◌else◌, ℤ, pos, ◌-ℤ◌, int_lt, int_le, List, [], ◌∷◌, length, slice_get, Option, Some, None}
use Rattle.std.specs.Int.{int_min}
use Rattle.etx_sealed.specs.Paragraphs.{Paragraph, is_zero}
use Rattle.etx_linebreak.specs.declared.row.Row.{Row}
use Rattle.etx_linebreak.specs.declared.chosen.Taken.{Taken}
use Rattle.etx_linebreak.specs.Passes.{PassState, break_at, break_count, pass_over}
use Rattle.etx_linebreak.specs.Table.{live, rows_to, table}

-- the rows at the end, in their order: all others close there
unfoldable pub last_rows : PassState → List Row
last_rows p = live p (suc (break_count p)) (rows_to p (break_count p))

-- the first of fewest demerits
unfoldable pub fewer : Row → Row → Row
fewer best r = if int_lt r.total best.total then r else best

unfoldable pub fewest : Row → List Row → Row
fewest best [] = best
fewest best (r ∷ rs) = fewest (fewer best r) rs

-- a row of another number of lines is taken where that is nearer to what is wanted, and one of the same number where its
-- demerits are fewer ("TeX: The Program", section 875)
unfoldable pub nearer : ℤ → ℤ → ℤ → Bool
nearer wanted off d = (int_le wanted d && int_lt d off) || (int_lt off d && int_le d wanted)

unfoldable pub is_same : ℤ → ℤ → Bool
is_same a b = int_le a b && int_le b a

abbrev pub is_cheaper : Taken → ℤ → Row → Bool
is_cheaper so_far d r = is_same d so_far.off && int_lt r.total so_far.row.total

unfoldable pub taken_at : ℤ → Taken → ℤ → Row → Taken
taken_at wanted so_far d r =
    if nearer wanted so_far.off d then record { row = r; off = d }
    else (if is_cheaper so_far d r then record { row = r; off = d } else so_far)

unfoldable pub next_taken : ℤ → ℕ → Taken → Row → Taken
next_taken wanted line so_far r = taken_at wanted so_far (pos r.line -ℤ pos line) r

unfoldable pub walked : ℤ → ℕ → Taken → List Row → Taken
walked wanted line so_far [] = so_far
walked wanted line so_far (r ∷ rs) = walked wanted line (next_taken wanted line so_far r) rs

unfoldable pub looseness : PassState → ℤ
looseness p = p.paragraph.params.breaks.looseness

-- a row of as many lines as wanted is always good enough, and on the final pass the nearest one is
abbrev pub good_enough : PassState → Taken → Option Row
good_enough p it = if is_same it.off (looseness p) || p.is_final then Some it.row else None

-- the row that is taken of these, of which `best` has the fewest demerits
unfoldable pub chosen_by : PassState → Row → List Row → Option Row
chosen_by p best rows =
    if is_zero (looseness p) then Some best
    else good_enough p (walked (looseness p) best.line (record { row = best; off = pos 0 }) rows)

unfoldable pub chosen : PassState → List Row → Option Row
chosen p [] = None
chosen p (r ∷ rs) = chosen_by p (fewest r rs) (r ∷ rs)

-- the row at which the line of a row begins, unless it is the start
unfoldable pub earlier : List Row → Option Row → Option Row
earlier rows None = None
earlier rows (Some r) = if r.break_number == 0 then None else slice_get rows r.before

-- the break of a row, followed by others; the start is none
unfoldable pub with_break : PassState → Option Row → List ℕ → List ℕ
with_break p None behind = behind
with_break p (Some r) behind = if r.break_number == 0 then behind else break_at p r.break_number ∷ behind

-- the places of the breaks that lead to a row, followed by others; they are at most so many
unfoldable pub breaks_to : PassState → List Row → ℕ → Option Row → List ℕ → List ℕ
breaks_to p rows zero at behind = behind
breaks_to p rows (suc count) at behind = breaks_to p rows count (earlier rows at) (with_break p at behind)

-- the breaks that a row leads to, if there is one
unfoldable pub breaks_of : PassState → List Row → Option Row → Option (List ℕ)
breaks_of p rows None = None
breaks_of p rows (Some r) = Some (breaks_to p rows (length rows) (Some r) [])

-- the breaks with which a pass ends, if it ends with any
unfoldable pub found : PassState → Option (List ℕ)
found p = breaks_of p (table p) (chosen p (last_rows p))

-- no threshold is above the badness of a line that can't be set
abbrev pub threshold : ℤ → ℤ
threshold tolerance = int_min tolerance (pos 10_000)

-- the pass without hyphenation, which a negative threshold leaves out ("TeX: The Program", section 863)
unfoldable pub first_breaks : Paragraph → Option (List ℕ)
first_breaks p =
    if int_lt p.params.breaks.pretolerance (pos 0) then None
    else found (pass_over p (threshold p.params.breaks.pretolerance) (pos 0) false)

-- the pass over a paragraph with hyphens, which is the final one unless there is an emergency stretch
unfoldable pub second_breaks : Paragraph → Option (List ℕ)
second_breaks p =
    found (pass_over p (threshold p.params.breaks.tolerance) (pos 0) (int_le p.params.breaks.emergency_stretch (pos 0)))

-- the final pass, with that stretch in each line
unfoldable pub third_breaks : Paragraph → Option (List ℕ)
third_breaks p = found (pass_over p (threshold p.params.breaks.tolerance) p.params.breaks.emergency_stretch true)

abbrev pub or_else : Option (List ℕ) → Option (List ℕ) → List ℕ
or_else None None = []
or_else None (Some breaks) = breaks
or_else (Some breaks) other = breaks

-- the breaks of the later passes. The final pass always ends with some.
unfoldable pub later_breaks : Paragraph → List ℕ
later_breaks p = or_else (second_breaks p) (third_breaks p)

-- one of the later passes ends with these breaks
abbrev pub AreFound : Paragraph → List ℕ → Type 0
AreFound p breaks = (Some breaks ≡ second_breaks p) ⊎ (Some breaks ≡ third_breaks p)
