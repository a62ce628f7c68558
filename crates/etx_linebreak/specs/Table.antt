-- The table of all rows, by recursion over the breaks. The rows of each break are a list, and the newest list comes first.
use Rattle.std.specs.Prelude.{◌≡◌, ℕ, zero, suc, Bool, true, not, ◌&&◌, ◌||◌, ◌==◌, nat_le, nat_lt, pos, List, [], ◌∷◌, ◌++◌, length}
use Rattle.std.specs.List.{filter}
use Rattle.etx_linebreak.specs.Passes.{PassState, break_count}
use Rattle.etx_linebreak.specs.declared.row.Class.TheVariants.{Decent}
use Rattle.etx_linebreak.specs.declared.row.Row.{Row}
use Rattle.etx_linebreak.specs.Rows.{closes, made}

abbrev pub opening : Row
opening = record { number = 0; break_number = 0; line = 1; class = Decent; total = pos 0; before = 0 }

-- whether a row closed at no later break before this one
unfoldable pub is_live : PassState → ℕ → Row → Bool
is_live p zero r = true
is_live p (suc k) r = is_live p k r && (nat_le k r.break_number || not (closes p k r))

abbrev pub is_line : ℕ → Row → Bool
is_line l r = r.line == l

abbrev pub is_above : ℕ → Row → Bool
is_above l r = nat_lt l r.line

-- all rows, in the order of their breaks
unfoldable pub flat : List (List Row) → List Row
flat [] = []
flat (new ∷ old) = flat old ++ new

-- the rows of a line, the last break first
unfoldable pub of_line : ℕ → List (List Row) → List Row
of_line l [] = []
of_line l (new ∷ old) = filter (is_line l) new ++ of_line l old

-- the rows above a line, the first break first
unfoldable pub above : ℕ → List (List Row) → List Row
above l [] = []
above l (new ∷ old) = above l old ++ filter (is_above l) new

-- the rows of all lines before one, line by line
unfoldable pub lines_before : ℕ → List (List Row) → List Row
lines_before zero rows = []
lines_before (suc l) rows = lines_before l rows ++ of_line l rows

-- the order of rows: up to the easy line by lines, and then those above it
unfoldable pub in_order : ℕ → List (List Row) → List Row
in_order easy rows = lines_before (suc easy) rows ++ above easy rows

-- the live rows at a break, of all earlier ones
unfoldable pub live : PassState → ℕ → List (List Row) → List Row
live p j rows = filter (is_live p j) (in_order p.easy rows)

-- the rows at a break, of all earlier rows
unfoldable pub rows_at : PassState → ℕ → List (List Row) → List Row
rows_at p j earlier = made p j (length (flat earlier)) (live p j earlier)

-- the rows of the breaks up to this one
unfoldable pub rows_to : PassState → ℕ → List (List Row)
rows_to p zero = (opening ∷ []) ∷ []
rows_to p (suc k) = rows_at p (suc k) (rows_to p k) ∷ rows_to p k

unfoldable pub table : PassState → List Row
table p = flat (rows_to p (break_count p))

-- each row's number is its place in the list, from a place on
abbrev pub IsNumbered : ℕ → List Row → Type 0
IsNumbered n [] = Unit {0}
IsNumbered n (r ∷ rs) = (r.number ≡ n) × IsNumbered (suc n) rs
