-- How the lexer treats each category.
use Rattle.std.specs.Prelude.{◌≢◌, ℕ, ◌==◌, if◌then◌else◌}
use Rattle.etx_lexer.specs.declared.categories.Class.{Class}
use Rattle.etx_lexer.specs.declared.categories.Class.TheVariants.{Escape, Return, Ignored, Space, Comment, Invalid, Plain}

-- The class of a category. The plain ones are 1, 2, 3, 4, 6, 7, 8, 11, 12 and 13.
unfoldable pub class_of : ℕ → Class
class_of cat =
    if cat == 0 then Escape
    else (if cat == 5 then Return
    else (if cat == 9 then Ignored
    else (if cat == 10 then Space
    else (if cat == 14 then Comment
    else (if cat == 15 then Invalid else Plain)))))

-- a category that has no rule of its own
abbrev pub IsOther : ℕ → Type 0
IsOther cat = (cat ≢ 0) × (cat ≢ 5) × (cat ≢ 9) × (cat ≢ 10) × (cat ≢ 14) × (cat ≢ 15)
