-- How numbers, dimensions, glue and meanings are written ("TeX: The Program", sections 65, 67, 69, 103, 177, 178, 207 to 298, 465, 472).
use Rattle.std.specs.Prelude.{ℕ, zero, suc, ◌+◌, ◌-◌, ◌/◌, ◌%◌, ◌==◌, ℤ, pos, negsuc, Bool, true, false, ◌||◌, nat_lt, List, [], ◌∷◌, ◌++◌, length, replicate, unwrap_or, slice_get, codes, if◌then◌else◌}
use Rattle.std.specs.Fmt.{decimal}
use Rattle.etx_scaled.specs.Decimal.{decimal_text}
use Rattle.etx_exprs.specs.declared.value.Value.{Value as Amount}
use Rattle.etx_exprs.specs.declared.value.Value.TheVariants as amount
use Rattle.etx_exprs.specs.Values.{is_zero}
use Rattle.etx_matter.specs.declared.glue.Glue.{Glue}
use Rattle.etx_matter.specs.declared.glue.GlueOrder.{GlueOrder}
use Rattle.etx_matter.specs.declared.glue.GlueOrder.TheVariants.{Normal, Fil, Fill, Filll}
use Rattle.etx_matter.specs.declared.token.Token.{Token}
use Rattle.etx_prims.specs.Names.{name_of}
use Rattle.etx_prims.specs.Quantities.{register_name}
use Rattle.etx_state.specs.declared.key.Meaning.{Meaning}
use Rattle.etx_state.specs.declared.key.Meaning.TheVariants as means
use Rattle.etx_state.specs.Macros.{MacroState}
use Rattle.etx_state.specs.Rests.{RestState}
use Rattle.etx_answers.specs.Printing.{escape_in, printed, token_text}

-- ---- numbers

unfoldable pub integer_text : ℤ → List ℕ
integer_text (pos n) = decimal n
integer_text (negsuc n) = 45 ∷ decimal (suc n)

-- a decimal digit in Roman numerals, with the letters for one, five and ten of it
abbrev pub roman_digit : ℕ → ℕ → ℕ → ℕ → List ℕ
roman_digit one five ten d =
    if d == 1 then one ∷ []
    else if d == 2 then one ∷ one ∷ []
    else if d == 3 then one ∷ one ∷ one ∷ []
    else if d == 4 then one ∷ five ∷ []
    else if d == 5 then five ∷ []
    else if d == 6 then five ∷ one ∷ []
    else if d == 7 then five ∷ one ∷ one ∷ []
    else if d == 8 then five ∷ one ∷ one ∷ one ∷ []
    else if d == 9 then one ∷ ten ∷ []
    else []

-- thousands are written one by one; 0 is nothing
abbrev pub roman_digits : ℕ → List ℕ
roman_digits n = replicate (n / 1000) 109 ++ roman_digit 99 100 109 (n / 100 % 10) ++ roman_digit 120 108 99 (n / 10 % 10) ++ roman_digit 105 118 120 (n % 10)

-- a number below 0 has none
unfoldable pub roman_text : ℤ → List ℕ
roman_text (pos n) = roman_digits n
roman_text (negsuc n) = []

-- in hexadecimal, with at most so many digits behind the first
abbrev pub hex_glyph : ℕ → ℕ
hex_glyph n = if nat_lt n 10 then n + 48 else n + 55

abbrev pub hex_digits : ℕ → ℕ → List ℕ
hex_digits zero n = hex_glyph (n % 16) ∷ []
hex_digits (suc places) n = if nat_lt n 16 then hex_glyph n ∷ [] else hex_digits places (n / 16) ++ hex_glyph (n % 16) ∷ []

unfoldable pub hex_text : ℕ → List ℕ
hex_text n = hex_digits 8 n

-- ---- glue

abbrev pub order_text : GlueOrder → List ℕ → List ℕ
order_text Normal unit = unit
order_text Fil unit = codes "fil"
order_text Fill unit = codes "fill"
order_text Filll unit = codes "filll"

abbrev pub size_text : ℤ → GlueOrder → List ℕ → List ℕ
size_text size order unit = decimal_text size ++ order_text order unit

-- a stretch or shrink of nothing isn't written
abbrev pub part_text : List ℕ → ℤ → GlueOrder → List ℕ → List ℕ
part_text before size order unit = if is_zero size then [] else before ++ size_text size order unit

unfoldable pub glue_text : Glue → List ℕ → List ℕ
glue_text g unit = decimal_text g.width ++ unit ++ part_text (codes " plus ") g.stretch g.stretch_order unit ++ part_text (codes " minus ") g.shrink g.shrink_order unit

-- an amount as \the writes it
unfoldable pub amount_text : Amount → List ℕ
amount_text (amount.Int n) = integer_text n
amount_text (amount.Dim n) = decimal_text n ++ codes "pt"
amount_text (amount.Glue g) = glue_text g (codes "pt")
amount_text (amount.MuGlue g) = glue_text g (codes "mu")

-- ---- meanings

-- what a character is, by its category
unfoldable pub character_words : ℕ → List ℕ
character_words cat =
    if cat == 1 then codes "begin-group character "
    else if cat == 2 then codes "end-group character "
    else if cat == 3 then codes "math shift character "
    else if cat == 4 then codes "alignment tab character "
    else if cat == 6 then codes "macro parameter character "
    else if cat == 7 then codes "superscript character "
    else if cat == 8 then codes "subscript character "
    else if cat == 10 then codes "blank space "
    else if cat == 11 then codes "the letter "
    else codes "the character "

abbrev pub word : List ℕ → RestState → List ℕ
word text r = escape_in r.values ++ text

abbrev pub prefix : Bool → List ℕ → RestState → List ℕ
prefix true text r = word text r
prefix false text r = []

-- the prefixes of a macro, and a space behind them
abbrev pub prefix_words : MacroState → RestState → List ℕ
prefix_words m r =
    prefix m.is_protected (codes "protected") r ++ prefix m.is_long (codes "long") r ++ prefix m.is_outer (codes "outer") r
    ++ (if m.is_protected || m.is_long || m.is_outer then 32 ∷ [] else [])

abbrev pub marked_text : ℕ → List Token → RestState → List ℕ
marked_text mark [] r = []
marked_text mark (t ∷ ts) r = token_text r mark t ++ marked_text mark ts r

-- the character that marked a parameter, or else a number sign
abbrev pub mark_at : List ℕ → ℕ → ℕ
mark_at marks n = unwrap_or (slice_get marks n) 35

-- a parameter by the character that marked it, and its number; nothing stands before the first part
abbrev pub parameter_mark : List ℕ → ℕ → List ℕ
parameter_mark marks n = if n == 0 then [] else mark_at marks (n - 1) ∷ (48 + n % 10) ∷ []

-- the parameter text from a parameter on
abbrev pub parts_text : List ℕ → ℕ → List (List Token) → RestState → List ℕ
parts_text marks n [] r = []
parts_text marks n (ts ∷ parts) r = parameter_mark marks n ++ marked_text 35 ts r ++ parts_text marks (n + 1) parts r

-- the character that marks the parameters in the body: that of the last one
abbrev pub last_mark : List ℕ → ℕ
last_mark marks = mark_at marks (length marks - 1)

abbrev pub macro_text : MacroState → RestState → List ℕ
macro_text m r = prefix_words m r ++ codes "macro:" ++ parts_text m.marks 0 m.parts r ++ codes "->" ++ marked_text (last_mark m.marks) m.body r

unfoldable pub meaning_text : Meaning → RestState → List ℕ
meaning_text means.Undefined r = codes "undefined"
meaning_text (means.Primitive p) r = word (name_of p) r
meaning_text (means.Char code cat) r = character_words cat ++ code ∷ []
meaning_text (means.Macro m) r = macro_text m r
meaning_text (means.CharGiven code) r = word (codes "char") r ++ 34 ∷ hex_text code
meaning_text (means.MathGiven code) r = word (codes "mathchar") r ++ 34 ∷ hex_text code
meaning_text (means.Register kind n) r = word (register_name kind) r ++ decimal n
meaning_text means.Unexpanded r = word (codes "relax") r
meaning_text means.EndTemplate r = codes "end of alignment template"

-- a command in an error: a character stands in quotes
abbrev pub shown_by : Meaning → List ℕ → List ℕ
shown_by (means.Char code cat) text = 96 ∷ text ++ 39 ∷ []
shown_by _ text = text

unfoldable pub shown_meaning : Meaning → RestState → List ℕ
shown_meaning mm r = shown_by mm (printed r.values (meaning_text mm r))
