-- What becomes of a number that was read for an outer scan ("TeX: The Program", sections 433, 434, 461 and 462; e-TeX's quantities of
-- glue).
use Rattle.std.specs.Prelude.{ℕ, ℤ, pos, negsuc, Bool, nat_le, List, ◌++◌, Option, Some, None, codes, if◌then◌else◌}
use Rattle.etx_exprs.specs.declared.part.Part.TheVariants as part
use Rattle.etx_exprs.specs.declared.value.Value.{Value as Amount}
use Rattle.etx_exprs.specs.declared.value.Value.TheVariants as amount
use Rattle.etx_exprs.specs.Feeding.{fed_of}
use Rattle.etx_exprs.specs.Values.{rank}
use Rattle.etx_prims.specs.declared.quantities.RegisterKind.{RegisterKind}
use Rattle.etx_prims.specs.declared.quantities.RegisterKind.TheVariants as registers
use Rattle.etx_prims.specs.declared.quantities.CodeKind.{CodeKind}
use Rattle.etx_prims.specs.declared.quantities.GluePartKind.{GluePartKind}
use Rattle.etx_prims.specs.declared.quantities.GluePartKind.TheVariants as parts
use Rattle.etx_prims.specs.declared.quantities.GlueConversionKind.{GlueConversionKind}
use Rattle.etx_prims.specs.declared.quantities.GlueConversionKind.TheVariants as conversions
use Rattle.etx_keys.specs.declared.key.Key.TheVariants as key
use Rattle.etx_matter.specs.declared.glue.Glue.{Glue}
use Rattle.etx_matter.specs.declared.glue.GlueOrder.{GlueOrder}
use Rattle.etx_state.specs.declared.taker.Want.{Want}
use Rattle.etx_state.specs.declared.taker.NumberScan.TheVariants as number
use Rattle.etx_state.specs.declared.taker.Outer.{Outer}
use Rattle.etx_state.specs.declared.taker.Outer.TheVariants as outer
use Rattle.etx_state.specs.declared.taker.Taker.{Taker}
use Rattle.etx_state.specs.Reading.{number_at}
use Rattle.etx_state.specs.Rests.{RestState}
use Rattle.etx_answers.specs.declared.read.Read.{Read}
use Rattle.etx_answers.specs.declared.plan.Ended.{Ended}
use Rattle.etx_answers.specs.Reads.{goes_on, gives, failing, behind, list_read, read_ended}
use Rattle.etx_numbers.specs.Taking.{amount_in, glue_in, glue_amount, behind_width, taken}
use Rattle.etx_numbers.specs.Internals.{register_key, register_amount}
use Rattle.etx_answers.specs.Showing.{integer_text}

-- a number from 0 to the most
abbrev pub within : ℕ → ℤ → Option ℕ
within most (pos n) = if nat_le n most then Some n else None
within most (negsuc n) = None

abbrev pub bad_text : List ℕ → ℤ → List ℕ
bad_text what n = what ++ codes " (" ++ integer_text n ++ codes ")"

-- a number that is none of a register's is 0, with an error
abbrev pub value_read : RegisterKind → ℕ → Want → RestState → Read
value_read registers.Toks n w r = list_read (register_key registers.Toks n)
value_read registers.Count n w r = taken w (register_amount registers.Count n r.values)
value_read registers.Dimen n w r = taken w (register_amount registers.Dimen n r.values)
value_read registers.Skip n w r = taken w (register_amount registers.Skip n r.values)
value_read registers.MuSkip n w r = taken w (register_amount registers.MuSkip n r.values)

abbrev pub register_by : Option ℕ → RegisterKind → Want → ℤ → RestState → Read
register_by (Some n) kind w z r = value_read kind n w r
register_by None kind w z r = failing (bad_text (codes "Bad register code") z) (behind (outer.Register kind w) (gives (amount.Int (pos 0))))

unfoldable pub register_read : RegisterKind → Want → ℤ → RestState → Read
register_read kind w z r = register_by (within 32767 z) kind w z r

abbrev pub code_by : Option ℕ → CodeKind → Want → ℤ → RestState → Read
code_by (Some n) kind w z r = taken w (amount.Int (number_at r.values (key.Code kind n)))
code_by None kind w z r = failing (bad_text (codes "Bad character code") z) (behind (outer.Code kind w) (gives (amount.Int (pos 0))))

unfoldable pub code_read : CodeKind → Want → ℤ → RestState → Read
code_read kind w z r = code_by (within 255 z) kind w z r

abbrev pub glue_part : GluePartKind → Glue → Amount
glue_part parts.Stretch g = amount.Dim g.stretch
glue_part parts.Shrink g = amount.Dim g.shrink
glue_part parts.StretchOrder g = amount.Int (pos (rank g.stretch_order))
glue_part parts.ShrinkOrder g = amount.Int (pos (rank g.shrink_order))

abbrev pub converted : GlueConversionKind → Glue → Amount
converted conversions.ToMu g = amount.MuGlue g
converted conversions.FromMu g = amount.Glue g

-- a line for each outer scan
unfoldable pub outer_taken : Outer → Amount → GlueOrder → RestState → Read
outer_taken (outer.Register kind w) a o r = register_read kind w (amount_in a) r
outer_taken (outer.Code kind w) a o r = code_read kind w (amount_in a) r
outer_taken (outer.GluePart kind w) a o r = taken w (glue_part kind (glue_in a))
outer_taken (outer.GlueConversion kind w) a o r = taken w (converted kind (glue_in a))
outer_taken (outer.Operand e w) a o r = goes_on (number.Operator (fed_of e (part.Operand a)).state w)
outer_taken (outer.Width is_mu) a o r = behind_width is_mu (amount_in a)
outer_taken (outer.Stretch g is_mu) a o r = goes_on (number.Minus (record g { stretch = amount_in a; stretch_order = o }) is_mu)
outer_taken (outer.Shrink g is_mu) a o r = gives (glue_amount is_mu (record g { shrink = amount_in a; shrink_order = o }))
outer_taken (outer.Again w) a o r = taken w a

unfoldable pub outer_row : Outer → Taker → Amount → GlueOrder → RestState → Ended
outer_row o taker a order r = read_ended taker (outer_taken o a order r) r
