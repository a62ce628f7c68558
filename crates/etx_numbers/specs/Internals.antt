-- Internal quantities: what a token stands for where a number is read ("TeX: The Program", sections 413 to 429, and the e-TeX manual).
use Rattle.std.specs.Prelude.{ℕ, ℤ, pos, min, length, Option, Some, None}
use Rattle.etx_exprs.specs.declared.value.Value.{Value as Amount}
use Rattle.etx_exprs.specs.declared.value.Value.TheVariants as amount
use Rattle.etx_prims.specs.declared.command.Primitive.{Primitive}
use Rattle.etx_prims.specs.declared.command.Primitive.TheVariants as prims
use Rattle.etx_prims.specs.declared.quantities.RegisterKind.{RegisterKind}
use Rattle.etx_prims.specs.declared.quantities.RegisterKind.TheVariants as registers
use Rattle.etx_prims.specs.declared.quantities.ReadOnlyIntKind.{ReadOnlyIntKind}
use Rattle.etx_prims.specs.declared.quantities.ReadOnlyIntKind.TheVariants as ints
use Rattle.etx_prims.specs.declared.quantities.AuxKind.{AuxKind}
use Rattle.etx_prims.specs.declared.quantities.AuxKind.TheVariants as auxes
use Rattle.etx_keys.specs.declared.key.Key.{Key}
use Rattle.etx_keys.specs.declared.key.Key.TheVariants as key
use Rattle.etx_keys.specs.declared.single.Single.TheVariants as singles
use Rattle.etx_state.specs.declared.key.GroupKind.{GroupKind}
use Rattle.etx_state.specs.declared.key.GroupKind.TheVariants as groups
use Rattle.etx_state.specs.declared.key.Meaning.{Meaning}
use Rattle.etx_state.specs.declared.key.Meaning.TheVariants as means
use Rattle.etx_state.specs.Values.{Values, kind, level}
use Rattle.etx_state.specs.Reading.{int_in, number_at, glue_at}
use Rattle.etx_state.specs.Conditions.{current_if_type, current_if_branch}
use Rattle.etx_state.specs.Rests.{RestState}
use Rattle.etx_numbers.specs.declared.internal.Internal.{Internal}
use Rattle.etx_numbers.specs.declared.internal.Internal.TheVariants as internal

abbrev pub register_key : RegisterKind → ℕ → Key
register_key kind n = key.Register kind n

-- the value of a register; that of a token register is no amount
unfoldable pub register_amount : RegisterKind → ℕ → Values → Amount
register_amount registers.Count n v = amount.Int (number_at v (key.Register registers.Count n))
register_amount registers.Dimen n v = amount.Dim (number_at v (key.Register registers.Dimen n))
register_amount registers.Skip n v = amount.Glue (glue_at v (key.Register registers.Skip n))
register_amount registers.MuSkip n v = amount.MuGlue (glue_at v (key.Register registers.MuSkip n))
register_amount registers.Toks n v = amount.Int (pos 0)

-- a register that a control sequence stands for
unfoldable pub register_internal : RegisterKind → ℕ → Values → Internal
register_internal registers.Toks n v = internal.List (register_key registers.Toks n)
register_internal registers.Count n v = internal.Amount (register_amount registers.Count n v)
register_internal registers.Dimen n v = internal.Amount (register_amount registers.Dimen n v)
register_internal registers.Skip n v = internal.Amount (register_amount registers.Skip n v)
register_internal registers.MuSkip n v = internal.Amount (register_amount registers.MuSkip n v)

abbrev pub integer : ℤ → Internal
integer n = internal.Amount (amount.Int n)

-- a count, which is at most 2^31-1
abbrev pub capped : ℕ → ℤ
capped n = pos (min n 2147483647)

-- the numbers of \currentgrouptype, of the kinds that groups have so far
abbrev pub group_number : GroupKind → ℕ
group_number groups.Simple = 1
group_number groups.SemiSimple = 14

abbrev pub group_type : Option GroupKind → ℤ
group_type None = pos 0
group_type (Some kind) = pos (group_number kind)

unfoldable pub read_only_int : ReadOnlyIntKind → ℕ → RestState → Internal
read_only_int ints.InputLineNo line r = integer (capped line)
read_only_int ints.Badness line r = internal.Unbuilt
read_only_int ints.ETeXVersion line r = integer (pos 2)
read_only_int ints.CurrentGroupLevel line r = integer (capped (level r.values))
read_only_int ints.CurrentGroupType line r = integer (group_type (kind r.values))
read_only_int ints.CurrentIfLevel line r = integer (capped (length r.conditions))
read_only_int ints.CurrentIfType line r = integer (current_if_type r.conditions)
read_only_int ints.CurrentIfBranch line r = integer (current_if_branch r.conditions)

-- in outer vertical mode there is no space factor; the depth before is still to come
abbrev pub aux : AuxKind → Internal
aux auxes.PrevDepth = internal.Unbuilt
aux auxes.SpaceFactor = internal.Improper

-- a line for each family
unfoldable pub primitive_internal : Primitive → ℕ → RestState → Internal
primitive_internal (prims.IntParam p) line r = integer (int_in r.values p)
primitive_internal (prims.DimenParam p) line r = internal.Amount (amount.Dim (number_at r.values (key.Dimen p)))
primitive_internal (prims.GlueParam p) line r = internal.Amount (amount.Glue (glue_at r.values (key.Glue p)))
primitive_internal (prims.MuGlueParam p) line r = internal.Amount (amount.MuGlue (glue_at r.values (key.MuGlue p)))
primitive_internal (prims.TokenParam p) line r = internal.List (key.Tokens p)
primitive_internal (prims.Register kind) line r = internal.Register kind
primitive_internal (prims.Code kind) line r = internal.Code kind
primitive_internal prims.FontDimen line r = internal.Unbuilt
primitive_internal (prims.FontInt kind) line r = internal.Unbuilt
primitive_internal (prims.FamilyFont kind) line r = internal.Unbuilt
primitive_internal prims.Font line r = internal.Unbuilt
primitive_internal prims.NullFont line r = internal.Unbuilt
primitive_internal prims.ParShape line r = internal.Unbuilt
primitive_internal (prims.BoxDimen kind) line r = internal.Unbuilt
primitive_internal (prims.Aux kind) line r = aux kind
primitive_internal prims.PrevGraf line r = internal.Unbuilt
primitive_internal (prims.PageInt kind) line r = internal.Unbuilt
primitive_internal (prims.PageDimen kind) line r = internal.Unbuilt
primitive_internal prims.InteractionMode line r = integer (number_at r.values (key.Single singles.Interaction))
primitive_internal (prims.LastItem kind) line r = internal.Unbuilt
primitive_internal (prims.ReadOnlyInt kind) line r = read_only_int kind line r
primitive_internal (prims.FontChar kind) line r = internal.Unbuilt
primitive_internal (prims.ParShapeItem kind) line r = internal.Unbuilt
primitive_internal (prims.GluePart kind) line r = internal.GluePart kind
primitive_internal (prims.GlueConversion kind) line r = internal.GlueConversion kind
primitive_internal (prims.Expression kind) line r = internal.Expression kind
primitive_internal _ line r = internal.Nothing

unfoldable pub internal_of : Meaning → ℕ → RestState → Internal
internal_of (means.Primitive p) line r = primitive_internal p line r
internal_of (means.CharGiven code) line r = integer (pos code)
internal_of (means.MathGiven code) line r = integer (pos code)
internal_of (means.Register kind n) line r = register_internal kind n r.values
internal_of _ line r = internal.Nothing
