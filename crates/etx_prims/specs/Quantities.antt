-- The names of registers, codes and the other quantities that are read or set, as bytes without the escape character: one line for each name.
use Rattle.std.specs.Prelude.{ℕ, List, codes}
use Rattle.etx_prims.specs.declared.quantities.RegisterKind.{RegisterKind}
use Rattle.etx_prims.specs.declared.quantities.RegisterKind.TheVariants as registers
use Rattle.etx_prims.specs.declared.quantities.CodeKind.{CodeKind}
use Rattle.etx_prims.specs.declared.quantities.CodeKind.TheVariants as codes
use Rattle.etx_prims.specs.declared.quantities.FontIntKind.{FontIntKind}
use Rattle.etx_prims.specs.declared.quantities.FontIntKind.TheVariants as font_ints
use Rattle.etx_prims.specs.declared.quantities.FamilyFontKind.{FamilyFontKind}
use Rattle.etx_prims.specs.declared.quantities.FamilyFontKind.TheVariants as family_fonts
use Rattle.etx_prims.specs.declared.quantities.BoxDimenKind.{BoxDimenKind}
use Rattle.etx_prims.specs.declared.quantities.BoxDimenKind.TheVariants as box_dimens
use Rattle.etx_prims.specs.declared.quantities.AuxKind.{AuxKind}
use Rattle.etx_prims.specs.declared.quantities.AuxKind.TheVariants as auxs
use Rattle.etx_prims.specs.declared.quantities.PageIntKind.{PageIntKind}
use Rattle.etx_prims.specs.declared.quantities.PageIntKind.TheVariants as page_ints
use Rattle.etx_prims.specs.declared.quantities.PageDimenKind.{PageDimenKind}
use Rattle.etx_prims.specs.declared.quantities.PageDimenKind.TheVariants as page_dimens
use Rattle.etx_prims.specs.declared.quantities.LastItemKind.{LastItemKind}
use Rattle.etx_prims.specs.declared.quantities.LastItemKind.TheVariants as last_items
use Rattle.etx_prims.specs.declared.quantities.ReadOnlyIntKind.{ReadOnlyIntKind}
use Rattle.etx_prims.specs.declared.quantities.ReadOnlyIntKind.TheVariants as read_only_ints
use Rattle.etx_prims.specs.declared.quantities.FontCharKind.{FontCharKind}
use Rattle.etx_prims.specs.declared.quantities.FontCharKind.TheVariants as font_chars
use Rattle.etx_prims.specs.declared.quantities.ParShapeItemKind.{ParShapeItemKind}
use Rattle.etx_prims.specs.declared.quantities.ParShapeItemKind.TheVariants as par_shape_items
use Rattle.etx_prims.specs.declared.quantities.GluePartKind.{GluePartKind}
use Rattle.etx_prims.specs.declared.quantities.GluePartKind.TheVariants as glue_parts
use Rattle.etx_prims.specs.declared.quantities.GlueConversionKind.{GlueConversionKind}
use Rattle.etx_prims.specs.declared.quantities.GlueConversionKind.TheVariants as glue_conversions
use Rattle.etx_prims.specs.declared.quantities.ExpressionKind.{ExpressionKind}
use Rattle.etx_prims.specs.declared.quantities.ExpressionKind.TheVariants as expressions

unfoldable pub register_name : RegisterKind → List ℕ
register_name registers.Count = codes "count"
register_name registers.Dimen = codes "dimen"
register_name registers.Skip = codes "skip"
register_name registers.MuSkip = codes "muskip"
register_name registers.Toks = codes "toks"

unfoldable pub register_definer_name : RegisterKind → List ℕ
register_definer_name registers.Count = codes "countdef"
register_definer_name registers.Dimen = codes "dimendef"
register_definer_name registers.Skip = codes "skipdef"
register_definer_name registers.MuSkip = codes "muskipdef"
register_definer_name registers.Toks = codes "toksdef"

unfoldable pub code_name : CodeKind → List ℕ
code_name codes.Cat = codes "catcode"
code_name codes.Math = codes "mathcode"
code_name codes.Lc = codes "lccode"
code_name codes.Uc = codes "uccode"
code_name codes.Sf = codes "sfcode"
code_name codes.Del = codes "delcode"

unfoldable pub font_int_name : FontIntKind → List ℕ
font_int_name font_ints.HyphenChar = codes "hyphenchar"
font_int_name font_ints.SkewChar = codes "skewchar"

unfoldable pub family_font_name : FamilyFontKind → List ℕ
family_font_name family_fonts.Text = codes "textfont"
family_font_name family_fonts.Script = codes "scriptfont"
family_font_name family_fonts.ScriptScript = codes "scriptscriptfont"

unfoldable pub box_dimen_name : BoxDimenKind → List ℕ
box_dimen_name box_dimens.Width = codes "wd"
box_dimen_name box_dimens.Height = codes "ht"
box_dimen_name box_dimens.Depth = codes "dp"

unfoldable pub aux_name : AuxKind → List ℕ
aux_name auxs.PrevDepth = codes "prevdepth"
aux_name auxs.SpaceFactor = codes "spacefactor"

unfoldable pub page_int_name : PageIntKind → List ℕ
page_int_name page_ints.DeadCycles = codes "deadcycles"
page_int_name page_ints.InsertPenalties = codes "insertpenalties"

unfoldable pub page_dimen_name : PageDimenKind → List ℕ
page_dimen_name page_dimens.Goal = codes "pagegoal"
page_dimen_name page_dimens.Total = codes "pagetotal"
page_dimen_name page_dimens.Stretch = codes "pagestretch"
page_dimen_name page_dimens.FilStretch = codes "pagefilstretch"
page_dimen_name page_dimens.FillStretch = codes "pagefillstretch"
page_dimen_name page_dimens.FilllStretch = codes "pagefilllstretch"
page_dimen_name page_dimens.Shrink = codes "pageshrink"
page_dimen_name page_dimens.Depth = codes "pagedepth"

unfoldable pub last_item_name : LastItemKind → List ℕ
last_item_name last_items.Penalty = codes "lastpenalty"
last_item_name last_items.Kern = codes "lastkern"
last_item_name last_items.Skip = codes "lastskip"
last_item_name last_items.NodeType = codes "lastnodetype"

unfoldable pub read_only_int_name : ReadOnlyIntKind → List ℕ
read_only_int_name read_only_ints.InputLineNo = codes "inputlineno"
read_only_int_name read_only_ints.Badness = codes "badness"
read_only_int_name read_only_ints.ETeXVersion = codes "eTeXversion"
read_only_int_name read_only_ints.CurrentGroupLevel = codes "currentgrouplevel"
read_only_int_name read_only_ints.CurrentGroupType = codes "currentgrouptype"
read_only_int_name read_only_ints.CurrentIfLevel = codes "currentiflevel"
read_only_int_name read_only_ints.CurrentIfType = codes "currentiftype"
read_only_int_name read_only_ints.CurrentIfBranch = codes "currentifbranch"

unfoldable pub font_char_name : FontCharKind → List ℕ
font_char_name font_chars.Width = codes "fontcharwd"
font_char_name font_chars.Height = codes "fontcharht"
font_char_name font_chars.Depth = codes "fontchardp"
font_char_name font_chars.Italic = codes "fontcharic"

unfoldable pub par_shape_item_name : ParShapeItemKind → List ℕ
par_shape_item_name par_shape_items.Length = codes "parshapelength"
par_shape_item_name par_shape_items.Indent = codes "parshapeindent"
par_shape_item_name par_shape_items.Dimen = codes "parshapedimen"

unfoldable pub glue_part_name : GluePartKind → List ℕ
glue_part_name glue_parts.Stretch = codes "gluestretch"
glue_part_name glue_parts.Shrink = codes "glueshrink"
glue_part_name glue_parts.StretchOrder = codes "gluestretchorder"
glue_part_name glue_parts.ShrinkOrder = codes "glueshrinkorder"

unfoldable pub glue_conversion_name : GlueConversionKind → List ℕ
glue_conversion_name glue_conversions.ToMu = codes "gluetomu"
glue_conversion_name glue_conversions.FromMu = codes "mutoglue"

unfoldable pub expression_name : ExpressionKind → List ℕ
expression_name expressions.Num = codes "numexpr"
expression_name expressions.Dimen = codes "dimexpr"
expression_name expressions.Glue = codes "glueexpr"
expression_name expressions.Mu = codes "muexpr"
