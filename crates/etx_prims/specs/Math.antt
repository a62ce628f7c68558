-- The names of the commands of math mode, as bytes without the escape character: one line for each name.
use Rattle.std.specs.Prelude.{ℕ, List, codes}
use Rattle.etx_prims.specs.declared.math.MathStyleKind.{MathStyleKind}
use Rattle.etx_prims.specs.declared.math.MathStyleKind.TheVariants as math_styles
use Rattle.etx_prims.specs.declared.math.MathComponentKind.{MathComponentKind}
use Rattle.etx_prims.specs.declared.math.MathComponentKind.TheVariants as math_components
use Rattle.etx_prims.specs.declared.math.LimitSwitchKind.{LimitSwitchKind}
use Rattle.etx_prims.specs.declared.math.LimitSwitchKind.TheVariants as limit_switchs
use Rattle.etx_prims.specs.declared.math.FractionKind.{FractionKind}
use Rattle.etx_prims.specs.declared.math.FractionKind.TheVariants as fractions
use Rattle.etx_prims.specs.declared.math.LeftRightKind.{LeftRightKind}
use Rattle.etx_prims.specs.declared.math.LeftRightKind.TheVariants as left_rights
use Rattle.etx_prims.specs.declared.math.EqNoKind.{EqNoKind}
use Rattle.etx_prims.specs.declared.math.EqNoKind.TheVariants as eq_nos

unfoldable pub math_style_name : MathStyleKind → List ℕ
math_style_name math_styles.Display = codes "displaystyle"
math_style_name math_styles.Text = codes "textstyle"
math_style_name math_styles.Script = codes "scriptstyle"
math_style_name math_styles.ScriptScript = codes "scriptscriptstyle"

unfoldable pub math_component_name : MathComponentKind → List ℕ
math_component_name math_components.Ord = codes "mathord"
math_component_name math_components.Op = codes "mathop"
math_component_name math_components.Bin = codes "mathbin"
math_component_name math_components.Rel = codes "mathrel"
math_component_name math_components.Open = codes "mathopen"
math_component_name math_components.Close = codes "mathclose"
math_component_name math_components.Punct = codes "mathpunct"
math_component_name math_components.Inner = codes "mathinner"
math_component_name math_components.Underline = codes "underline"
math_component_name math_components.Overline = codes "overline"

unfoldable pub limit_switch_name : LimitSwitchKind → List ℕ
limit_switch_name limit_switchs.Limits = codes "limits"
limit_switch_name limit_switchs.NoLimits = codes "nolimits"
limit_switch_name limit_switchs.DisplayLimits = codes "displaylimits"

unfoldable pub fraction_name : FractionKind → List ℕ
fraction_name fractions.Above = codes "above"
fraction_name fractions.Over = codes "over"
fraction_name fractions.Atop = codes "atop"
fraction_name fractions.AboveWithDelims = codes "abovewithdelims"
fraction_name fractions.OverWithDelims = codes "overwithdelims"
fraction_name fractions.AtopWithDelims = codes "atopwithdelims"

unfoldable pub left_right_name : LeftRightKind → List ℕ
left_right_name left_rights.Left = codes "left"
left_right_name left_rights.Middle = codes "middle"
left_right_name left_rights.Right = codes "right"

unfoldable pub eq_no_name : EqNoKind → List ℕ
eq_no_name eq_nos.Right = codes "eqno"
eq_no_name eq_nos.Left = codes "leqno"
