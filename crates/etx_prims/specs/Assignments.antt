-- The names of the commands that assign, as bytes without the escape character: one line for each name.
use Rattle.std.specs.Prelude.{ℕ, List, codes}
use Rattle.etx_prims.specs.declared.assignments.DefKind.{DefKind}
use Rattle.etx_prims.specs.declared.assignments.DefKind.TheVariants as defs
use Rattle.etx_prims.specs.declared.assignments.LetKind.{LetKind}
use Rattle.etx_prims.specs.declared.assignments.LetKind.TheVariants as lets
use Rattle.etx_prims.specs.declared.assignments.CharDefKind.{CharDefKind}
use Rattle.etx_prims.specs.declared.assignments.CharDefKind.TheVariants as char_defs
use Rattle.etx_prims.specs.declared.assignments.ReadKind.{ReadKind}
use Rattle.etx_prims.specs.declared.assignments.ReadKind.TheVariants as reads
use Rattle.etx_prims.specs.declared.assignments.HyphenDataKind.{HyphenDataKind}
use Rattle.etx_prims.specs.declared.assignments.HyphenDataKind.TheVariants as hyphen_datas
use Rattle.etx_prims.specs.declared.assignments.PrefixKind.{PrefixKind}
use Rattle.etx_prims.specs.declared.assignments.PrefixKind.TheVariants as prefixs
use Rattle.etx_prims.specs.declared.assignments.ArithmeticKind.{ArithmeticKind}
use Rattle.etx_prims.specs.declared.assignments.ArithmeticKind.TheVariants as arithmetics
use Rattle.etx_prims.specs.declared.assignments.InteractionKind.{InteractionKind}
use Rattle.etx_prims.specs.declared.assignments.InteractionKind.TheVariants as interactions

unfoldable pub def_name : DefKind → List ℕ
def_name defs.Def = codes "def"
def_name defs.GDef = codes "gdef"
def_name defs.EDef = codes "edef"
def_name defs.XDef = codes "xdef"

unfoldable pub let_name : LetKind → List ℕ
let_name lets.Let = codes "let"
let_name lets.FutureLet = codes "futurelet"

unfoldable pub char_def_name : CharDefKind → List ℕ
char_def_name char_defs.Char = codes "chardef"
char_def_name char_defs.MathChar = codes "mathchardef"

unfoldable pub read_name : ReadKind → List ℕ
read_name reads.Read = codes "read"
read_name reads.ReadLine = codes "readline"

unfoldable pub hyphen_data_name : HyphenDataKind → List ℕ
hyphen_data_name hyphen_datas.Hyphenation = codes "hyphenation"
hyphen_data_name hyphen_datas.Patterns = codes "patterns"

unfoldable pub prefix_name : PrefixKind → List ℕ
prefix_name prefixs.Long = codes "long"
prefix_name prefixs.Outer = codes "outer"
prefix_name prefixs.Global = codes "global"
prefix_name prefixs.Protected = codes "protected"

unfoldable pub arithmetic_name : ArithmeticKind → List ℕ
arithmetic_name arithmetics.Advance = codes "advance"
arithmetic_name arithmetics.Multiply = codes "multiply"
arithmetic_name arithmetics.Divide = codes "divide"

unfoldable pub interaction_name : InteractionKind → List ℕ
interaction_name interactions.Batch = codes "batchmode"
interaction_name interactions.NonStop = codes "nonstopmode"
interaction_name interactions.Scroll = codes "scrollmode"
interaction_name interactions.ErrorStop = codes "errorstopmode"
