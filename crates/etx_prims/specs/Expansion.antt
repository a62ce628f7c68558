-- The names of the expandable commands, as bytes without the escape character: one line for each name.
use Rattle.std.specs.Prelude.{ℕ, List, codes}
use Rattle.etx_prims.specs.declared.expansion.ExpandKind.{ExpandKind}
use Rattle.etx_prims.specs.declared.expansion.ExpandKind.TheVariants as expands
use Rattle.etx_prims.specs.declared.expansion.InputKind.{InputKind}
use Rattle.etx_prims.specs.declared.expansion.InputKind.TheVariants as inputs
use Rattle.etx_prims.specs.declared.expansion.IfKind.{IfKind}
use Rattle.etx_prims.specs.declared.expansion.IfKind.TheVariants as ifs
use Rattle.etx_prims.specs.declared.expansion.FiOrElseKind.{FiOrElseKind}
use Rattle.etx_prims.specs.declared.expansion.FiOrElseKind.TheVariants as fi_or_elses
use Rattle.etx_prims.specs.declared.expansion.ConvertKind.{ConvertKind}
use Rattle.etx_prims.specs.declared.expansion.ConvertKind.TheVariants as converts
use Rattle.etx_prims.specs.declared.expansion.TheKind.{TheKind}
use Rattle.etx_prims.specs.declared.expansion.TheKind.TheVariants as thes
use Rattle.etx_prims.specs.declared.expansion.MarkKind.{MarkKind}
use Rattle.etx_prims.specs.declared.expansion.MarkKind.TheVariants as marks

unfoldable pub expand_name : ExpandKind → List ℕ
expand_name expands.ExpandAfter = codes "expandafter"
expand_name expands.NoExpand = codes "noexpand"
expand_name expands.CsName = codes "csname"
expand_name expands.Unless = codes "unless"

unfoldable pub input_name : InputKind → List ℕ
input_name inputs.Input = codes "input"
input_name inputs.EndInput = codes "endinput"
input_name inputs.ScanTokens = codes "scantokens"

unfoldable pub if_name : IfKind → List ℕ
if_name ifs.Char = codes "if"
if_name ifs.Cat = codes "ifcat"
if_name ifs.Num = codes "ifnum"
if_name ifs.Dim = codes "ifdim"
if_name ifs.Odd = codes "ifodd"
if_name ifs.VMode = codes "ifvmode"
if_name ifs.HMode = codes "ifhmode"
if_name ifs.MMode = codes "ifmmode"
if_name ifs.Inner = codes "ifinner"
if_name ifs.Void = codes "ifvoid"
if_name ifs.HBox = codes "ifhbox"
if_name ifs.VBox = codes "ifvbox"
if_name ifs.X = codes "ifx"
if_name ifs.Eof = codes "ifeof"
if_name ifs.True = codes "iftrue"
if_name ifs.False = codes "iffalse"
if_name ifs.Case = codes "ifcase"
if_name ifs.Defined = codes "ifdefined"
if_name ifs.CsName = codes "ifcsname"
if_name ifs.FontChar = codes "iffontchar"

unfoldable pub fi_or_else_name : FiOrElseKind → List ℕ
fi_or_else_name fi_or_elses.Fi = codes "fi"
fi_or_else_name fi_or_elses.Else = codes "else"
fi_or_else_name fi_or_elses.Or = codes "or"

unfoldable pub convert_name : ConvertKind → List ℕ
convert_name converts.Number = codes "number"
convert_name converts.RomanNumeral = codes "romannumeral"
convert_name converts.String = codes "string"
convert_name converts.Meaning = codes "meaning"
convert_name converts.FontName = codes "fontname"
convert_name converts.ETeXRevision = codes "eTeXrevision"
convert_name converts.JobName = codes "jobname"

unfoldable pub the_name : TheKind → List ℕ
the_name thes.The = codes "the"
the_name thes.Unexpanded = codes "unexpanded"
the_name thes.Detokenize = codes "detokenize"

unfoldable pub mark_name : MarkKind → List ℕ
mark_name marks.Top = codes "topmark"
mark_name marks.First = codes "firstmark"
mark_name marks.Bottom = codes "botmark"
mark_name marks.SplitFirst = codes "splitfirstmark"
mark_name marks.SplitBottom = codes "splitbotmark"

unfoldable pub class_mark_name : MarkKind → List ℕ
class_mark_name marks.Top = codes "topmarks"
class_mark_name marks.First = codes "firstmarks"
class_mark_name marks.Bottom = codes "botmarks"
class_mark_name marks.SplitFirst = codes "splitfirstmarks"
class_mark_name marks.SplitBottom = codes "splitbotmarks"
