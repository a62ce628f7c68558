-- The names of the commands that do the same in each mode, as bytes without the escape character: one line for each name.
use Rattle.std.specs.Prelude.{ℕ, List, codes}
use Rattle.etx_prims.specs.declared.general.GroupEdge.{GroupEdge}
use Rattle.etx_prims.specs.declared.general.GroupEdge.TheVariants as group_edges
use Rattle.etx_prims.specs.declared.general.AfterKind.{AfterKind}
use Rattle.etx_prims.specs.declared.general.AfterKind.TheVariants as afters
use Rattle.etx_prims.specs.declared.general.CaseShiftKind.{CaseShiftKind}
use Rattle.etx_prims.specs.declared.general.CaseShiftKind.TheVariants as case_shifts
use Rattle.etx_prims.specs.declared.general.MessageKind.{MessageKind}
use Rattle.etx_prims.specs.declared.general.MessageKind.TheVariants as messages
use Rattle.etx_prims.specs.declared.general.ShowKind.{ShowKind}
use Rattle.etx_prims.specs.declared.general.ShowKind.TheVariants as shows
use Rattle.etx_prims.specs.declared.general.InStreamKind.{InStreamKind}
use Rattle.etx_prims.specs.declared.general.InStreamKind.TheVariants as in_streams
use Rattle.etx_prims.specs.declared.general.ExtensionKind.{ExtensionKind}
use Rattle.etx_prims.specs.declared.general.ExtensionKind.TheVariants as extensions

unfoldable pub group_edge_name : GroupEdge → List ℕ
group_edge_name group_edges.Begin = codes "begingroup"
group_edge_name group_edges.End = codes "endgroup"

unfoldable pub after_name : AfterKind → List ℕ
after_name afters.Group = codes "aftergroup"
after_name afters.Assignment = codes "afterassignment"

unfoldable pub case_shift_name : CaseShiftKind → List ℕ
case_shift_name case_shifts.Upper = codes "uppercase"
case_shift_name case_shifts.Lower = codes "lowercase"

unfoldable pub message_name : MessageKind → List ℕ
message_name messages.Message = codes "message"
message_name messages.Error = codes "errmessage"

unfoldable pub show_name : ShowKind → List ℕ
show_name shows.Token = codes "show"
show_name shows.The = codes "showthe"
show_name shows.Tokens = codes "showtokens"

unfoldable pub in_stream_name : InStreamKind → List ℕ
in_stream_name in_streams.Open = codes "openin"
in_stream_name in_streams.Close = codes "closein"

unfoldable pub extension_name : ExtensionKind → List ℕ
extension_name extensions.OpenOut = codes "openout"
extension_name extensions.Write = codes "write"
extension_name extensions.CloseOut = codes "closeout"
extension_name extensions.Special = codes "special"
extension_name extensions.Immediate = codes "immediate"
extension_name extensions.SetLanguage = codes "setlanguage"
