-- The names of the commands that build boxes, glue, paragraphs and alignments, as bytes without the escape character: one line for each name.
use Rattle.std.specs.Prelude.{ℕ, List, codes}
use Rattle.etx_prims.specs.declared.material.MakeBoxKind.{MakeBoxKind}
use Rattle.etx_prims.specs.declared.material.MakeBoxKind.TheVariants as make_boxs
use Rattle.etx_prims.specs.declared.material.UnboxKind.{UnboxKind}
use Rattle.etx_prims.specs.declared.material.UnboxKind.TheVariants as unboxs
use Rattle.etx_prims.specs.declared.material.HMoveKind.{HMoveKind}
use Rattle.etx_prims.specs.declared.material.HMoveKind.TheVariants as hmoves
use Rattle.etx_prims.specs.declared.material.VMoveKind.{VMoveKind}
use Rattle.etx_prims.specs.declared.material.VMoveKind.TheVariants as vmoves
use Rattle.etx_prims.specs.declared.material.LeadersKind.{LeadersKind}
use Rattle.etx_prims.specs.declared.material.LeadersKind.TheVariants as leaderss
use Rattle.etx_prims.specs.declared.material.SkipKind.{SkipKind}
use Rattle.etx_prims.specs.declared.material.SkipKind.TheVariants as skips
use Rattle.etx_prims.specs.declared.material.RemoveItemKind.{RemoveItemKind}
use Rattle.etx_prims.specs.declared.material.RemoveItemKind.TheVariants as remove_items
use Rattle.etx_prims.specs.declared.material.StartParKind.{StartParKind}
use Rattle.etx_prims.specs.declared.material.StartParKind.TheVariants as start_pars
use Rattle.etx_prims.specs.declared.material.DiscretionaryKind.{DiscretionaryKind}
use Rattle.etx_prims.specs.declared.material.DiscretionaryKind.TheVariants as discretionarys
use Rattle.etx_prims.specs.declared.material.MarkClassKind.{MarkClassKind}
use Rattle.etx_prims.specs.declared.material.MarkClassKind.TheVariants as mark_classs
use Rattle.etx_prims.specs.declared.material.InsertKind.{InsertKind}
use Rattle.etx_prims.specs.declared.material.InsertKind.TheVariants as inserts
use Rattle.etx_prims.specs.declared.material.EndCellKind.{EndCellKind}
use Rattle.etx_prims.specs.declared.material.EndCellKind.TheVariants as end_cells

unfoldable pub make_box_name : MakeBoxKind → List ℕ
make_box_name make_boxs.Box = codes "box"
make_box_name make_boxs.Copy = codes "copy"
make_box_name make_boxs.LastBox = codes "lastbox"
make_box_name make_boxs.VSplit = codes "vsplit"
make_box_name make_boxs.HBox = codes "hbox"
make_box_name make_boxs.VBox = codes "vbox"
make_box_name make_boxs.VTop = codes "vtop"

unfoldable pub horizontal_unbox_name : UnboxKind → List ℕ
horizontal_unbox_name unboxs.Box = codes "unhbox"
horizontal_unbox_name unboxs.Copy = codes "unhcopy"

unfoldable pub vertical_unbox_name : UnboxKind → List ℕ
vertical_unbox_name unboxs.Box = codes "unvbox"
vertical_unbox_name unboxs.Copy = codes "unvcopy"

unfoldable pub hmove_name : HMoveKind → List ℕ
hmove_name hmoves.Left = codes "moveleft"
hmove_name hmoves.Right = codes "moveright"

unfoldable pub vmove_name : VMoveKind → List ℕ
vmove_name vmoves.Raise = codes "raise"
vmove_name vmoves.Lower = codes "lower"

unfoldable pub leaders_name : LeadersKind → List ℕ
leaders_name leaderss.Aligned = codes "leaders"
leaders_name leaderss.Centered = codes "cleaders"
leaders_name leaderss.Expanded = codes "xleaders"

unfoldable pub horizontal_skip_name : SkipKind → List ℕ
horizontal_skip_name skips.Skip = codes "hskip"
horizontal_skip_name skips.Fil = codes "hfil"
horizontal_skip_name skips.Fill = codes "hfill"
horizontal_skip_name skips.Ss = codes "hss"
horizontal_skip_name skips.FilNeg = codes "hfilneg"

unfoldable pub vertical_skip_name : SkipKind → List ℕ
vertical_skip_name skips.Skip = codes "vskip"
vertical_skip_name skips.Fil = codes "vfil"
vertical_skip_name skips.Fill = codes "vfill"
vertical_skip_name skips.Ss = codes "vss"
vertical_skip_name skips.FilNeg = codes "vfilneg"

unfoldable pub remove_item_name : RemoveItemKind → List ℕ
remove_item_name remove_items.Skip = codes "unskip"
remove_item_name remove_items.Kern = codes "unkern"
remove_item_name remove_items.Penalty = codes "unpenalty"

unfoldable pub start_par_name : StartParKind → List ℕ
start_par_name start_pars.Indent = codes "indent"
start_par_name start_pars.NoIndent = codes "noindent"

unfoldable pub discretionary_name : DiscretionaryKind → List ℕ
discretionary_name discretionarys.Texts = codes "discretionary"
discretionary_name discretionarys.Hyphen = codes "-"

unfoldable pub mark_class_name : MarkClassKind → List ℕ
mark_class_name mark_classs.Zero = codes "mark"
mark_class_name mark_classs.Named = codes "marks"

unfoldable pub insert_name : InsertKind → List ℕ
insert_name inserts.Insert = codes "insert"
insert_name inserts.VAdjust = codes "vadjust"

unfoldable pub end_cell_name : EndCellKind → List ℕ
end_cell_name end_cells.Span = codes "span"
end_cell_name end_cells.Cr = codes "cr"
end_cell_name end_cells.CrCr = codes "crcr"
