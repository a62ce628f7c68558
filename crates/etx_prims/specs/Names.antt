-- The name of each primitive, as bytes without the escape character: one line for each family.
use Rattle.std.specs.Prelude.{ℕ, List, codes}
use Rattle.etx_prims.specs.declared.command.Primitive.{Primitive}
use Rattle.etx_prims.specs.declared.command.Primitive.TheVariants as prims
use Rattle.etx_prims.specs.Parameters.{int_param_name, dimen_param_name, glue_param_name, mu_glue_param_name, token_param_name}
use Rattle.etx_prims.specs.Expansion.{expand_name, input_name, if_name, fi_or_else_name, convert_name, the_name, mark_name, class_mark_name}
use Rattle.etx_prims.specs.Quantities.{register_name, register_definer_name, code_name, font_int_name, family_font_name, box_dimen_name, aux_name, page_int_name, page_dimen_name, last_item_name, read_only_int_name, font_char_name, par_shape_item_name, glue_part_name, glue_conversion_name, expression_name}
use Rattle.etx_prims.specs.Assignments.{def_name, let_name, char_def_name, read_name, hyphen_data_name, prefix_name, arithmetic_name, interaction_name}
use Rattle.etx_prims.specs.General.{group_edge_name, after_name, case_shift_name, message_name, show_name, in_stream_name, extension_name}
use Rattle.etx_prims.specs.Material.{make_box_name, horizontal_unbox_name, vertical_unbox_name, hmove_name, vmove_name, leaders_name, horizontal_skip_name, vertical_skip_name, remove_item_name, start_par_name, discretionary_name, mark_class_name, insert_name, end_cell_name}
use Rattle.etx_prims.specs.Math.{math_style_name, math_component_name, limit_switch_name, fraction_name, left_right_name, eq_no_name}

unfoldable pub name_of : Primitive → List ℕ
name_of (prims.Expand kind) = expand_name kind
name_of (prims.Input kind) = input_name kind
name_of (prims.Conditional kind) = if_name kind
name_of (prims.FiOrElse kind) = fi_or_else_name kind
name_of (prims.Convert kind) = convert_name kind
name_of (prims.The kind) = the_name kind
name_of (prims.TopBotMark kind) = mark_name kind
name_of (prims.TopBotMarks kind) = class_mark_name kind
name_of (prims.IntParam kind) = int_param_name kind
name_of (prims.DimenParam kind) = dimen_param_name kind
name_of (prims.GlueParam kind) = glue_param_name kind
name_of (prims.MuGlueParam kind) = mu_glue_param_name kind
name_of (prims.TokenParam kind) = token_param_name kind
name_of (prims.Register kind) = register_name kind
name_of (prims.Code kind) = code_name kind
name_of prims.FontDimen = codes "fontdimen"
name_of (prims.FontInt kind) = font_int_name kind
name_of (prims.FamilyFont kind) = family_font_name kind
name_of prims.Font = codes "font"
name_of prims.NullFont = codes "nullfont"
name_of prims.ParShape = codes "parshape"
name_of (prims.BoxDimen kind) = box_dimen_name kind
name_of (prims.Aux kind) = aux_name kind
name_of prims.PrevGraf = codes "prevgraf"
name_of (prims.PageInt kind) = page_int_name kind
name_of (prims.PageDimen kind) = page_dimen_name kind
name_of prims.InteractionMode = codes "interactionmode"
name_of (prims.LastItem kind) = last_item_name kind
name_of (prims.ReadOnlyInt kind) = read_only_int_name kind
name_of (prims.FontChar kind) = font_char_name kind
name_of (prims.ParShapeItem kind) = par_shape_item_name kind
name_of (prims.GluePart kind) = glue_part_name kind
name_of (prims.GlueConversion kind) = glue_conversion_name kind
name_of (prims.Expression kind) = expression_name kind
name_of (prims.Def kind) = def_name kind
name_of (prims.Let kind) = let_name kind
name_of (prims.CharDef kind) = char_def_name kind
name_of (prims.RegisterDef kind) = register_definer_name kind
name_of (prims.Read kind) = read_name kind
name_of prims.SetBox = codes "setbox"
name_of (prims.HyphenData kind) = hyphen_data_name kind
name_of (prims.Prefix kind) = prefix_name kind
name_of (prims.Arithmetic kind) = arithmetic_name kind
name_of (prims.Interaction kind) = interaction_name kind
name_of prims.Relax = codes "relax"
name_of prims.Par = codes "par"
name_of prims.End = codes "end"
name_of prims.EndCsName = codes "endcsname"
name_of (prims.SemiSimpleGroup kind) = group_edge_name kind
name_of (prims.After kind) = after_name kind
name_of prims.IgnoreSpaces = codes "ignorespaces"
name_of (prims.CaseShift kind) = case_shift_name kind
name_of (prims.Message kind) = message_name kind
name_of (prims.Show kind) = show_name kind
name_of (prims.InStream kind) = in_stream_name kind
name_of (prims.Extension kind) = extension_name kind
name_of (prims.MakeBox kind) = make_box_name kind
name_of (prims.UnHBox kind) = horizontal_unbox_name kind
name_of (prims.UnVBox kind) = vertical_unbox_name kind
name_of (prims.HMove kind) = hmove_name kind
name_of (prims.VMove kind) = vmove_name kind
name_of prims.ShipOut = codes "shipout"
name_of (prims.Leaders kind) = leaders_name kind
name_of prims.HRule = codes "hrule"
name_of prims.VRule = codes "vrule"
name_of (prims.HSkip kind) = horizontal_skip_name kind
name_of (prims.VSkip kind) = vertical_skip_name kind
name_of prims.MSkip = codes "mskip"
name_of prims.Kern = codes "kern"
name_of prims.MKern = codes "mkern"
name_of prims.Penalty = codes "penalty"
name_of (prims.RemoveItem kind) = remove_item_name kind
name_of (prims.StartPar kind) = start_par_name kind
name_of prims.Char = codes "char"
name_of prims.Accent = codes "accent"
name_of (prims.Discretionary kind) = discretionary_name kind
name_of prims.ItalicCorrection = codes "/"
name_of (prims.Mark kind) = mark_class_name kind
name_of (prims.Insert kind) = insert_name kind
name_of prims.NoBoundary = codes "noboundary"
name_of prims.ControlSpace = codes " "
name_of prims.HAlign = codes "halign"
name_of prims.NoAlign = codes "noalign"
name_of prims.Omit = codes "omit"
name_of (prims.EndCell kind) = end_cell_name kind
name_of prims.MathChar = codes "mathchar"
name_of prims.Delimiter = codes "delimiter"
name_of prims.Radical = codes "radical"
name_of prims.MathAccent = codes "mathaccent"
name_of prims.MathChoice = codes "mathchoice"
name_of (prims.MathStyle kind) = math_style_name kind
name_of (prims.MathComponent kind) = math_component_name kind
name_of (prims.LimitSwitch kind) = limit_switch_name kind
name_of prims.VCenter = codes "vcenter"
name_of (prims.Fraction kind) = fraction_name kind
name_of (prims.LeftRight kind) = left_right_name kind
name_of (prims.EqNo kind) = eq_no_name kind
name_of prims.NonScript = codes "nonscript"
