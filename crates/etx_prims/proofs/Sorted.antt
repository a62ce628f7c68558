-- The names of the table of the look-up rise.
use Rattle.std.proofs.Common.{◌≡◌, true, refl, get_or, drop}
use Rattle.etx_prims.specs.declared.table.TheConstants.{SORTED}
use Rattle.etx_prims.specs.declared.command.Primitive.{Primitive}
use Rattle.etx_prims.specs.declared.command.Primitive.TheVariants as prims
use Rattle.etx_prims.specs.Parameters.{int_param_name, dimen_param_name, glue_param_name, mu_glue_param_name, token_param_name}
use Rattle.etx_prims.specs.Expansion.{expand_name, input_name, if_name, fi_or_else_name, convert_name, the_name, mark_name, class_mark_name}
use Rattle.etx_prims.specs.Quantities.{register_name, register_definer_name, code_name, font_int_name, family_font_name, box_dimen_name, aux_name, page_int_name, page_dimen_name, last_item_name, read_only_int_name, font_char_name, par_shape_item_name, glue_part_name, glue_conversion_name, expression_name}
use Rattle.etx_prims.specs.Assignments.{def_name, let_name, char_def_name, read_name, hyphen_data_name, prefix_name, arithmetic_name, interaction_name}
use Rattle.etx_prims.specs.General.{group_edge_name, after_name, case_shift_name, message_name, show_name, in_stream_name, extension_name}
use Rattle.etx_prims.specs.Material.{make_box_name, horizontal_unbox_name, vertical_unbox_name, hmove_name, vmove_name, leaders_name, horizontal_skip_name, vertical_skip_name, remove_item_name, start_par_name, discretionary_name, mark_class_name, insert_name, end_cell_name}
use Rattle.etx_prims.specs.Math.{math_style_name, math_component_name, limit_switch_name, fraction_name, left_right_name, eq_no_name}
use Rattle.etx_prims.specs.Names.{name_of}
use Rattle.etx_prims.specs.Rising.{HasRisingNames}
use Rattle.etx_prims.proofs.Searching.{rises_from, IsSortedByKey-rises}

pub rises-SORTED : rises_from name_of (get_or SORTED 0 prims.ControlSpace) (drop 1 SORTED) ≡ true
unfolding name_of int_param_name dimen_param_name glue_param_name mu_glue_param_name token_param_name expand_name input_name if_name fi_or_else_name convert_name the_name mark_name class_mark_name register_name register_definer_name code_name font_int_name family_font_name box_dimen_name aux_name page_int_name page_dimen_name last_item_name read_only_int_name font_char_name par_shape_item_name glue_part_name glue_conversion_name expression_name def_name let_name char_def_name read_name hyphen_data_name prefix_name arithmetic_name interaction_name group_edge_name after_name case_shift_name message_name show_name in_stream_name extension_name make_box_name horizontal_unbox_name vertical_unbox_name hmove_name vmove_name leaders_name horizontal_skip_name vertical_skip_name remove_item_name start_par_name discretionary_name mark_class_name insert_name end_cell_name math_style_name math_component_name limit_switch_name fraction_name left_right_name eq_no_name
rises-SORTED = refl

pub HasRisingNames-SORTED : HasRisingNames SORTED
HasRisingNames-SORTED = IsSortedByKey-rises name_of (get_or SORTED 0 prims.ControlSpace) (drop 1 SORTED) rises-SORTED
