-- Each primitive stands in the table of the look-up: at which place.
use Rattle.std.proofs.Common.{refl, lit<, Contains}
use Rattle.etx_prims.specs.declared.table.TheConstants.{SORTED}
use Rattle.etx_prims.specs.declared.command.Primitive.{Primitive}
use Rattle.etx_prims.specs.declared.command.Primitive.TheVariants as prims
use Rattle.etx_prims.specs.declared.parameters.IntParam.{IntParam}
use Rattle.etx_prims.specs.declared.parameters.IntParam.TheVariants as ints
use Rattle.etx_prims.specs.declared.parameters.DimenParam.{DimenParam}
use Rattle.etx_prims.specs.declared.parameters.DimenParam.TheVariants as dimens
use Rattle.etx_prims.specs.declared.parameters.GlueParam.{GlueParam}
use Rattle.etx_prims.specs.declared.parameters.GlueParam.TheVariants as glues
use Rattle.etx_prims.specs.declared.parameters.MuGlueParam.{MuGlueParam}
use Rattle.etx_prims.specs.declared.parameters.MuGlueParam.TheVariants as mu_glues
use Rattle.etx_prims.specs.declared.parameters.TokenParam.{TokenParam}
use Rattle.etx_prims.specs.declared.parameters.TokenParam.TheVariants as tokens
use Rattle.etx_prims.specs.declared.expansion.ExpandKind.{ExpandKind}
use Rattle.etx_prims.specs.declared.expansion.ExpandKind.TheVariants as expands
use Rattle.etx_prims.specs.declared.expansion.InputKind.{InputKind}
use Rattle.etx_prims.specs.declared.expansion.InputKind.TheVariants as inputs
use Rattle.etx_prims.specs.declared.expansion.IfKind.{IfKind}
use Rattle.etx_prims.specs.declared.expansion.IfKind.TheVariants as ifs
use Rattle.etx_prims.specs.declared.expansion.FiOrElseKind.{FiOrElseKind}
use Rattle.etx_prims.specs.declared.expansion.FiOrElseKind.TheVariants as fi_or_elses
use Rattle.etx_prims.specs.declared.expansion.ConvertKind.{ConvertKind}
use Rattle.etx_prims.specs.declared.expansion.ConvertKind.TheVariants as converts
use Rattle.etx_prims.specs.declared.expansion.TheKind.{TheKind}
use Rattle.etx_prims.specs.declared.expansion.TheKind.TheVariants as thes
use Rattle.etx_prims.specs.declared.expansion.MarkKind.{MarkKind}
use Rattle.etx_prims.specs.declared.expansion.MarkKind.TheVariants as marks
use Rattle.etx_prims.specs.declared.quantities.RegisterKind.{RegisterKind}
use Rattle.etx_prims.specs.declared.quantities.RegisterKind.TheVariants as registers
use Rattle.etx_prims.specs.declared.quantities.CodeKind.{CodeKind}
use Rattle.etx_prims.specs.declared.quantities.CodeKind.TheVariants as codes
use Rattle.etx_prims.specs.declared.quantities.FontIntKind.{FontIntKind}
use Rattle.etx_prims.specs.declared.quantities.FontIntKind.TheVariants as font_ints
use Rattle.etx_prims.specs.declared.quantities.FamilyFontKind.{FamilyFontKind}
use Rattle.etx_prims.specs.declared.quantities.FamilyFontKind.TheVariants as family_fonts
use Rattle.etx_prims.specs.declared.quantities.BoxDimenKind.{BoxDimenKind}
use Rattle.etx_prims.specs.declared.quantities.BoxDimenKind.TheVariants as box_dimens
use Rattle.etx_prims.specs.declared.quantities.AuxKind.{AuxKind}
use Rattle.etx_prims.specs.declared.quantities.AuxKind.TheVariants as auxs
use Rattle.etx_prims.specs.declared.quantities.PageIntKind.{PageIntKind}
use Rattle.etx_prims.specs.declared.quantities.PageIntKind.TheVariants as page_ints
use Rattle.etx_prims.specs.declared.quantities.PageDimenKind.{PageDimenKind}
use Rattle.etx_prims.specs.declared.quantities.PageDimenKind.TheVariants as page_dimens
use Rattle.etx_prims.specs.declared.quantities.LastItemKind.{LastItemKind}
use Rattle.etx_prims.specs.declared.quantities.LastItemKind.TheVariants as last_items
use Rattle.etx_prims.specs.declared.quantities.ReadOnlyIntKind.{ReadOnlyIntKind}
use Rattle.etx_prims.specs.declared.quantities.ReadOnlyIntKind.TheVariants as read_only_ints
use Rattle.etx_prims.specs.declared.quantities.FontCharKind.{FontCharKind}
use Rattle.etx_prims.specs.declared.quantities.FontCharKind.TheVariants as font_chars
use Rattle.etx_prims.specs.declared.quantities.ParShapeItemKind.{ParShapeItemKind}
use Rattle.etx_prims.specs.declared.quantities.ParShapeItemKind.TheVariants as par_shape_items
use Rattle.etx_prims.specs.declared.quantities.GluePartKind.{GluePartKind}
use Rattle.etx_prims.specs.declared.quantities.GluePartKind.TheVariants as glue_parts
use Rattle.etx_prims.specs.declared.quantities.GlueConversionKind.{GlueConversionKind}
use Rattle.etx_prims.specs.declared.quantities.GlueConversionKind.TheVariants as glue_conversions
use Rattle.etx_prims.specs.declared.quantities.ExpressionKind.{ExpressionKind}
use Rattle.etx_prims.specs.declared.quantities.ExpressionKind.TheVariants as expressions
use Rattle.etx_prims.specs.declared.assignments.DefKind.{DefKind}
use Rattle.etx_prims.specs.declared.assignments.DefKind.TheVariants as defs
use Rattle.etx_prims.specs.declared.assignments.LetKind.{LetKind}
use Rattle.etx_prims.specs.declared.assignments.LetKind.TheVariants as lets
use Rattle.etx_prims.specs.declared.assignments.CharDefKind.{CharDefKind}
use Rattle.etx_prims.specs.declared.assignments.CharDefKind.TheVariants as char_defs
use Rattle.etx_prims.specs.declared.assignments.ReadKind.{ReadKind}
use Rattle.etx_prims.specs.declared.assignments.ReadKind.TheVariants as reads
use Rattle.etx_prims.specs.declared.assignments.HyphenDataKind.{HyphenDataKind}
use Rattle.etx_prims.specs.declared.assignments.HyphenDataKind.TheVariants as hyphen_datas
use Rattle.etx_prims.specs.declared.assignments.PrefixKind.{PrefixKind}
use Rattle.etx_prims.specs.declared.assignments.PrefixKind.TheVariants as prefixs
use Rattle.etx_prims.specs.declared.assignments.ArithmeticKind.{ArithmeticKind}
use Rattle.etx_prims.specs.declared.assignments.ArithmeticKind.TheVariants as arithmetics
use Rattle.etx_prims.specs.declared.assignments.InteractionKind.{InteractionKind}
use Rattle.etx_prims.specs.declared.assignments.InteractionKind.TheVariants as interactions
use Rattle.etx_prims.specs.declared.general.GroupEdge.{GroupEdge}
use Rattle.etx_prims.specs.declared.general.GroupEdge.TheVariants as group_edges
use Rattle.etx_prims.specs.declared.general.AfterKind.{AfterKind}
use Rattle.etx_prims.specs.declared.general.AfterKind.TheVariants as afters
use Rattle.etx_prims.specs.declared.general.CaseShiftKind.{CaseShiftKind}
use Rattle.etx_prims.specs.declared.general.CaseShiftKind.TheVariants as case_shifts
use Rattle.etx_prims.specs.declared.general.MessageKind.{MessageKind}
use Rattle.etx_prims.specs.declared.general.MessageKind.TheVariants as messages
use Rattle.etx_prims.specs.declared.general.ShowKind.{ShowKind}
use Rattle.etx_prims.specs.declared.general.ShowKind.TheVariants as shows
use Rattle.etx_prims.specs.declared.general.InStreamKind.{InStreamKind}
use Rattle.etx_prims.specs.declared.general.InStreamKind.TheVariants as in_streams
use Rattle.etx_prims.specs.declared.general.ExtensionKind.{ExtensionKind}
use Rattle.etx_prims.specs.declared.general.ExtensionKind.TheVariants as extensions
use Rattle.etx_prims.specs.declared.material.MakeBoxKind.{MakeBoxKind}
use Rattle.etx_prims.specs.declared.material.MakeBoxKind.TheVariants as make_boxs
use Rattle.etx_prims.specs.declared.material.UnboxKind.{UnboxKind}
use Rattle.etx_prims.specs.declared.material.UnboxKind.TheVariants as unboxs
use Rattle.etx_prims.specs.declared.material.HMoveKind.{HMoveKind}
use Rattle.etx_prims.specs.declared.material.HMoveKind.TheVariants as hmoves
use Rattle.etx_prims.specs.declared.material.VMoveKind.{VMoveKind}
use Rattle.etx_prims.specs.declared.material.VMoveKind.TheVariants as vmoves
use Rattle.etx_prims.specs.declared.material.LeadersKind.{LeadersKind}
use Rattle.etx_prims.specs.declared.material.LeadersKind.TheVariants as leaderss
use Rattle.etx_prims.specs.declared.material.SkipKind.{SkipKind}
use Rattle.etx_prims.specs.declared.material.SkipKind.TheVariants as skips
use Rattle.etx_prims.specs.declared.material.RemoveItemKind.{RemoveItemKind}
use Rattle.etx_prims.specs.declared.material.RemoveItemKind.TheVariants as remove_items
use Rattle.etx_prims.specs.declared.material.StartParKind.{StartParKind}
use Rattle.etx_prims.specs.declared.material.StartParKind.TheVariants as start_pars
use Rattle.etx_prims.specs.declared.material.DiscretionaryKind.{DiscretionaryKind}
use Rattle.etx_prims.specs.declared.material.DiscretionaryKind.TheVariants as discretionarys
use Rattle.etx_prims.specs.declared.material.MarkClassKind.{MarkClassKind}
use Rattle.etx_prims.specs.declared.material.MarkClassKind.TheVariants as mark_classs
use Rattle.etx_prims.specs.declared.material.InsertKind.{InsertKind}
use Rattle.etx_prims.specs.declared.material.InsertKind.TheVariants as inserts
use Rattle.etx_prims.specs.declared.material.EndCellKind.{EndCellKind}
use Rattle.etx_prims.specs.declared.material.EndCellKind.TheVariants as end_cells
use Rattle.etx_prims.specs.declared.math.MathStyleKind.{MathStyleKind}
use Rattle.etx_prims.specs.declared.math.MathStyleKind.TheVariants as math_styles
use Rattle.etx_prims.specs.declared.math.MathComponentKind.{MathComponentKind}
use Rattle.etx_prims.specs.declared.math.MathComponentKind.TheVariants as math_components
use Rattle.etx_prims.specs.declared.math.LimitSwitchKind.{LimitSwitchKind}
use Rattle.etx_prims.specs.declared.math.LimitSwitchKind.TheVariants as limit_switchs
use Rattle.etx_prims.specs.declared.math.FractionKind.{FractionKind}
use Rattle.etx_prims.specs.declared.math.FractionKind.TheVariants as fractions
use Rattle.etx_prims.specs.declared.math.LeftRightKind.{LeftRightKind}
use Rattle.etx_prims.specs.declared.math.LeftRightKind.TheVariants as left_rights
use Rattle.etx_prims.specs.declared.math.EqNoKind.{EqNoKind}
use Rattle.etx_prims.specs.declared.math.EqNoKind.TheVariants as eq_nos

Contains-Expand : (kind : ExpandKind) → Contains SORTED (prims.Expand kind)
Contains-Expand expands.ExpandAfter = (91, lit< tt, refl)
Contains-Expand expands.NoExpand = (222, lit< tt, refl)
Contains-Expand expands.CsName = (38, lit< tt, refl)
Contains-Expand expands.Unless = (342, lit< tt, refl)

Contains-Input : (kind : InputKind) → Contains SORTED (prims.Input kind)
Contains-Input inputs.Input = (157, lit< tt, refl)
Contains-Input inputs.EndInput = (74, lit< tt, refl)
Contains-Input inputs.ScanTokens = (278, lit< tt, refl)

Contains-Conditional : (kind : IfKind) → Contains SORTED (prims.Conditional kind)
Contains-Conditional ifs.Char = (134, lit< tt, refl)
Contains-Conditional ifs.Cat = (136, lit< tt, refl)
Contains-Conditional ifs.Num = (147, lit< tt, refl)
Contains-Conditional ifs.Dim = (139, lit< tt, refl)
Contains-Conditional ifs.Odd = (148, lit< tt, refl)
Contains-Conditional ifs.VMode = (151, lit< tt, refl)
Contains-Conditional ifs.HMode = (144, lit< tt, refl)
Contains-Conditional ifs.MMode = (146, lit< tt, refl)
Contains-Conditional ifs.Inner = (145, lit< tt, refl)
Contains-Conditional ifs.Void = (152, lit< tt, refl)
Contains-Conditional ifs.HBox = (143, lit< tt, refl)
Contains-Conditional ifs.VBox = (150, lit< tt, refl)
Contains-Conditional ifs.X = (153, lit< tt, refl)
Contains-Conditional ifs.Eof = (140, lit< tt, refl)
Contains-Conditional ifs.True = (149, lit< tt, refl)
Contains-Conditional ifs.False = (141, lit< tt, refl)
Contains-Conditional ifs.Case = (135, lit< tt, refl)
Contains-Conditional ifs.Defined = (138, lit< tt, refl)
Contains-Conditional ifs.CsName = (137, lit< tt, refl)
Contains-Conditional ifs.FontChar = (142, lit< tt, refl)

Contains-FiOrElse : (kind : FiOrElseKind) → Contains SORTED (prims.FiOrElse kind)
Contains-FiOrElse fi_or_elses.Fi = (93, lit< tt, refl)
Contains-FiOrElse fi_or_elses.Else = (69, lit< tt, refl)
Contains-FiOrElse fi_or_elses.Or = (234, lit< tt, refl)

Contains-Convert : (kind : ConvertKind) → Contains SORTED (prims.Convert kind)
Contains-Convert converts.Number = (229, lit< tt, refl)
Contains-Convert converts.RomanNumeral = (277, lit< tt, refl)
Contains-Convert converts.String = (307, lit< tt, refl)
Contains-Convert converts.Meaning = (205, lit< tt, refl)
Contains-Convert converts.FontName = (104, lit< tt, refl)
Contains-Convert converts.ETeXRevision = (66, lit< tt, refl)
Contains-Convert converts.JobName = (163, lit< tt, refl)

Contains-The : (kind : TheKind) → Contains SORTED (prims.The kind)
Contains-The thes.The = (311, lit< tt, refl)
Contains-The thes.Unexpanded = (338, lit< tt, refl)
Contains-The thes.Detokenize = (53, lit< tt, refl)

Contains-TopBotMark : (kind : MarkKind) → Contains SORTED (prims.TopBotMark kind)
Contains-TopBotMark marks.Top = (318, lit< tt, refl)
Contains-TopBotMark marks.First = (95, lit< tt, refl)
Contains-TopBotMark marks.Bottom = (21, lit< tt, refl)
Contains-TopBotMark marks.SplitFirst = (303, lit< tt, refl)
Contains-TopBotMark marks.SplitBottom = (301, lit< tt, refl)

Contains-TopBotMarks : (kind : MarkKind) → Contains SORTED (prims.TopBotMarks kind)
Contains-TopBotMarks marks.Top = (319, lit< tt, refl)
Contains-TopBotMarks marks.First = (96, lit< tt, refl)
Contains-TopBotMarks marks.Bottom = (22, lit< tt, refl)
Contains-TopBotMarks marks.SplitFirst = (304, lit< tt, refl)
Contains-TopBotMarks marks.SplitBottom = (302, lit< tt, refl)

Contains-IntParam : (kind : IntParam) → Contains SORTED (prims.IntParam kind)
Contains-IntParam ints.Pretolerance = (264, lit< tt, refl)
Contains-IntParam ints.Tolerance = (317, lit< tt, refl)
Contains-IntParam ints.LinePenalty = (179, lit< tt, refl)
Contains-IntParam ints.HyphenPenalty = (133, lit< tt, refl)
Contains-IntParam ints.ExHyphenPenalty = (90, lit< tt, refl)
Contains-IntParam ints.ClubPenalty = (32, lit< tt, refl)
Contains-IntParam ints.WidowPenalty = (364, lit< tt, refl)
Contains-IntParam ints.DisplayWidowPenalty = (61, lit< tt, refl)
Contains-IntParam ints.BrokenPenalty = (25, lit< tt, refl)
Contains-IntParam ints.BinOpPenalty = (20, lit< tt, refl)
Contains-IntParam ints.RelPenalty = (273, lit< tt, refl)
Contains-IntParam ints.PreDisplayPenalty = (262, lit< tt, refl)
Contains-IntParam ints.PostDisplayPenalty = (261, lit< tt, refl)
Contains-IntParam ints.InterLinePenalty = (162, lit< tt, refl)
Contains-IntParam ints.DoubleHyphenDemerits = (64, lit< tt, refl)
Contains-IntParam ints.FinalHyphenDemerits = (94, lit< tt, refl)
Contains-IntParam ints.AdjDemerits = (8, lit< tt, refl)
Contains-IntParam ints.Mag = (186, lit< tt, refl)
Contains-IntParam ints.DelimiterFactor = (51, lit< tt, refl)
Contains-IntParam ints.Looseness = (183, lit< tt, refl)
Contains-IntParam ints.Time = (314, lit< tt, refl)
Contains-IntParam ints.Day = (44, lit< tt, refl)
Contains-IntParam ints.Month = (210, lit< tt, refl)
Contains-IntParam ints.Year = (369, lit< tt, refl)
Contains-IntParam ints.ShowBoxBreadth = (290, lit< tt, refl)
Contains-IntParam ints.ShowBoxDepth = (291, lit< tt, refl)
Contains-IntParam ints.HBadness = (118, lit< tt, refl)
Contains-IntParam ints.VBadness = (349, lit< tt, refl)
Contains-IntParam ints.Pausing = (259, lit< tt, refl)
Contains-IntParam ints.TracingOnline = (328, lit< tt, refl)
Contains-IntParam ints.TracingMacros = (326, lit< tt, refl)
Contains-IntParam ints.TracingStats = (334, lit< tt, refl)
Contains-IntParam ints.TracingParagraphs = (331, lit< tt, refl)
Contains-IntParam ints.TracingPages = (330, lit< tt, refl)
Contains-IntParam ints.TracingOutput = (329, lit< tt, refl)
Contains-IntParam ints.TracingLostChars = (325, lit< tt, refl)
Contains-IntParam ints.TracingCommands = (322, lit< tt, refl)
Contains-IntParam ints.TracingRestores = (332, lit< tt, refl)
Contains-IntParam ints.TracingAssigns = (321, lit< tt, refl)
Contains-IntParam ints.TracingGroups = (323, lit< tt, refl)
Contains-IntParam ints.TracingIfs = (324, lit< tt, refl)
Contains-IntParam ints.TracingScanTokens = (333, lit< tt, refl)
Contains-IntParam ints.TracingNesting = (327, lit< tt, refl)
Contains-IntParam ints.UcHyph = (336, lit< tt, refl)
Contains-IntParam ints.OutputPenalty = (237, lit< tt, refl)
Contains-IntParam ints.MaxDeadCycles = (203, lit< tt, refl)
Contains-IntParam ints.HangAfter = (116, lit< tt, refl)
Contains-IntParam ints.FloatingPenalty = (97, lit< tt, refl)
Contains-IntParam ints.GlobalDefs = (108, lit< tt, refl)
Contains-IntParam ints.Fam = (92, lit< tt, refl)
Contains-IntParam ints.EscapeChar = (81, lit< tt, refl)
Contains-IntParam ints.DefaultHyphenChar = (47, lit< tt, refl)
Contains-IntParam ints.DefaultSkewChar = (48, lit< tt, refl)
Contains-IntParam ints.EndLineChar = (75, lit< tt, refl)
Contains-IntParam ints.NewLineChar = (219, lit< tt, refl)
Contains-IntParam ints.Language = (165, lit< tt, refl)
Contains-IntParam ints.LeftHyphenMin = (174, lit< tt, refl)
Contains-IntParam ints.RightHyphenMin = (275, lit< tt, refl)
Contains-IntParam ints.HoldingInserts = (125, lit< tt, refl)
Contains-IntParam ints.ErrorContextLines = (79, lit< tt, refl)

Contains-DimenParam : (kind : DimenParam) → Contains SORTED (prims.DimenParam kind)
Contains-DimenParam dimens.ParIndent = (252, lit< tt, refl)
Contains-DimenParam dimens.MathSurround = (202, lit< tt, refl)
Contains-DimenParam dimens.LineSkipLimit = (181, lit< tt, refl)
Contains-DimenParam dimens.HSize = (127, lit< tt, refl)
Contains-DimenParam dimens.VSize = (358, lit< tt, refl)
Contains-DimenParam dimens.MaxDepth = (204, lit< tt, refl)
Contains-DimenParam dimens.SplitMaxDepth = (305, lit< tt, refl)
Contains-DimenParam dimens.BoxMaxDepth = (24, lit< tt, refl)
Contains-DimenParam dimens.HFuzz = (123, lit< tt, refl)
Contains-DimenParam dimens.VFuzz = (355, lit< tt, refl)
Contains-DimenParam dimens.DelimiterShortfall = (52, lit< tt, refl)
Contains-DimenParam dimens.NullDelimiterSpace = (227, lit< tt, refl)
Contains-DimenParam dimens.ScriptSpace = (282, lit< tt, refl)
Contains-DimenParam dimens.PreDisplaySize = (263, lit< tt, refl)
Contains-DimenParam dimens.DisplayWidth = (62, lit< tt, refl)
Contains-DimenParam dimens.DisplayIndent = (58, lit< tt, refl)
Contains-DimenParam dimens.OverfullRule = (239, lit< tt, refl)
Contains-DimenParam dimens.HangIndent = (117, lit< tt, refl)
Contains-DimenParam dimens.HOffset = (124, lit< tt, refl)
Contains-DimenParam dimens.VOffset = (356, lit< tt, refl)
Contains-DimenParam dimens.EmergencyStretch = (70, lit< tt, refl)

Contains-GlueParam : (kind : GlueParam) → Contains SORTED (prims.GlueParam kind)
Contains-GlueParam glues.LineSkip = (180, lit< tt, refl)
Contains-GlueParam glues.BaselineSkip = (15, lit< tt, refl)
Contains-GlueParam glues.ParSkip = (257, lit< tt, refl)
Contains-GlueParam glues.AboveDisplaySkip = (5, lit< tt, refl)
Contains-GlueParam glues.BelowDisplaySkip = (19, lit< tt, refl)
Contains-GlueParam glues.AboveDisplayShortSkip = (4, lit< tt, refl)
Contains-GlueParam glues.BelowDisplayShortSkip = (18, lit< tt, refl)
Contains-GlueParam glues.LeftSkip = (175, lit< tt, refl)
Contains-GlueParam glues.RightSkip = (276, lit< tt, refl)
Contains-GlueParam glues.TopSkip = (320, lit< tt, refl)
Contains-GlueParam glues.SplitTopSkip = (306, lit< tt, refl)
Contains-GlueParam glues.TabSkip = (308, lit< tt, refl)
Contains-GlueParam glues.SpaceSkip = (298, lit< tt, refl)
Contains-GlueParam glues.XSpaceSkip = (368, lit< tt, refl)
Contains-GlueParam glues.ParFillSkip = (251, lit< tt, refl)

Contains-MuGlueParam : (kind : MuGlueParam) → Contains SORTED (prims.MuGlueParam kind)
Contains-MuGlueParam mu_glues.ThinMuSkip = (313, lit< tt, refl)
Contains-MuGlueParam mu_glues.MedMuSkip = (206, lit< tt, refl)
Contains-MuGlueParam mu_glues.ThickMuSkip = (312, lit< tt, refl)

Contains-TokenParam : (kind : TokenParam) → Contains SORTED (prims.TokenParam kind)
Contains-TokenParam tokens.Output = (236, lit< tt, refl)
Contains-TokenParam tokens.EveryPar = (88, lit< tt, refl)
Contains-TokenParam tokens.EveryMath = (87, lit< tt, refl)
Contains-TokenParam tokens.EveryDisplay = (83, lit< tt, refl)
Contains-TokenParam tokens.EveryHBox = (85, lit< tt, refl)
Contains-TokenParam tokens.EveryVBox = (89, lit< tt, refl)
Contains-TokenParam tokens.EveryJob = (86, lit< tt, refl)
Contains-TokenParam tokens.EveryCr = (82, lit< tt, refl)
Contains-TokenParam tokens.ErrHelp = (77, lit< tt, refl)
Contains-TokenParam tokens.EveryEof = (84, lit< tt, refl)

Contains-Register : (kind : RegisterKind) → Contains SORTED (prims.Register kind)
Contains-Register registers.Count = (34, lit< tt, refl)
Contains-Register registers.Dimen = (54, lit< tt, refl)
Contains-Register registers.Skip = (295, lit< tt, refl)
Contains-Register registers.MuSkip = (216, lit< tt, refl)
Contains-Register registers.Toks = (315, lit< tt, refl)

Contains-Code : (kind : CodeKind) → Contains SORTED (prims.Code kind)
Contains-Code codes.Cat = (26, lit< tt, refl)
Contains-Code codes.Math = (195, lit< tt, refl)
Contains-Code codes.Lc = (171, lit< tt, refl)
Contains-Code codes.Uc = (335, lit< tt, refl)
Contains-Code codes.Sf = (287, lit< tt, refl)
Contains-Code codes.Del = (49, lit< tt, refl)

Contains-FontInt : (kind : FontIntKind) → Contains SORTED (prims.FontInt kind)
Contains-FontInt font_ints.HyphenChar = (132, lit< tt, refl)
Contains-FontInt font_ints.SkewChar = (294, lit< tt, refl)

Contains-FamilyFont : (kind : FamilyFontKind) → Contains SORTED (prims.FamilyFont kind)
Contains-FamilyFont family_fonts.Text = (309, lit< tt, refl)
Contains-FamilyFont family_fonts.Script = (279, lit< tt, refl)
Contains-FamilyFont family_fonts.ScriptScript = (280, lit< tt, refl)

Contains-BoxDimen : (kind : BoxDimenKind) → Contains SORTED (prims.BoxDimen kind)
Contains-BoxDimen box_dimens.Width = (363, lit< tt, refl)
Contains-BoxDimen box_dimens.Height = (130, lit< tt, refl)
Contains-BoxDimen box_dimens.Depth = (65, lit< tt, refl)

Contains-Aux : (kind : AuxKind) → Contains SORTED (prims.Aux kind)
Contains-Aux auxs.PrevDepth = (265, lit< tt, refl)
Contains-Aux auxs.SpaceFactor = (297, lit< tt, refl)

Contains-PageInt : (kind : PageIntKind) → Contains SORTED (prims.PageInt kind)
Contains-PageInt page_ints.DeadCycles = (45, lit< tt, refl)
Contains-PageInt page_ints.InsertPenalties = (160, lit< tt, refl)

Contains-PageDimen : (kind : PageDimenKind) → Contains SORTED (prims.PageDimen kind)
Contains-PageDimen page_dimens.Goal = (246, lit< tt, refl)
Contains-PageDimen page_dimens.Total = (249, lit< tt, refl)
Contains-PageDimen page_dimens.Stretch = (248, lit< tt, refl)
Contains-PageDimen page_dimens.FilStretch = (245, lit< tt, refl)
Contains-PageDimen page_dimens.FillStretch = (244, lit< tt, refl)
Contains-PageDimen page_dimens.FilllStretch = (243, lit< tt, refl)
Contains-PageDimen page_dimens.Shrink = (247, lit< tt, refl)
Contains-PageDimen page_dimens.Depth = (242, lit< tt, refl)

Contains-LastItem : (kind : LastItemKind) → Contains SORTED (prims.LastItem kind)
Contains-LastItem last_items.Penalty = (169, lit< tt, refl)
Contains-LastItem last_items.Kern = (167, lit< tt, refl)
Contains-LastItem last_items.Skip = (170, lit< tt, refl)
Contains-LastItem last_items.NodeType = (168, lit< tt, refl)

Contains-ReadOnlyInt : (kind : ReadOnlyIntKind) → Contains SORTED (prims.ReadOnlyInt kind)
Contains-ReadOnlyInt read_only_ints.InputLineNo = (158, lit< tt, refl)
Contains-ReadOnlyInt read_only_ints.Badness = (14, lit< tt, refl)
Contains-ReadOnlyInt read_only_ints.ETeXVersion = (67, lit< tt, refl)
Contains-ReadOnlyInt read_only_ints.CurrentGroupLevel = (39, lit< tt, refl)
Contains-ReadOnlyInt read_only_ints.CurrentGroupType = (40, lit< tt, refl)
Contains-ReadOnlyInt read_only_ints.CurrentIfLevel = (42, lit< tt, refl)
Contains-ReadOnlyInt read_only_ints.CurrentIfType = (43, lit< tt, refl)
Contains-ReadOnlyInt read_only_ints.CurrentIfBranch = (41, lit< tt, refl)

Contains-FontChar : (kind : FontCharKind) → Contains SORTED (prims.FontChar kind)
Contains-FontChar font_chars.Width = (102, lit< tt, refl)
Contains-FontChar font_chars.Height = (100, lit< tt, refl)
Contains-FontChar font_chars.Depth = (99, lit< tt, refl)
Contains-FontChar font_chars.Italic = (101, lit< tt, refl)

Contains-ParShapeItem : (kind : ParShapeItemKind) → Contains SORTED (prims.ParShapeItem kind)
Contains-ParShapeItem par_shape_items.Length = (256, lit< tt, refl)
Contains-ParShapeItem par_shape_items.Indent = (255, lit< tt, refl)
Contains-ParShapeItem par_shape_items.Dimen = (254, lit< tt, refl)

Contains-GluePart : (kind : GluePartKind) → Contains SORTED (prims.GluePart kind)
Contains-GluePart glue_parts.Stretch = (112, lit< tt, refl)
Contains-GluePart glue_parts.Shrink = (110, lit< tt, refl)
Contains-GluePart glue_parts.StretchOrder = (113, lit< tt, refl)
Contains-GluePart glue_parts.ShrinkOrder = (111, lit< tt, refl)

Contains-GlueConversion : (kind : GlueConversionKind) → Contains SORTED (prims.GlueConversion kind)
Contains-GlueConversion glue_conversions.ToMu = (114, lit< tt, refl)
Contains-GlueConversion glue_conversions.FromMu = (218, lit< tt, refl)

Contains-Expression : (kind : ExpressionKind) → Contains SORTED (prims.Expression kind)
Contains-Expression expressions.Num = (230, lit< tt, refl)
Contains-Expression expressions.Dimen = (56, lit< tt, refl)
Contains-Expression expressions.Glue = (109, lit< tt, refl)
Contains-Expression expressions.Mu = (214, lit< tt, refl)

Contains-Def : (kind : DefKind) → Contains SORTED (prims.Def kind)
Contains-Def defs.Def = (46, lit< tt, refl)
Contains-Def defs.GDef = (106, lit< tt, refl)
Contains-Def defs.EDef = (68, lit< tt, refl)
Contains-Def defs.XDef = (366, lit< tt, refl)

Contains-Let : (kind : LetKind) → Contains SORTED (prims.Let kind)
Contains-Let lets.Let = (177, lit< tt, refl)
Contains-Let lets.FutureLet = (105, lit< tt, refl)

Contains-CharDef : (kind : CharDefKind) → Contains SORTED (prims.CharDef kind)
Contains-CharDef char_defs.Char = (28, lit< tt, refl)
Contains-CharDef char_defs.MathChar = (192, lit< tt, refl)

Contains-RegisterDef : (kind : RegisterKind) → Contains SORTED (prims.RegisterDef kind)
Contains-RegisterDef registers.Count = (35, lit< tt, refl)
Contains-RegisterDef registers.Dimen = (55, lit< tt, refl)
Contains-RegisterDef registers.Skip = (296, lit< tt, refl)
Contains-RegisterDef registers.MuSkip = (217, lit< tt, refl)
Contains-RegisterDef registers.Toks = (316, lit< tt, refl)

Contains-Read : (kind : ReadKind) → Contains SORTED (prims.Read kind)
Contains-Read reads.Read = (270, lit< tt, refl)
Contains-Read reads.ReadLine = (271, lit< tt, refl)

Contains-HyphenData : (kind : HyphenDataKind) → Contains SORTED (prims.HyphenData kind)
Contains-HyphenData hyphen_datas.Hyphenation = (131, lit< tt, refl)
Contains-HyphenData hyphen_datas.Patterns = (258, lit< tt, refl)

Contains-Prefix : (kind : PrefixKind) → Contains SORTED (prims.Prefix kind)
Contains-Prefix prefixs.Long = (182, lit< tt, refl)
Contains-Prefix prefixs.Outer = (235, lit< tt, refl)
Contains-Prefix prefixs.Global = (107, lit< tt, refl)
Contains-Prefix prefixs.Protected = (267, lit< tt, refl)

Contains-Arithmetic : (kind : ArithmeticKind) → Contains SORTED (prims.Arithmetic kind)
Contains-Arithmetic arithmetics.Advance = (9, lit< tt, refl)
Contains-Arithmetic arithmetics.Multiply = (215, lit< tt, refl)
Contains-Arithmetic arithmetics.Divide = (63, lit< tt, refl)

Contains-Interaction : (kind : InteractionKind) → Contains SORTED (prims.Interaction kind)
Contains-Interaction interactions.Batch = (16, lit< tt, refl)
Contains-Interaction interactions.NonStop = (226, lit< tt, refl)
Contains-Interaction interactions.Scroll = (284, lit< tt, refl)
Contains-Interaction interactions.ErrorStop = (80, lit< tt, refl)

Contains-SemiSimpleGroup : (kind : GroupEdge) → Contains SORTED (prims.SemiSimpleGroup kind)
Contains-SemiSimpleGroup group_edges.Begin = (17, lit< tt, refl)
Contains-SemiSimpleGroup group_edges.End = (73, lit< tt, refl)

Contains-After : (kind : AfterKind) → Contains SORTED (prims.After kind)
Contains-After afters.Group = (11, lit< tt, refl)
Contains-After afters.Assignment = (10, lit< tt, refl)

Contains-CaseShift : (kind : CaseShiftKind) → Contains SORTED (prims.CaseShift kind)
Contains-CaseShift case_shifts.Upper = (347, lit< tt, refl)
Contains-CaseShift case_shifts.Lower = (185, lit< tt, refl)

Contains-Message : (kind : MessageKind) → Contains SORTED (prims.Message kind)
Contains-Message messages.Message = (207, lit< tt, refl)
Contains-Message messages.Error = (78, lit< tt, refl)

Contains-Show : (kind : ShowKind) → Contains SORTED (prims.Show kind)
Contains-Show shows.Token = (289, lit< tt, refl)
Contains-Show shows.The = (292, lit< tt, refl)
Contains-Show shows.Tokens = (293, lit< tt, refl)

Contains-InStream : (kind : InStreamKind) → Contains SORTED (prims.InStream kind)
Contains-InStream in_streams.Open = (232, lit< tt, refl)
Contains-InStream in_streams.Close = (30, lit< tt, refl)

Contains-Extension : (kind : ExtensionKind) → Contains SORTED (prims.Extension kind)
Contains-Extension extensions.OpenOut = (233, lit< tt, refl)
Contains-Extension extensions.Write = (365, lit< tt, refl)
Contains-Extension extensions.CloseOut = (31, lit< tt, refl)
Contains-Extension extensions.Special = (300, lit< tt, refl)
Contains-Extension extensions.Immediate = (155, lit< tt, refl)
Contains-Extension extensions.SetLanguage = (286, lit< tt, refl)

Contains-MakeBox : (kind : MakeBoxKind) → Contains SORTED (prims.MakeBox kind)
Contains-MakeBox make_boxs.Box = (23, lit< tt, refl)
Contains-MakeBox make_boxs.Copy = (33, lit< tt, refl)
Contains-MakeBox make_boxs.LastBox = (166, lit< tt, refl)
Contains-MakeBox make_boxs.VSplit = (360, lit< tt, refl)
Contains-MakeBox make_boxs.HBox = (119, lit< tt, refl)
Contains-MakeBox make_boxs.VBox = (350, lit< tt, refl)
Contains-MakeBox make_boxs.VTop = (362, lit< tt, refl)

Contains-UnHBox : (kind : UnboxKind) → Contains SORTED (prims.UnHBox kind)
Contains-UnHBox unboxs.Box = (339, lit< tt, refl)
Contains-UnHBox unboxs.Copy = (340, lit< tt, refl)

Contains-UnVBox : (kind : UnboxKind) → Contains SORTED (prims.UnVBox kind)
Contains-UnVBox unboxs.Box = (345, lit< tt, refl)
Contains-UnVBox unboxs.Copy = (346, lit< tt, refl)

Contains-HMove : (kind : HMoveKind) → Contains SORTED (prims.HMove kind)
Contains-HMove hmoves.Left = (211, lit< tt, refl)
Contains-HMove hmoves.Right = (212, lit< tt, refl)

Contains-VMove : (kind : VMoveKind) → Contains SORTED (prims.VMove kind)
Contains-VMove vmoves.Raise = (269, lit< tt, refl)
Contains-VMove vmoves.Lower = (184, lit< tt, refl)

Contains-Leaders : (kind : LeadersKind) → Contains SORTED (prims.Leaders kind)
Contains-Leaders leaderss.Aligned = (172, lit< tt, refl)
Contains-Leaders leaderss.Centered = (29, lit< tt, refl)
Contains-Leaders leaderss.Expanded = (367, lit< tt, refl)

Contains-HSkip : (kind : SkipKind) → Contains SORTED (prims.HSkip kind)
Contains-HSkip skips.Skip = (128, lit< tt, refl)
Contains-HSkip skips.Fil = (120, lit< tt, refl)
Contains-HSkip skips.Fill = (121, lit< tt, refl)
Contains-HSkip skips.Ss = (129, lit< tt, refl)
Contains-HSkip skips.FilNeg = (122, lit< tt, refl)

Contains-VSkip : (kind : SkipKind) → Contains SORTED (prims.VSkip kind)
Contains-VSkip skips.Skip = (359, lit< tt, refl)
Contains-VSkip skips.Fil = (352, lit< tt, refl)
Contains-VSkip skips.Fill = (353, lit< tt, refl)
Contains-VSkip skips.Ss = (361, lit< tt, refl)
Contains-VSkip skips.FilNeg = (354, lit< tt, refl)

Contains-RemoveItem : (kind : RemoveItemKind) → Contains SORTED (prims.RemoveItem kind)
Contains-RemoveItem remove_items.Skip = (344, lit< tt, refl)
Contains-RemoveItem remove_items.Kern = (341, lit< tt, refl)
Contains-RemoveItem remove_items.Penalty = (343, lit< tt, refl)

Contains-StartPar : (kind : StartParKind) → Contains SORTED (prims.StartPar kind)
Contains-StartPar start_pars.Indent = (156, lit< tt, refl)
Contains-StartPar start_pars.NoIndent = (223, lit< tt, refl)

Contains-Discretionary : (kind : DiscretionaryKind) → Contains SORTED (prims.Discretionary kind)
Contains-Discretionary discretionarys.Texts = (57, lit< tt, refl)
Contains-Discretionary discretionarys.Hyphen = (1, lit< tt, refl)

Contains-Mark : (kind : MarkClassKind) → Contains SORTED (prims.Mark kind)
Contains-Mark mark_classs.Zero = (187, lit< tt, refl)
Contains-Mark mark_classs.Named = (188, lit< tt, refl)

Contains-Insert : (kind : InsertKind) → Contains SORTED (prims.Insert kind)
Contains-Insert inserts.Insert = (159, lit< tt, refl)
Contains-Insert inserts.VAdjust = (348, lit< tt, refl)

Contains-EndCell : (kind : EndCellKind) → Contains SORTED (prims.EndCell kind)
Contains-EndCell end_cells.Span = (299, lit< tt, refl)
Contains-EndCell end_cells.Cr = (36, lit< tt, refl)
Contains-EndCell end_cells.CrCr = (37, lit< tt, refl)

Contains-MathStyle : (kind : MathStyleKind) → Contains SORTED (prims.MathStyle kind)
Contains-MathStyle math_styles.Display = (60, lit< tt, refl)
Contains-MathStyle math_styles.Text = (310, lit< tt, refl)
Contains-MathStyle math_styles.Script = (283, lit< tt, refl)
Contains-MathStyle math_styles.ScriptScript = (281, lit< tt, refl)

Contains-MathComponent : (kind : MathComponentKind) → Contains SORTED (prims.MathComponent kind)
Contains-MathComponent math_components.Ord = (199, lit< tt, refl)
Contains-MathComponent math_components.Op = (197, lit< tt, refl)
Contains-MathComponent math_components.Bin = (190, lit< tt, refl)
Contains-MathComponent math_components.Rel = (201, lit< tt, refl)
Contains-MathComponent math_components.Open = (198, lit< tt, refl)
Contains-MathComponent math_components.Close = (194, lit< tt, refl)
Contains-MathComponent math_components.Punct = (200, lit< tt, refl)
Contains-MathComponent math_components.Inner = (196, lit< tt, refl)
Contains-MathComponent math_components.Underline = (337, lit< tt, refl)
Contains-MathComponent math_components.Overline = (240, lit< tt, refl)

Contains-LimitSwitch : (kind : LimitSwitchKind) → Contains SORTED (prims.LimitSwitch kind)
Contains-LimitSwitch limit_switchs.Limits = (178, lit< tt, refl)
Contains-LimitSwitch limit_switchs.NoLimits = (224, lit< tt, refl)
Contains-LimitSwitch limit_switchs.DisplayLimits = (59, lit< tt, refl)

Contains-Fraction : (kind : FractionKind) → Contains SORTED (prims.Fraction kind)
Contains-Fraction fractions.Above = (3, lit< tt, refl)
Contains-Fraction fractions.Over = (238, lit< tt, refl)
Contains-Fraction fractions.Atop = (12, lit< tt, refl)
Contains-Fraction fractions.AboveWithDelims = (6, lit< tt, refl)
Contains-Fraction fractions.OverWithDelims = (241, lit< tt, refl)
Contains-Fraction fractions.AtopWithDelims = (13, lit< tt, refl)

Contains-LeftRight : (kind : LeftRightKind) → Contains SORTED (prims.LeftRight kind)
Contains-LeftRight left_rights.Left = (173, lit< tt, refl)
Contains-LeftRight left_rights.Middle = (208, lit< tt, refl)
Contains-LeftRight left_rights.Right = (274, lit< tt, refl)

Contains-EqNo : (kind : EqNoKind) → Contains SORTED (prims.EqNo kind)
Contains-EqNo eq_nos.Right = (76, lit< tt, refl)
Contains-EqNo eq_nos.Left = (176, lit< tt, refl)

pub Contains-SORTED : (primitive : Primitive) → Contains SORTED primitive
Contains-SORTED (prims.Expand kind) = Contains-Expand kind
Contains-SORTED (prims.Input kind) = Contains-Input kind
Contains-SORTED (prims.Conditional kind) = Contains-Conditional kind
Contains-SORTED (prims.FiOrElse kind) = Contains-FiOrElse kind
Contains-SORTED (prims.Convert kind) = Contains-Convert kind
Contains-SORTED (prims.The kind) = Contains-The kind
Contains-SORTED (prims.TopBotMark kind) = Contains-TopBotMark kind
Contains-SORTED (prims.TopBotMarks kind) = Contains-TopBotMarks kind
Contains-SORTED (prims.IntParam kind) = Contains-IntParam kind
Contains-SORTED (prims.DimenParam kind) = Contains-DimenParam kind
Contains-SORTED (prims.GlueParam kind) = Contains-GlueParam kind
Contains-SORTED (prims.MuGlueParam kind) = Contains-MuGlueParam kind
Contains-SORTED (prims.TokenParam kind) = Contains-TokenParam kind
Contains-SORTED (prims.Register kind) = Contains-Register kind
Contains-SORTED (prims.Code kind) = Contains-Code kind
Contains-SORTED prims.FontDimen = (103, lit< tt, refl)
Contains-SORTED (prims.FontInt kind) = Contains-FontInt kind
Contains-SORTED (prims.FamilyFont kind) = Contains-FamilyFont kind
Contains-SORTED prims.Font = (98, lit< tt, refl)
Contains-SORTED prims.NullFont = (228, lit< tt, refl)
Contains-SORTED prims.ParShape = (253, lit< tt, refl)
Contains-SORTED (prims.BoxDimen kind) = Contains-BoxDimen kind
Contains-SORTED (prims.Aux kind) = Contains-Aux kind
Contains-SORTED prims.PrevGraf = (266, lit< tt, refl)
Contains-SORTED (prims.PageInt kind) = Contains-PageInt kind
Contains-SORTED (prims.PageDimen kind) = Contains-PageDimen kind
Contains-SORTED prims.InteractionMode = (161, lit< tt, refl)
Contains-SORTED (prims.LastItem kind) = Contains-LastItem kind
Contains-SORTED (prims.ReadOnlyInt kind) = Contains-ReadOnlyInt kind
Contains-SORTED (prims.FontChar kind) = Contains-FontChar kind
Contains-SORTED (prims.ParShapeItem kind) = Contains-ParShapeItem kind
Contains-SORTED (prims.GluePart kind) = Contains-GluePart kind
Contains-SORTED (prims.GlueConversion kind) = Contains-GlueConversion kind
Contains-SORTED (prims.Expression kind) = Contains-Expression kind
Contains-SORTED (prims.Def kind) = Contains-Def kind
Contains-SORTED (prims.Let kind) = Contains-Let kind
Contains-SORTED (prims.CharDef kind) = Contains-CharDef kind
Contains-SORTED (prims.RegisterDef kind) = Contains-RegisterDef kind
Contains-SORTED (prims.Read kind) = Contains-Read kind
Contains-SORTED prims.SetBox = (285, lit< tt, refl)
Contains-SORTED (prims.HyphenData kind) = Contains-HyphenData kind
Contains-SORTED (prims.Prefix kind) = Contains-Prefix kind
Contains-SORTED (prims.Arithmetic kind) = Contains-Arithmetic kind
Contains-SORTED (prims.Interaction kind) = Contains-Interaction kind
Contains-SORTED prims.Relax = (272, lit< tt, refl)
Contains-SORTED prims.Par = (250, lit< tt, refl)
Contains-SORTED prims.End = (71, lit< tt, refl)
Contains-SORTED prims.EndCsName = (72, lit< tt, refl)
Contains-SORTED (prims.SemiSimpleGroup kind) = Contains-SemiSimpleGroup kind
Contains-SORTED (prims.After kind) = Contains-After kind
Contains-SORTED prims.IgnoreSpaces = (154, lit< tt, refl)
Contains-SORTED (prims.CaseShift kind) = Contains-CaseShift kind
Contains-SORTED (prims.Message kind) = Contains-Message kind
Contains-SORTED (prims.Show kind) = Contains-Show kind
Contains-SORTED (prims.InStream kind) = Contains-InStream kind
Contains-SORTED (prims.Extension kind) = Contains-Extension kind
Contains-SORTED (prims.MakeBox kind) = Contains-MakeBox kind
Contains-SORTED (prims.UnHBox kind) = Contains-UnHBox kind
Contains-SORTED (prims.UnVBox kind) = Contains-UnVBox kind
Contains-SORTED (prims.HMove kind) = Contains-HMove kind
Contains-SORTED (prims.VMove kind) = Contains-VMove kind
Contains-SORTED prims.ShipOut = (288, lit< tt, refl)
Contains-SORTED (prims.Leaders kind) = Contains-Leaders kind
Contains-SORTED prims.HRule = (126, lit< tt, refl)
Contains-SORTED prims.VRule = (357, lit< tt, refl)
Contains-SORTED (prims.HSkip kind) = Contains-HSkip kind
Contains-SORTED (prims.VSkip kind) = Contains-VSkip kind
Contains-SORTED prims.MSkip = (213, lit< tt, refl)
Contains-SORTED prims.Kern = (164, lit< tt, refl)
Contains-SORTED prims.MKern = (209, lit< tt, refl)
Contains-SORTED prims.Penalty = (260, lit< tt, refl)
Contains-SORTED (prims.RemoveItem kind) = Contains-RemoveItem kind
Contains-SORTED (prims.StartPar kind) = Contains-StartPar kind
Contains-SORTED prims.Char = (27, lit< tt, refl)
Contains-SORTED prims.Accent = (7, lit< tt, refl)
Contains-SORTED (prims.Discretionary kind) = Contains-Discretionary kind
Contains-SORTED prims.ItalicCorrection = (2, lit< tt, refl)
Contains-SORTED (prims.Mark kind) = Contains-Mark kind
Contains-SORTED (prims.Insert kind) = Contains-Insert kind
Contains-SORTED prims.NoBoundary = (221, lit< tt, refl)
Contains-SORTED prims.ControlSpace = (0, lit< tt, refl)
Contains-SORTED prims.HAlign = (115, lit< tt, refl)
Contains-SORTED prims.NoAlign = (220, lit< tt, refl)
Contains-SORTED prims.Omit = (231, lit< tt, refl)
Contains-SORTED (prims.EndCell kind) = Contains-EndCell kind
Contains-SORTED prims.MathChar = (191, lit< tt, refl)
Contains-SORTED prims.Delimiter = (50, lit< tt, refl)
Contains-SORTED prims.Radical = (268, lit< tt, refl)
Contains-SORTED prims.MathAccent = (189, lit< tt, refl)
Contains-SORTED prims.MathChoice = (193, lit< tt, refl)
Contains-SORTED (prims.MathStyle kind) = Contains-MathStyle kind
Contains-SORTED (prims.MathComponent kind) = Contains-MathComponent kind
Contains-SORTED (prims.LimitSwitch kind) = Contains-LimitSwitch kind
Contains-SORTED prims.VCenter = (351, lit< tt, refl)
Contains-SORTED (prims.Fraction kind) = Contains-Fraction kind
Contains-SORTED (prims.LeftRight kind) = Contains-LeftRight kind
Contains-SORTED (prims.EqNo kind) = Contains-EqNo kind
Contains-SORTED prims.NonScript = (225, lit< tt, refl)
