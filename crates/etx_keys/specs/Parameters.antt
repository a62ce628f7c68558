-- The parameters by number: each kind is counted from 0, in the order of the lists below.
use Rattle.std.specs.Prelude.{ℕ, List, [], ◌∷◌, Option, slice_get}
use Rattle.etx_prims.specs.declared.parameters.IntParam.{IntParam}
use Rattle.etx_prims.specs.declared.parameters.IntParam.TheVariants as ints
use Rattle.etx_prims.specs.declared.parameters.DimenParam.{DimenParam}
use Rattle.etx_prims.specs.declared.parameters.DimenParam.TheVariants as dimens
use Rattle.etx_prims.specs.declared.parameters.GlueParam.{GlueParam}
use Rattle.etx_prims.specs.declared.parameters.GlueParam.TheVariants as glues
use Rattle.etx_prims.specs.declared.parameters.MuGlueParam.{MuGlueParam}
use Rattle.etx_prims.specs.declared.parameters.MuGlueParam.TheVariants as mu_glues
use Rattle.etx_prims.specs.declared.parameters.TokenParam.{TokenParam}
use Rattle.etx_prims.specs.declared.parameters.TokenParam.TheVariants as tokens

unfoldable pub all_ints : List IntParam
all_ints =
    ints.Pretolerance ∷ ints.Tolerance ∷ ints.LinePenalty ∷ ints.HyphenPenalty ∷ ints.ExHyphenPenalty ∷
    ints.ClubPenalty ∷ ints.WidowPenalty ∷ ints.DisplayWidowPenalty ∷ ints.BrokenPenalty ∷ ints.BinOpPenalty ∷
    ints.RelPenalty ∷ ints.PreDisplayPenalty ∷ ints.PostDisplayPenalty ∷ ints.InterLinePenalty ∷
    ints.DoubleHyphenDemerits ∷ ints.FinalHyphenDemerits ∷ ints.AdjDemerits ∷ ints.Mag ∷ ints.DelimiterFactor ∷
    ints.Looseness ∷ ints.Time ∷ ints.Day ∷ ints.Month ∷ ints.Year ∷ ints.ShowBoxBreadth ∷ ints.ShowBoxDepth ∷
    ints.HBadness ∷ ints.VBadness ∷ ints.Pausing ∷ ints.TracingOnline ∷ ints.TracingMacros ∷ ints.TracingStats ∷
    ints.TracingParagraphs ∷ ints.TracingPages ∷ ints.TracingOutput ∷ ints.TracingLostChars ∷
    ints.TracingCommands ∷ ints.TracingRestores ∷ ints.TracingAssigns ∷ ints.TracingGroups ∷ ints.TracingIfs ∷
    ints.TracingScanTokens ∷ ints.TracingNesting ∷ ints.UcHyph ∷ ints.OutputPenalty ∷ ints.MaxDeadCycles ∷
    ints.HangAfter ∷ ints.FloatingPenalty ∷ ints.GlobalDefs ∷ ints.Fam ∷ ints.EscapeChar ∷ ints.DefaultHyphenChar ∷
    ints.DefaultSkewChar ∷ ints.EndLineChar ∷ ints.NewLineChar ∷ ints.Language ∷ ints.LeftHyphenMin ∷
    ints.RightHyphenMin ∷ ints.HoldingInserts ∷ ints.ErrorContextLines ∷ []

unfoldable pub int_number : IntParam → ℕ
int_number ints.Pretolerance = 0
int_number ints.Tolerance = 1
int_number ints.LinePenalty = 2
int_number ints.HyphenPenalty = 3
int_number ints.ExHyphenPenalty = 4
int_number ints.ClubPenalty = 5
int_number ints.WidowPenalty = 6
int_number ints.DisplayWidowPenalty = 7
int_number ints.BrokenPenalty = 8
int_number ints.BinOpPenalty = 9
int_number ints.RelPenalty = 10
int_number ints.PreDisplayPenalty = 11
int_number ints.PostDisplayPenalty = 12
int_number ints.InterLinePenalty = 13
int_number ints.DoubleHyphenDemerits = 14
int_number ints.FinalHyphenDemerits = 15
int_number ints.AdjDemerits = 16
int_number ints.Mag = 17
int_number ints.DelimiterFactor = 18
int_number ints.Looseness = 19
int_number ints.Time = 20
int_number ints.Day = 21
int_number ints.Month = 22
int_number ints.Year = 23
int_number ints.ShowBoxBreadth = 24
int_number ints.ShowBoxDepth = 25
int_number ints.HBadness = 26
int_number ints.VBadness = 27
int_number ints.Pausing = 28
int_number ints.TracingOnline = 29
int_number ints.TracingMacros = 30
int_number ints.TracingStats = 31
int_number ints.TracingParagraphs = 32
int_number ints.TracingPages = 33
int_number ints.TracingOutput = 34
int_number ints.TracingLostChars = 35
int_number ints.TracingCommands = 36
int_number ints.TracingRestores = 37
int_number ints.TracingAssigns = 38
int_number ints.TracingGroups = 39
int_number ints.TracingIfs = 40
int_number ints.TracingScanTokens = 41
int_number ints.TracingNesting = 42
int_number ints.UcHyph = 43
int_number ints.OutputPenalty = 44
int_number ints.MaxDeadCycles = 45
int_number ints.HangAfter = 46
int_number ints.FloatingPenalty = 47
int_number ints.GlobalDefs = 48
int_number ints.Fam = 49
int_number ints.EscapeChar = 50
int_number ints.DefaultHyphenChar = 51
int_number ints.DefaultSkewChar = 52
int_number ints.EndLineChar = 53
int_number ints.NewLineChar = 54
int_number ints.Language = 55
int_number ints.LeftHyphenMin = 56
int_number ints.RightHyphenMin = 57
int_number ints.HoldingInserts = 58
int_number ints.ErrorContextLines = 59

unfoldable pub int_at : ℕ → Option IntParam
int_at number = slice_get all_ints number

unfoldable pub all_dimens : List DimenParam
all_dimens =
    dimens.ParIndent ∷ dimens.MathSurround ∷ dimens.LineSkipLimit ∷ dimens.HSize ∷ dimens.VSize ∷ dimens.MaxDepth ∷
    dimens.SplitMaxDepth ∷ dimens.BoxMaxDepth ∷ dimens.HFuzz ∷ dimens.VFuzz ∷ dimens.DelimiterShortfall ∷
    dimens.NullDelimiterSpace ∷ dimens.ScriptSpace ∷ dimens.PreDisplaySize ∷ dimens.DisplayWidth ∷
    dimens.DisplayIndent ∷ dimens.OverfullRule ∷ dimens.HangIndent ∷ dimens.HOffset ∷ dimens.VOffset ∷
    dimens.EmergencyStretch ∷ []

unfoldable pub dimen_number : DimenParam → ℕ
dimen_number dimens.ParIndent = 0
dimen_number dimens.MathSurround = 1
dimen_number dimens.LineSkipLimit = 2
dimen_number dimens.HSize = 3
dimen_number dimens.VSize = 4
dimen_number dimens.MaxDepth = 5
dimen_number dimens.SplitMaxDepth = 6
dimen_number dimens.BoxMaxDepth = 7
dimen_number dimens.HFuzz = 8
dimen_number dimens.VFuzz = 9
dimen_number dimens.DelimiterShortfall = 10
dimen_number dimens.NullDelimiterSpace = 11
dimen_number dimens.ScriptSpace = 12
dimen_number dimens.PreDisplaySize = 13
dimen_number dimens.DisplayWidth = 14
dimen_number dimens.DisplayIndent = 15
dimen_number dimens.OverfullRule = 16
dimen_number dimens.HangIndent = 17
dimen_number dimens.HOffset = 18
dimen_number dimens.VOffset = 19
dimen_number dimens.EmergencyStretch = 20

unfoldable pub dimen_at : ℕ → Option DimenParam
dimen_at number = slice_get all_dimens number

unfoldable pub all_glues : List GlueParam
all_glues =
    glues.LineSkip ∷ glues.BaselineSkip ∷ glues.ParSkip ∷ glues.AboveDisplaySkip ∷ glues.BelowDisplaySkip ∷
    glues.AboveDisplayShortSkip ∷ glues.BelowDisplayShortSkip ∷ glues.LeftSkip ∷ glues.RightSkip ∷ glues.TopSkip ∷
    glues.SplitTopSkip ∷ glues.TabSkip ∷ glues.SpaceSkip ∷ glues.XSpaceSkip ∷ glues.ParFillSkip ∷ []

unfoldable pub glue_number : GlueParam → ℕ
glue_number glues.LineSkip = 0
glue_number glues.BaselineSkip = 1
glue_number glues.ParSkip = 2
glue_number glues.AboveDisplaySkip = 3
glue_number glues.BelowDisplaySkip = 4
glue_number glues.AboveDisplayShortSkip = 5
glue_number glues.BelowDisplayShortSkip = 6
glue_number glues.LeftSkip = 7
glue_number glues.RightSkip = 8
glue_number glues.TopSkip = 9
glue_number glues.SplitTopSkip = 10
glue_number glues.TabSkip = 11
glue_number glues.SpaceSkip = 12
glue_number glues.XSpaceSkip = 13
glue_number glues.ParFillSkip = 14

unfoldable pub glue_at : ℕ → Option GlueParam
glue_at number = slice_get all_glues number

unfoldable pub all_mu_glues : List MuGlueParam
all_mu_glues =
    mu_glues.ThinMuSkip ∷ mu_glues.MedMuSkip ∷ mu_glues.ThickMuSkip ∷ []

unfoldable pub mu_glue_number : MuGlueParam → ℕ
mu_glue_number mu_glues.ThinMuSkip = 0
mu_glue_number mu_glues.MedMuSkip = 1
mu_glue_number mu_glues.ThickMuSkip = 2

unfoldable pub mu_glue_at : ℕ → Option MuGlueParam
mu_glue_at number = slice_get all_mu_glues number

unfoldable pub all_tokens : List TokenParam
all_tokens =
    tokens.Output ∷ tokens.EveryPar ∷ tokens.EveryMath ∷ tokens.EveryDisplay ∷ tokens.EveryHBox ∷
    tokens.EveryVBox ∷ tokens.EveryJob ∷ tokens.EveryCr ∷ tokens.ErrHelp ∷ tokens.EveryEof ∷ []

unfoldable pub token_number : TokenParam → ℕ
token_number tokens.Output = 0
token_number tokens.EveryPar = 1
token_number tokens.EveryMath = 2
token_number tokens.EveryDisplay = 3
token_number tokens.EveryHBox = 4
token_number tokens.EveryVBox = 5
token_number tokens.EveryJob = 6
token_number tokens.EveryCr = 7
token_number tokens.ErrHelp = 8
token_number tokens.EveryEof = 9

unfoldable pub token_at : ℕ → Option TokenParam
token_at number = slice_get all_tokens number
