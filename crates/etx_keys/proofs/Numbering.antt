-- A parameter has its number, and a number its parameter.
use Rattle.std.proofs.Common.{◌≡◌, ℕ, map, Some, refl, ◌∙◌, zero-add}
use Rattle.etx_keys.proofs.Counting.{numbers_from, counted}
use Rattle.etx_prims.specs.declared.parameters.IntParam.{IntParam}
use Rattle.etx_prims.specs.declared.parameters.IntParam.TheVariants as ints
use Rattle.etx_prims.specs.declared.parameters.DimenParam.{DimenParam}
use Rattle.etx_prims.specs.declared.parameters.DimenParam.TheVariants as dimens
use Rattle.etx_prims.specs.declared.parameters.GlueParam.{GlueParam}
use Rattle.etx_prims.specs.declared.parameters.GlueParam.TheVariants as glues
use Rattle.etx_prims.specs.declared.parameters.MuGlueParam.{MuGlueParam}
use Rattle.etx_prims.specs.declared.parameters.MuGlueParam.TheVariants as mu_glues
use Rattle.etx_prims.specs.declared.parameters.TokenParam.{TokenParam}
use Rattle.etx_prims.specs.declared.parameters.TokenParam.TheVariants as tokens
use Rattle.etx_keys.specs.Parameters.{all_ints, int_number, int_at, all_dimens, dimen_number, dimen_at, all_glues, glue_number, glue_at, all_mu_glues, mu_glue_number, mu_glue_at, all_tokens, token_number, token_at}

pub int_back : (parameter : IntParam) → int_at (int_number parameter) ≡ Some parameter
unfolding all_ints int_number int_at
int_back ints.Pretolerance = refl
int_back ints.Tolerance = refl
int_back ints.LinePenalty = refl
int_back ints.HyphenPenalty = refl
int_back ints.ExHyphenPenalty = refl
int_back ints.ClubPenalty = refl
int_back ints.WidowPenalty = refl
int_back ints.DisplayWidowPenalty = refl
int_back ints.BrokenPenalty = refl
int_back ints.BinOpPenalty = refl
int_back ints.RelPenalty = refl
int_back ints.PreDisplayPenalty = refl
int_back ints.PostDisplayPenalty = refl
int_back ints.InterLinePenalty = refl
int_back ints.DoubleHyphenDemerits = refl
int_back ints.FinalHyphenDemerits = refl
int_back ints.AdjDemerits = refl
int_back ints.Mag = refl
int_back ints.DelimiterFactor = refl
int_back ints.Looseness = refl
int_back ints.Time = refl
int_back ints.Day = refl
int_back ints.Month = refl
int_back ints.Year = refl
int_back ints.ShowBoxBreadth = refl
int_back ints.ShowBoxDepth = refl
int_back ints.HBadness = refl
int_back ints.VBadness = refl
int_back ints.Pausing = refl
int_back ints.TracingOnline = refl
int_back ints.TracingMacros = refl
int_back ints.TracingStats = refl
int_back ints.TracingParagraphs = refl
int_back ints.TracingPages = refl
int_back ints.TracingOutput = refl
int_back ints.TracingLostChars = refl
int_back ints.TracingCommands = refl
int_back ints.TracingRestores = refl
int_back ints.TracingAssigns = refl
int_back ints.TracingGroups = refl
int_back ints.TracingIfs = refl
int_back ints.TracingScanTokens = refl
int_back ints.TracingNesting = refl
int_back ints.UcHyph = refl
int_back ints.OutputPenalty = refl
int_back ints.MaxDeadCycles = refl
int_back ints.HangAfter = refl
int_back ints.FloatingPenalty = refl
int_back ints.GlobalDefs = refl
int_back ints.Fam = refl
int_back ints.EscapeChar = refl
int_back ints.DefaultHyphenChar = refl
int_back ints.DefaultSkewChar = refl
int_back ints.EndLineChar = refl
int_back ints.NewLineChar = refl
int_back ints.Language = refl
int_back ints.LeftHyphenMin = refl
int_back ints.RightHyphenMin = refl
int_back ints.HoldingInserts = refl
int_back ints.ErrorContextLines = refl

ints_counted : map int_number all_ints ≡ numbers_from 0 60
unfolding all_ints int_number
ints_counted = refl

pub int_there : (number : ℕ) (parameter : IntParam) → int_at number ≡ Some parameter → int_number parameter ≡ number
unfolding int_at
int_there number parameter h = counted int_number all_ints 0 60 ints_counted number parameter h ∙ zero-add number

pub dimen_back : (parameter : DimenParam) → dimen_at (dimen_number parameter) ≡ Some parameter
unfolding all_dimens dimen_number dimen_at
dimen_back dimens.ParIndent = refl
dimen_back dimens.MathSurround = refl
dimen_back dimens.LineSkipLimit = refl
dimen_back dimens.HSize = refl
dimen_back dimens.VSize = refl
dimen_back dimens.MaxDepth = refl
dimen_back dimens.SplitMaxDepth = refl
dimen_back dimens.BoxMaxDepth = refl
dimen_back dimens.HFuzz = refl
dimen_back dimens.VFuzz = refl
dimen_back dimens.DelimiterShortfall = refl
dimen_back dimens.NullDelimiterSpace = refl
dimen_back dimens.ScriptSpace = refl
dimen_back dimens.PreDisplaySize = refl
dimen_back dimens.DisplayWidth = refl
dimen_back dimens.DisplayIndent = refl
dimen_back dimens.OverfullRule = refl
dimen_back dimens.HangIndent = refl
dimen_back dimens.HOffset = refl
dimen_back dimens.VOffset = refl
dimen_back dimens.EmergencyStretch = refl

dimens_counted : map dimen_number all_dimens ≡ numbers_from 0 21
unfolding all_dimens dimen_number
dimens_counted = refl

pub dimen_there : (number : ℕ) (parameter : DimenParam) → dimen_at number ≡ Some parameter → dimen_number parameter ≡ number
unfolding dimen_at
dimen_there number parameter h = counted dimen_number all_dimens 0 21 dimens_counted number parameter h ∙ zero-add number

pub glue_back : (parameter : GlueParam) → glue_at (glue_number parameter) ≡ Some parameter
unfolding all_glues glue_number glue_at
glue_back glues.LineSkip = refl
glue_back glues.BaselineSkip = refl
glue_back glues.ParSkip = refl
glue_back glues.AboveDisplaySkip = refl
glue_back glues.BelowDisplaySkip = refl
glue_back glues.AboveDisplayShortSkip = refl
glue_back glues.BelowDisplayShortSkip = refl
glue_back glues.LeftSkip = refl
glue_back glues.RightSkip = refl
glue_back glues.TopSkip = refl
glue_back glues.SplitTopSkip = refl
glue_back glues.TabSkip = refl
glue_back glues.SpaceSkip = refl
glue_back glues.XSpaceSkip = refl
glue_back glues.ParFillSkip = refl

glues_counted : map glue_number all_glues ≡ numbers_from 0 15
unfolding all_glues glue_number
glues_counted = refl

pub glue_there : (number : ℕ) (parameter : GlueParam) → glue_at number ≡ Some parameter → glue_number parameter ≡ number
unfolding glue_at
glue_there number parameter h = counted glue_number all_glues 0 15 glues_counted number parameter h ∙ zero-add number

pub mu_glue_back : (parameter : MuGlueParam) → mu_glue_at (mu_glue_number parameter) ≡ Some parameter
unfolding all_mu_glues mu_glue_number mu_glue_at
mu_glue_back mu_glues.ThinMuSkip = refl
mu_glue_back mu_glues.MedMuSkip = refl
mu_glue_back mu_glues.ThickMuSkip = refl

mu_glues_counted : map mu_glue_number all_mu_glues ≡ numbers_from 0 3
unfolding all_mu_glues mu_glue_number
mu_glues_counted = refl

pub mu_glue_there : (number : ℕ) (parameter : MuGlueParam) → mu_glue_at number ≡ Some parameter → mu_glue_number parameter ≡ number
unfolding mu_glue_at
mu_glue_there number parameter h = counted mu_glue_number all_mu_glues 0 3 mu_glues_counted number parameter h ∙ zero-add number

pub token_back : (parameter : TokenParam) → token_at (token_number parameter) ≡ Some parameter
unfolding all_tokens token_number token_at
token_back tokens.Output = refl
token_back tokens.EveryPar = refl
token_back tokens.EveryMath = refl
token_back tokens.EveryDisplay = refl
token_back tokens.EveryHBox = refl
token_back tokens.EveryVBox = refl
token_back tokens.EveryJob = refl
token_back tokens.EveryCr = refl
token_back tokens.ErrHelp = refl
token_back tokens.EveryEof = refl

tokens_counted : map token_number all_tokens ≡ numbers_from 0 10
unfolding all_tokens token_number
tokens_counted = refl

pub token_there : (number : ℕ) (parameter : TokenParam) → token_at number ≡ Some parameter → token_number parameter ≡ number
unfolding token_at
token_there number parameter h = counted token_number all_tokens 0 10 tokens_counted number parameter h ∙ zero-add number
