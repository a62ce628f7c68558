-- What getting a token costs: it is one step at most, and a token that is got was paid for.
use Rattle.std.proofs.Common.{◌≡◌, ℕ, ℤ, ◌+◌, ◌*◌, ◌<◌, ◌≤◌, inl, inr, Bool, true, false, List, [], ◌∷◌, length, Option, Some, None, refl, arith, if◌then◌else◌}
use Rattle.etx_matter.specs.declared.token.Token.{Token}
use Rattle.etx_matter.specs.declared.token.Token.TheVariants.{Char, Name}
use Rattle.etx_matter.specs.declared.end.End.TheVariants.{Capacity}
use Rattle.etx_matter.specs.declared.end.Limit.TheVariants.{Names}
use Rattle.etx_lexer.specs.declared.lexed.Lexed.{Lexed}
use Rattle.etx_lexer.specs.declared.lexed.Lexed.TheVariants as lexed
use Rattle.etx_input.specs.Files.{FileState, got_of as file_got}
use Rattle.etx_input.specs.Levels.{InputState, Given, list_given, file_given, given_in, given_of}
use Rattle.etx_input.specs.declared.origin.Origin.{Origin}
use Rattle.etx_input.specs.declared.origin.Origin.TheVariants.{Fresh, Back, Unexpanded, Kept}
use Rattle.etx_input.specs.declared.level.Level.{Level}
use Rattle.etx_input.specs.declared.level.Level.TheVariants as level
use Rattle.etx_input.specs.declared.levels.Next.{Next}
use Rattle.etx_input.specs.declared.levels.Next.TheVariants as next
use Rattle.etx_prims.specs.declared.parameters.IntParam.TheVariants.{EndLineChar}
use Rattle.etx_state.specs.declared.key.Meaning.{Meaning}
use Rattle.etx_state.specs.Reading.{category_in, int_in, token_meaning}
use Rattle.etx_state.specs.Rests.{with_name, number_of, has_room}
use Rattle.etx_state.specs.Mouths.{Mouth, with_rest, with_input, given}
use Rattle.etx_expand.specs.declared.get.Watch.{Watch}
use Rattle.etx_expand.specs.declared.get.Watch.TheVariants as watch
use Rattle.etx_expand.specs.declared.get.Got.{Got}
use Rattle.etx_expand.specs.declared.get.Got.TheVariants as got
use Rattle.etx_answers.specs.declared.plan.Did.TheVariants as did
use Rattle.etx_expand.specs.Moves.{charged, charge_of, turned_by}
use Rattle.etx_answers.specs.Meanings.{is_outer}
use Rattle.etx_expand.specs.Getting.{Getting, getting, forbidden, admitted, token_got, name_got, lexed_got, next_got, file_ended, got_of}
use Rattle.etx_expand.specs.Measure.{file_weight, back_weight, tokens_weight, levels_weight, weight, Steps, Falls, Comes}

-- ---- what the input gives

abbrev gift_weight : Next → ℕ
gift_weight (next.Listed t origin) = tokens_weight origin (t ∷ [])
gift_weight (next.Lexed x) = 0
gift_weight next.FileEnd = file_weight
gift_weight next.Over = 0

list_weighs : (ts : List Token) (o : Origin) (ls : List Level) (left : ℕ) (more : Given) → levels_weight more.input.levels + gift_weight more.next ≤ levels_weight ls
    → levels_weight (list_given ts o ls left more).input.levels + gift_weight (list_given ts o ls left more).next ≤ tokens_weight o ts + levels_weight ls
list_weighs [] Fresh ls left more is = omega (arith, is)
list_weighs [] Back ls left more is = omega (arith, is)
list_weighs [] Unexpanded ls left more is = omega (arith, is)
list_weighs [] Kept ls left more is = omega (arith, is)
list_weighs (t ∷ []) o ls left more is = omega arith
list_weighs (t ∷ u ∷ ts) Fresh ls left more is = omega arith
list_weighs (t ∷ u ∷ ts) Back ls left more is = omega arith
list_weighs (t ∷ u ∷ ts) Unexpanded ls left more is = omega arith
list_weighs (t ∷ u ∷ ts) Kept ls left more is = omega arith

file_weighs : (x : Option Lexed) (f : FileState) (ls : List Level) (left : ℕ) → levels_weight (file_given x f ls left).input.levels + gift_weight (file_given x f ls left).next ≤ file_weight + levels_weight ls
file_weighs None f ls left = omega arith
file_weighs (Some x) f ls left = omega arith

given_weighs : (cats : ℕ → ℕ) (endline : ℤ) (ls : List Level) (left : ℕ) → levels_weight (given_in cats endline ls left).input.levels + gift_weight (given_in cats endline ls left).next ≤ levels_weight ls
given_weighs cats endline [] left = omega arith
given_weighs cats endline (level.List l ∷ ls) left = list_weighs l.rest l.origin ls left (given_in cats endline ls left) (given_weighs cats endline ls left)
given_weighs cats endline (level.File f ∷ ls) left = file_weighs (file_got cats endline f).lexed (file_got cats endline f).file ls left

mouth_weighs : (m : Mouth) → levels_weight (given m).input.levels + gift_weight (given m).next ≤ levels_weight m.input.levels
unfolding given_of
mouth_weighs m = given_weighs (category_in m.rest.values) (int_in m.rest.values EndLineChar) m.input.levels m.input.left

-- ---- getting

-- a token was paid for, so that it may be put back; else the turn goes on
abbrev pub PaidGot : Got → Mouth → Mouth → Type 0
PaidGot (got.Token t mm) old new = Falls back_weight old new
PaidGot (got.Over d) old new = Comes (turned_by d new) old new
PaidGot (got.Cut text) old new = Unit {0}

pub record Pays (old : Mouth) (g : Getting) : Type 0 where
  pub paid : PaidGot g.got old g.now
  pub steps : Steps 1 old g.now

admitted_pays : (w : Watch) (t : Token) (mm : Meaning) (old m : Mouth) → Falls back_weight old m → Steps 1 old m → Pays old (admitted w t mm m)
admitted_pays watch.Nothing t mm old m paid steps = record { paid = paid; steps = steps }
admitted_pays (watch.Defining name) t mm old m paid steps = by (is_outer mm)
  where
    by : (b : Bool) → Pays old (if b then forbidden (watch.Defining name) t m else getting m (got.Token t mm))
    by true = record { paid = tt; steps = record { forth = steps.forth; few = steps.few } }
    by false = record { paid = paid; steps = steps }
admitted_pays (watch.Absorbing name) t mm old m paid steps = by (is_outer mm)
  where
    by : (b : Bool) → Pays old (if b then forbidden (watch.Absorbing name) t m else getting m (got.Token t mm))
    by true = record { paid = tt; steps = record { forth = steps.forth; few = steps.few } }
    by false = record { paid = paid; steps = steps }
admitted_pays (watch.Matching name) t mm old m paid steps = by (is_outer mm)
  where
    by : (b : Bool) → Pays old (if b then forbidden (watch.Matching name) t m else getting m (got.Token t mm))
    by true = record { paid = tt; steps = record { forth = steps.forth; few = steps.few } }
    by false = record { paid = paid; steps = steps }
admitted_pays (watch.Skipping line) t mm old m paid steps = by (is_outer mm)
  where
    by : (b : Bool) → Pays old (if b then forbidden (watch.Skipping line) t m else getting m (got.Token t mm))
    by true = record { paid = tt; steps = record { forth = steps.forth; few = steps.few } }
    by false = record { paid = paid; steps = steps }

token_pays : (w : Watch) (t : Token) (o : Origin) (old m : Mouth) → Falls back_weight old m → Steps 1 old m → Pays old (token_got w t o m)
unfolding token_got
token_pays w t Fresh old m paid steps = admitted_pays w t (token_meaning m.rest.values t) old m paid steps
token_pays w t Back old m paid steps = admitted_pays w t (token_meaning m.rest.values t) old m paid steps
token_pays w t Unexpanded old m paid steps = record { paid = paid; steps = steps }
token_pays w t Kept old m paid steps = record { paid = paid; steps = steps }

name_pays : (w : Watch) (name : List ℕ) (old m : Mouth) → m.spent ≡ old.spent + 1 → Pays old (name_got w name m)
unfolding name_got turned_by
name_pays w name old m one = by (has_room name m.rest)
  where
    by : (b : Bool) → Pays old (if b then token_got w (Name (record { 0 = number_of name m.rest })) Fresh (with_rest (with_name name m.rest) m) else getting m (got.Over (did.End (Capacity Names))))
    by true = token_pays w (Name (record { 0 = number_of name m.rest })) Fresh old (with_rest (with_name name m.rest) m) (inl (omega (arith, one))) (record { forth = omega (arith, one); few = omega (arith, one) })
    by false = record { paid = tt; steps = record { forth = omega (arith, one); few = omega (arith, one) } }

lexed_pays : (w : Watch) (x : Lexed) (old m : Mouth) → m.spent ≡ old.spent → Pays old (lexed_got w x m)
unfolding lexed_got turned_by
lexed_pays w (lexed.Char code cat) old m same = token_pays w (Char code cat) Fresh old (charged 1 m) (inl (omega (arith, same))) (record { forth = omega (arith, same); few = omega (arith, same) })
lexed_pays w (lexed.Name name) old m same = name_pays w name old (charged 1 m) (omega (arith, same))
lexed_pays w (lexed.Invalid code) old m same = record { paid = tt; steps = record { forth = omega (arith, same); few = omega (arith, same) } }
lexed_pays w lexed.LineEnd old m same = record { paid = inl (omega (arith, same)); steps = record { forth = omega (arith, same); few = omega (arith, same) } }

ended_pays : (w : Watch) (old m : Mouth) → m.spent ≡ old.spent → weight m + 1 ≤ weight old → Pays old (file_ended w m)
unfolding turned_by
ended_pays watch.Nothing old m same less = record { paid = inr (same, less); steps = record { forth = omega (arith, same); few = omega (arith, same) } }
ended_pays (watch.Defining name) old m same less = record { paid = tt; steps = record { forth = omega (arith, same); few = omega (arith, same) } }
ended_pays (watch.Absorbing name) old m same less = record { paid = tt; steps = record { forth = omega (arith, same); few = omega (arith, same) } }
ended_pays (watch.Matching name) old m same less = record { paid = tt; steps = record { forth = omega (arith, same); few = omega (arith, same) } }
ended_pays (watch.Skipping line) old m same less = record { paid = tt; steps = record { forth = omega (arith, same); few = omega (arith, same) } }

next_pays : (w : Watch) (x : Next) (i : InputState) (m : Mouth) → levels_weight i.levels + gift_weight x ≤ levels_weight m.input.levels → Pays m (next_got w x (with_input i m))
unfolding turned_by
next_pays w (next.Listed t Fresh) i m is = token_pays w t Fresh m (charged 1 (with_input i m)) (inl (omega arith)) (record { forth = omega arith; few = omega arith })
next_pays w (next.Listed t Back) i m is = token_pays w t Back m (charged 0 (with_input i m)) (inr (omega arith, omega (arith, is))) (record { forth = omega arith; few = omega arith })
next_pays w (next.Listed t Unexpanded) i m is = token_pays w t Unexpanded m (charged 0 (with_input i m)) (inr (omega arith, omega (arith, is))) (record { forth = omega arith; few = omega arith })
next_pays w (next.Listed t Kept) i m is = token_pays w t Kept m (charged 1 (with_input i m)) (inl (omega arith)) (record { forth = omega arith; few = omega arith })
next_pays w (next.Lexed x) i m is = lexed_pays w x m (with_input i m) refl
next_pays w next.FileEnd i m is = ended_pays w m (with_input i m) refl (omega (arith, is))
next_pays w next.Over i m is = record { paid = tt; steps = record { forth = omega arith; few = omega arith } }

pub got_pays : (w : Watch) (m : Mouth) → Pays m (got_of w m)
unfolding got_of
got_pays w m = next_pays w (given m).next (given m).input m (mouth_weighs m)
