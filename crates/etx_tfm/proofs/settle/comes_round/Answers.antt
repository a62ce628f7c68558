use Rattle.std.proofs.Common.{refl, sym, ◌∙◌, ap}
use Rattle.etx_tfm.specs.Leading.{some_lead}
use Rattle.etx_tfm.proofs.Waiting.{table_first}
use Rattle.etx_tfm.proofs.Settling.{round_from}
use Rattle.etx_tfm.proofs.Plain.{plain_fonts}
use Rattle.etx_tfm.proofs.settle.comes_round.Goals as goal

pub returns-then-not-some_lead : goal.returns-then-not-some_lead
returns-then-not-some_lead c = sym (plain_fonts c.args.font.now (ap some_lead (sym c.as_slice.ensures.same) ∙ sym c.some_lead.ensures ∙ c.if-not-some_lead.true))

pub is_open-requires-clause-table : goal.is_open-requires-clause-table
is_open-requires-clause-table c =
    rw (c.as_mut_slice.ensures.value, c.in_ok-known.ensures) (table_first c.args.font.now 66_049 refl)

pub returns : goal.returns
returns c = round_from c.args.font.now c.deepest.result c.is_open.result c.deepest.ensures.value c.is_open.ensures
