use Rattle.etx_scaled.proofs.Decimals.{places_enough}
use Rattle.etx_scaled.proofs.Readings.{fraction_printed, fraction_reads, fraction_shortest}
use Rattle.etx_scaled.proofs.Texts.{text_reads}
use Rattle.etx_scaled.proofs.law.decimals_read_back.Goals as goal

pub returns-clause-reads : goal.returns-clause-reads
returns-clause-reads c = text_reads

pub returns-clause-fraction : goal.returns-clause-fraction
returns-clause-fraction c = fraction_reads

pub returns-clause-digits : goal.returns-clause-digits
returns-clause-digits c = λ f h. (fraction_printed f h).digits

pub returns-clause-some : goal.returns-clause-some
returns-clause-some c = λ f h. (fraction_printed f h).some

pub returns-clause-few : goal.returns-clause-few
returns-clause-few c = λ f h. (fraction_printed f h).few

pub returns-clause-shortest : goal.returns-clause-shortest
returns-clause-shortest c = fraction_shortest

pub returns-clause-places : goal.returns-clause-places
returns-clause-places c = places_enough
