use Rattle.std.proofs.Common.{sym}
use Rattle.etx_patterns.proofs.Lookups.{known_at_is}
use Rattle.etx_patterns.proofs.pattern_list.PatternList.is_known.Goals as goal

pub returns-in-Some : goal.returns-in-Some
returns-in-Some c = sym (known_at_is c.args.self.now c.args.path.now c.in-Some.field-0 c.in-Some.ensures)
