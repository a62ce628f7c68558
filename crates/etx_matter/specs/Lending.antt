-- A `Boxed` whose content is lent to be changed.
use Rattle.std.specs.Borrow.{Lends, MutBor, Fml}
use denote.RattleType.{RattleType}
use Rattle.etx_matter.specs.contracts.boxed.Boxed.{the_row}

-- it ends as what is left behind the reference
abbrev pub lends_content : (R : RattleType) → MutBor R.Denot → MutBor R.Denot → Fml
lends_content R s r = Lends (the_row R) R s r (λ w. w)
