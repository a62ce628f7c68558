-- A line and what moves out of it, whose lists carry their right nestings.
use Rattle.etx_matter.specs.Nests.{AreNested}
use Rattle.etx_setlines.specs.declared.sorting.Sorted.{Sorted}

abbrev pub BothNested : Sorted → Type 0
BothNested sorted = AreNested sorted.line × AreNested sorted.moved
