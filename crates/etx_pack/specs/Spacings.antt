-- What the glue of a box comes to when it is set: sums are rounded, and not each glue by itself ("TeX: The Program",
-- sections 625 and 634, with exact fractions).
use Rattle.std.specs.Prelude.{if◌then◌else◌, ℤ, ◌*ℤ◌, neg_ℤ, Some}
use Rattle.etx_scaled.specs.Rounding.{nearest, within_billion}
use Rattle.etx_matter.specs.declared.glue.Glue.{Glue}
use Rattle.etx_matter.specs.GlueSets.{GlueSetting}
use Rattle.etx_pack.specs.Fits.{amount_of}
use Rattle.etx_pack.specs.Sums.{glue_stretch, glue_shrink}

-- what a glue adds to the sum that is set: its stretch or its negative shrink, of the governing order
unfoldable pub pull : GlueSetting → Glue → ℤ
pull set glue =
    if set.stretching
    then amount_of set.order (glue_stretch (Some glue))
    else neg_ℤ (amount_of set.order (glue_shrink (Some glue)))

-- by how much glue grows of which there is so much in all: the exact product with the fraction, rounded once and bounded.
-- Of all glue before a place of a list it tells by how much that place is moved; so a glue takes the difference of two such
-- sums more than its natural width, and places don't drift, however long the list is.
unfoldable pub growth : GlueSetting → ℤ → ℤ
growth set total = within_billion (nearest (set.num *ℤ total) set.den)
