-- The deeds that are counted as errors.
use Rattle.std.specs.Prelude.{Bool, true, false}
use Rattle.etx_matter.specs.declared.deed.Deed.{Deed}
use Rattle.etx_matter.specs.declared.deed.Deed.TheVariants.{Fresh, Space, Text, Error, Create}

-- whether a deed reports an error
abbrev pub is_error : Deed → Bool
is_error (Fresh who) = false
is_error (Space who) = false
is_error (Text text who) = false
is_error (Error text line who) = true
is_error (Create name) = false
