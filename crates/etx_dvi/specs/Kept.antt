-- What the types of a command keep: the ranges of its numbers, and the lengths of its lists.
use Rattle.std.specs.Prelude.{◌<◌, ◌≤◌, ◌^◌, ◌≡◌, length, All, FitsSigned}
use Rattle.std.specs.Int.{w32}
use Rattle.etx_dvi.specs.declared.command.Dvi.{Dvi}
use Rattle.etx_dvi.specs.declared.command.Dvi.TheVariants.{SetChar, SetRule, PutRule, Bop, Eop, Push, Pop, Right, W0, W, X0, X, Down, Y0, Y, Z0, Z, FontNumber, Special, FontDefinition, Pre, Post, PostPost}

abbrev pub IsKept : Dvi → Type 0
IsKept (SetChar code) = code < 256
IsKept (SetRule height width) = FitsSigned w32 height × FitsSigned w32 width
IsKept (PutRule height width) = FitsSigned w32 height × FitsSigned w32 width
IsKept (Bop counts last) = (length counts ≡ 10) × All (λ z. FitsSigned w32 z) counts × FitsSigned w32 last
IsKept Eop = Unit {0}
IsKept Push = Unit {0}
IsKept Pop = Unit {0}
IsKept (Right amount) = FitsSigned w32 amount
IsKept W0 = Unit {0}
IsKept (W amount) = FitsSigned w32 amount
IsKept X0 = Unit {0}
IsKept (X amount) = FitsSigned w32 amount
IsKept (Down amount) = FitsSigned w32 amount
IsKept Y0 = Unit {0}
IsKept (Y amount) = FitsSigned w32 amount
IsKept Z0 = Unit {0}
IsKept (Z amount) = FitsSigned w32 amount
IsKept (FontNumber number) = number < 256
IsKept (Special text) = length text ≤ 2 ^ 30
IsKept (FontDefinition number checksum size design_size name) =
    (number < 256) × (checksum < 2 ^ 32) × FitsSigned w32 size × FitsSigned w32 design_size × (length name ≤ 255)
IsKept (Pre magnification) = FitsSigned w32 magnification
IsKept (Post last magnification tallest widest pushes pages) =
    FitsSigned w32 last × FitsSigned w32 magnification × FitsSigned w32 tallest × FitsSigned w32 widest × (pushes < 2 ^ 16) × (pages < 2 ^ 16)
IsKept (PostPost post) = FitsSigned w32 post
