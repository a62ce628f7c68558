-- The bytes of a command.
use Rattle.std.specs.Prelude.{ℕ, ◌+◌, nat_lt, if◌then◌else◌, ℤ, List, [], ◌∷◌, ◌++◌, length, codes}
use Rattle.std.specs.List.{flat_map}
use Rattle.std.specs.Int.{bytes_high_first}
use Rattle.etx_dvi.specs.declared.command.Dvi.{Dvi}
use Rattle.etx_dvi.specs.declared.command.Dvi.TheVariants.{SetChar, SetRule, PutRule, Bop, Eop, Push, Pop, Right, W0, W, X0, X, Down, Y0, Y, Z0, Z, FontNumber, Special, FontDefinition, Pre, Post, PostPost}
use Rattle.etx_dvi.specs.Numbers.{four, signed_bytes, width_of}

-- a movement, whose command is the given one and as many more as its amount has bytes
abbrev pub movement : ℕ → ℤ → List ℕ
movement before amount = (before + width_of amount) ∷ signed_bytes (width_of amount) amount

-- a unit of 25400000 / 473628672 times 10^-7 meters is a scaled point
abbrev pub unit : List ℕ
unit = bytes_high_first 4 25_400_000 ++ bytes_high_first 4 473_628_672

abbrev pub comment : List ℕ
comment = codes " TeX output 1776.07.04:1200"

-- the command's code, and what it carries
abbrev pub bytes_of : Dvi → List ℕ
bytes_of (SetChar code) = if nat_lt code 128 then code ∷ [] else 128 ∷ code ∷ []
bytes_of (SetRule height width) = 132 ∷ four height ++ four width
bytes_of (PutRule height width) = 137 ∷ four height ++ four width
bytes_of (Bop counts last) = 139 ∷ flat_map four counts ++ four last
bytes_of Eop = 140 ∷ []
bytes_of Push = 141 ∷ []
bytes_of Pop = 142 ∷ []
bytes_of (Right amount) = movement 142 amount
bytes_of W0 = 147 ∷ []
bytes_of (W amount) = movement 147 amount
bytes_of X0 = 152 ∷ []
bytes_of (X amount) = movement 152 amount
bytes_of (Down amount) = movement 156 amount
bytes_of Y0 = 161 ∷ []
bytes_of (Y amount) = movement 161 amount
bytes_of Z0 = 166 ∷ []
bytes_of (Z amount) = movement 166 amount
bytes_of (FontNumber number) = if nat_lt number 64 then (171 + number) ∷ [] else 235 ∷ number ∷ []
bytes_of (Special text) = (if nat_lt (length text) 256 then 239 ∷ length text ∷ [] else 242 ∷ bytes_high_first 4 (length text)) ++ text
bytes_of (FontDefinition number checksum size design_size name) =
    243 ∷ number ∷ bytes_high_first 4 checksum ++ four size ++ four design_size ++ 0 ∷ length name ∷ name
bytes_of (Pre magnification) = 247 ∷ 2 ∷ unit ++ four magnification ++ 27 ∷ comment
bytes_of (Post last magnification tallest widest pushes pages) =
    248 ∷ four last ++ unit ++ four magnification ++ four tallest ++ four widest ++ bytes_high_first 2 pushes ++ bytes_high_first 2 pages
bytes_of (PostPost post) = 249 ∷ four post ++ 2 ∷ []
