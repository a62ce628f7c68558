-- What a reader takes from the bytes of a DVI file.
use Rattle.std.specs.Prelude.{ℕ, zero, suc, ◌-◌, ◌==◌, nat_lt, if◌then◌else◌, Option, Some, None, ℤ, List, [], ◌∷◌, take, drop}
use Rattle.etx_dvi.specs.declared.command.Dvi.{Dvi}
use Rattle.etx_dvi.specs.declared.command.Dvi.TheVariants.{SetChar, SetRule, PutRule, Bop, Eop, Push, Pop, Right, W0, W, X0, X, Down, Y0, Y, Z0, Z, FontNumber, Special, FontDefinition, Pre, Post, PostPost}
use Rattle.etx_dvi.specs.Numbers.{unsigned_at, signed_at}

-- a command and what stands behind it
abbrev pub Taken : Type 0
Taken = Dvi × List ℕ

-- signed numbers of four bytes, so many of them
unfoldable pub counts_at : ℕ → List ℕ → List ℤ
counts_at zero bs = []
counts_at (suc n) bs = signed_at 4 bs ∷ counts_at n (drop 4 bs)

-- a movement by a number of so many bytes
abbrev pub moved : (ℤ → Dvi) → ℕ → List ℕ → Option Taken
moved command k bs = Some (command (signed_at k bs), drop k bs)

-- a command that ends with a text of so many bytes
abbrev pub with_text : (List ℕ → Dvi) → ℕ → List ℕ → Option Taken
with_text command size bs = Some (command (take size bs), drop size bs)

-- the command that begins with a code below 171, characters apart
unfoldable pub read_low : ℕ → List ℕ → Option Taken
read_low code bs =
    if code == 128 then Some (SetChar (unsigned_at 1 bs), drop 1 bs)
    else (if code == 132 then Some (SetRule (signed_at 4 bs) (signed_at 4 (drop 4 bs)), drop 8 bs)
    else (if code == 137 then Some (PutRule (signed_at 4 bs) (signed_at 4 (drop 4 bs)), drop 8 bs)
    else (if code == 139 then Some (Bop (counts_at 10 bs) (signed_at 4 (drop 40 bs)), drop 4 (drop 40 bs))
    else (if code == 140 then Some (Eop, bs)
    else (if code == 141 then Some (Push, bs)
    else (if code == 142 then Some (Pop, bs)
    else (if nat_lt code 143 then None
    else (if nat_lt code 147 then moved Right (code - 142) bs
    else (if code == 147 then Some (W0, bs)
    else (if nat_lt code 152 then moved W (code - 147) bs
    else (if code == 152 then Some (X0, bs)
    else (if nat_lt code 157 then moved X (code - 152) bs
    else (if nat_lt code 161 then moved Down (code - 156) bs
    else (if code == 161 then Some (Y0, bs)
    else (if nat_lt code 166 then moved Y (code - 161) bs
    else (if code == 166 then Some (Z0, bs)
    else moved Z (code - 166) bs))))))))))))))))

-- the command that begins with a code of 235 or more
unfoldable pub read_high : ℕ → List ℕ → Option Taken
read_high code bs =
    if code == 235 then Some (FontNumber (unsigned_at 1 bs), drop 1 bs)
    else (if code == 239 then with_text Special (unsigned_at 1 bs) (drop 1 bs)
    else (if code == 242 then with_text Special (unsigned_at 4 bs) (drop 4 bs)
    else (if code == 243 then with_text (FontDefinition (unsigned_at 1 bs) (unsigned_at 4 (drop 1 bs)) (signed_at 4 (drop 5 bs)) (signed_at 4 (drop 9 bs))) (unsigned_at 1 (drop 14 bs)) (drop 15 bs)
    else (if code == 247 then Some (Pre (signed_at 4 (drop 9 bs)), drop 41 bs)
    else (if code == 248 then Some (Post (signed_at 4 bs) (signed_at 4 (drop 12 bs)) (signed_at 4 (drop 16 bs)) (signed_at 4 (drop 20 bs)) (unsigned_at 2 (drop 24 bs)) (unsigned_at 2 (drop 26 bs)), drop 28 bs)
    else (if code == 249 then Some (PostPost (signed_at 4 bs), drop 5 bs)
    else None))))))

-- the first command of a list of bytes that begins with one; a byte that isn't there counts as 0
unfoldable pub read_command : List ℕ → Option Taken
read_command [] = None
read_command (code ∷ bs) =
    if nat_lt code 128 then Some (SetChar code, bs)
    else (if nat_lt code 171 then read_low code bs
    else (if nat_lt code 235 then Some (FontNumber (code - 171), bs)
    else read_high code bs))
