-- The files and the text after a history in two parts.
use Rattle.std.proofs.Common.{◌≡◌, ℕ, List, [], ◌∷◌, ◌++◌, refl, ap}
use Rattle.etx_outside.specs.Entries.{Asked, Made, Byte, Shown, History, Files, put, add_to, files_after, said, asked_in, shown, bytes_to}

pub files_after-append : (g h : History) (files : Files) → files_after (g ++ h) files ≡ files_after h (files_after g files)
files_after-append [] h files = refl
files_after-append (Asked name ∷ g) h files = files_after-append g h files
files_after-append (Made name ∷ g) h files = files_after-append g h (put name [] files)
files_after-append (Byte name b ∷ g) h files = files_after-append g h (add_to (files name) name b files)
files_after-append (Shown b ∷ g) h files = files_after-append g h files

pub said-append : (g h : History) → said (g ++ h) ≡ said g ++ said h
said-append [] h = refl
said-append (Asked name ∷ g) h = said-append g h
said-append (Made name ∷ g) h = said-append g h
said-append (Byte name b ∷ g) h = said-append g h
said-append (Shown b ∷ g) h = ap (λ (l : List ℕ). b ∷ l) (said-append g h)

-- what is shown changes no file
pub files_after-shown : (bytes : List ℕ) (files : Files) → files_after (shown bytes) files ≡ files
files_after-shown [] files = refl
files_after-shown (b ∷ bytes) files = files_after-shown bytes files

-- bytes to a file say nothing
pub said-bytes_to : (name bytes : List ℕ) → said (bytes_to name bytes) ≡ []
said-bytes_to name [] = refl
said-bytes_to name (b ∷ bytes) = said-bytes_to name bytes

pub asked_in-append : (g h : History) → asked_in (g ++ h) ≡ asked_in g ++ asked_in h
asked_in-append [] h = refl
asked_in-append (Asked name ∷ g) h = ap (λ (l : List (List ℕ)). name ∷ l) (asked_in-append g h)
asked_in-append (Made name ∷ g) h = asked_in-append g h
asked_in-append (Byte name b ∷ g) h = asked_in-append g h
asked_in-append (Shown b ∷ g) h = asked_in-append g h

pub asked_in-bytes_to : (name bytes : List ℕ) → asked_in (bytes_to name bytes) ≡ []
asked_in-bytes_to name [] = refl
asked_in-bytes_to name (b ∷ bytes) = asked_in-bytes_to name bytes

pub asked_in-shown : (bytes : List ℕ) → asked_in (shown bytes) ≡ []
asked_in-shown [] = refl
asked_in-shown (b ∷ bytes) = asked_in-shown bytes
