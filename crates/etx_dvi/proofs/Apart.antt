-- A reader takes commands apart.
use Rattle.std.proofs.Common.{◌≡◌, ◌≤◌, ◌+◌, ◌-◌, ◌*◌, ◌^◌, inl, inr, ℕ, ℤ, FitsSigned, List, [], ◌∷◌, ◌++◌, drop, length, nat_lt, true, false, Option, Some, None, arith, refl, ap, ◌∙◌, sym, append_assoc, All}
use Rattle.std.proofs.Math.Seq.{take-append_seam, drop-append_seam}
use Rattle.std.proofs.lemmas.Bool.{cases_lt}
use Rattle.std.proofs.lemmas.Bool.Decides.{nat_tests}
use Rattle.std.proofs.lemmas.List.Elements.{All-head, All-tail}
use Rattle.std.specs.List.{flat_map}
use Rattle.std.specs.Int.{w32}
use Rattle.etx_dvi.specs.declared.command.Dvi.{Dvi}
use Rattle.etx_dvi.specs.declared.command.Dvi.TheVariants.{SetChar, SetRule, PutRule, Bop, Eop, Push, Pop, Right, W0, W, X0, X, Down, Y0, Y, Z0, Z, FontNumber, Special, FontDefinition, Pre, Post, PostPost}
use Rattle.etx_dvi.specs.Commands.{bytes_of, movement, comment}
use Rattle.etx_dvi.specs.Kept.{IsKept}
use Rattle.etx_dvi.specs.Numbers.{four, signed_bytes, signed_at}
use Rattle.etx_dvi.specs.Reading.{Taken, moved, with_text, counts_at, read_low, read_high, read_command}
use Rattle.etx_dvi.proofs.Values.{one_read, two_read, four_read, signed_one, signed_two, signed_three, signed_four, one, two, three, whole, width, counts_read, counts_dropped}

-- a character
char_read : (code : ℕ) (bs : List ℕ) → read_command (bytes_of (SetChar code) ++ bs) ≡ Some (SetChar code, bs)
unfolding read_command read_low
char_read code bs = elim (cases_lt code 128) [
  | inl small ↦ let test : nat_lt code 128 ≡ true = grind (arith, nat_tests) in rw test (rw test refl)
  | inr large ↦
      let test : nat_lt code 128 ≡ false = grind (arith, nat_tests) in
      rw test (ap (λ n. Some (SetChar n, bs)) (one_read code bs))
]

-- a font
font_read : (number : ℕ) (bs : List ℕ) → read_command (bytes_of (FontNumber number) ++ bs) ≡ Some (FontNumber number, bs)
unfolding read_command read_high
font_read number bs = elim (cases_lt number 64) [
  | inl small ↦
      let test : nat_lt number 64 ≡ true = grind (arith, nat_tests) in
      let char : nat_lt (171 + number) 128 ≡ false = grind (arith, nat_tests) in
      let low : nat_lt (171 + number) 171 ≡ false = grind (arith, nat_tests) in
      let middle : nat_lt (171 + number) 235 ≡ true = grind (arith, nat_tests) in
      let same : 171 + number - 171 ≡ number = omega arith in
      rw test (rw (char, low, middle, same) refl)
  | inr large ↦
      let test : nat_lt number 64 ≡ false = grind (arith, nat_tests) in
      rw test (ap (λ n. Some (FontNumber n, bs)) (one_read number bs))
]

-- a movement of each width
moved_read : (command : ℤ → Dvi) (before : ℕ) (z : ℤ) (bs : List ℕ) → FitsSigned w32 z →
    ((xs : List ℕ) → read_command ((before + 1) ∷ xs) ≡ moved command 1 xs) →
    ((xs : List ℕ) → read_command ((before + 2) ∷ xs) ≡ moved command 2 xs) →
    ((xs : List ℕ) → read_command ((before + 3) ∷ xs) ≡ moved command 3 xs) →
    ((xs : List ℕ) → read_command ((before + 4) ∷ xs) ≡ moved command 4 xs) →
    read_command (movement before z ++ bs) ≡ Some (command z, bs)
moved_read command before z bs fits by_one by_two by_three by_four = elim (width z) [
  | one e small ↦ rw e (by_one (signed_bytes 1 z ++ bs) ∙ ap (λ y. Some (command y, bs)) (signed_one z bs small))
  | two e small ↦ rw e (by_two (signed_bytes 2 z ++ bs) ∙ ap (λ y. Some (command y, bs)) (signed_two z bs small))
  | three e small ↦ rw e (by_three (signed_bytes 3 z ++ bs) ∙ ap (λ y. Some (command y, bs)) (signed_three z bs small))
  | whole e ↦ rw e (by_four (signed_bytes 4 z ++ bs) ∙ ap (λ y. Some (command y, bs)) (signed_four z bs fits))
]

-- commands with several numbers
rule_same : (f : ℤ → ℤ → Dvi) (a a' b b' : ℤ) (bs : List ℕ) → a ≡ a' → b ≡ b' → ◌≡◌ {A = Option Taken} (Some (f a b, bs)) (Some (f a' b', bs))
rule_same f a a' b b' bs p q = rw (p, q) refl

post_same : (a a' b b' c c' d d' : ℤ) (m m' n n' : ℕ) (bs : List ℕ) → a ≡ a' → b ≡ b' → c ≡ c' → d ≡ d' → m ≡ m' → n ≡ n' →
    ◌≡◌ {A = Option Taken} (Some (Post a b c d m n, bs)) (Some (Post a' b' c' d' m' n', bs))
post_same a a' b b' c c' d d' m m' n n' bs p q r s t u = rw (p, q, r, s, t, u) refl

bop_same : (xs ys : List ℤ) (a b : ℤ) (bs cs : List ℕ) → xs ≡ ys → a ≡ b → bs ≡ cs → ◌≡◌ {A = Option Taken} (Some (Bop xs a, bs)) (Some (Bop ys b, cs))
bop_same xs ys a b bs cs p q r = rw (p, q, r) refl

-- a text behind its length
text_same : (f g : List ℕ → Dvi) (size : ℕ) (text bs : List ℕ) → f ≡ g → size ≡ length text → with_text f size (text ++ bs) ≡ Some (g text, bs)
text_same f g size text bs p q = rw (p, q, take-append_seam text bs, drop-append_seam text bs) refl

bop_read : (counts : List ℤ) (last : ℤ) (bs : List ℕ) → length counts ≡ 10 → All (λ z. FitsSigned w32 z) counts → FitsSigned w32 last →
    read_command ((139 ∷ flat_map four counts ++ four last) ++ bs) ≡ Some (Bop counts last, bs)
unfolding read_command read_low
bop_read counts last bs ten fits last_fits =
    let behind = four last ++ bs in
    let split : (flat_map four counts ++ four last) ++ bs ≡ flat_map four counts ++ behind = append_assoc (flat_map four counts) (four last) bs in
    let read : counts_at (length counts) (flat_map four counts ++ behind) ≡ counts = counts_read counts behind fits in
    let dropped : drop (4 * length counts) (flat_map four counts ++ behind) ≡ behind = counts_dropped counts behind in
    let read' : counts_at 10 (flat_map four counts ++ behind) ≡ counts = rw ten at read in
    let dropped' : drop 40 (flat_map four counts ++ behind) ≡ behind = rw ten at dropped in
    rw split (bop_same _ counts _ last _ bs read' (ap (λ xs. signed_at 4 xs) dropped' ∙ signed_four last bs last_fits) (ap (λ xs. drop 4 xs) dropped'))

special_read : (text : List ℕ) (bs : List ℕ) → length text ≤ 2 ^ 30 → read_command (bytes_of (Special text) ++ bs) ≡ Some (Special text, bs)
unfolding read_command read_high
special_read text bs room = elim (cases_lt (length text) 256) [
  | inl small ↦
      let test : nat_lt (length text) 256 ≡ true = grind (arith, nat_tests) in
      rw test (text_same Special Special _ text bs refl (one_read (length text) (text ++ bs)))
  | inr large ↦
      let test : nat_lt (length text) 256 ≡ false = grind (arith, nat_tests) in
      rw test (text_same Special Special _ text bs refl (four_read (length text) (text ++ bs) (omega arith)))
]

definition_same : (n n' k k' : ℕ) (a a' b b' : ℤ) → n ≡ n' → k ≡ k' → a ≡ a' → b ≡ b' → ◌≡◌ {A = List ℕ → Dvi} (FontDefinition n k a b) (FontDefinition n' k' a' b')
definition_same n n' k k' a a' b b' p q r s = rw (p, q, r, s) refl

-- reading the bytes of a command gives it, and what stands behind
pub reads : (c : Dvi) (bs : List ℕ) → IsKept c → read_command (bytes_of c ++ bs) ≡ Some (c, bs)
unfolding read_command read_low read_high
reads (SetChar code) bs kept = char_read code bs
reads (SetRule height width) bs kept = rule_same SetRule _ height _ width bs (signed_four height (four width ++ bs) kept.0) (signed_four width bs kept.1)
reads (PutRule height width) bs kept = rule_same PutRule _ height _ width bs (signed_four height (four width ++ bs) kept.0) (signed_four width bs kept.1)
reads (Bop counts last) bs kept = bop_read counts last bs kept.0 kept.1 kept.2
reads Eop bs kept = refl
reads Push bs kept = refl
reads Pop bs kept = refl
reads (Right amount) bs kept = moved_read Right 142 amount bs kept (λ xs. refl) (λ xs. refl) (λ xs. refl) (λ xs. refl)
reads W0 bs kept = refl
reads (W amount) bs kept = moved_read W 147 amount bs kept (λ xs. refl) (λ xs. refl) (λ xs. refl) (λ xs. refl)
reads X0 bs kept = refl
reads (X amount) bs kept = moved_read X 152 amount bs kept (λ xs. refl) (λ xs. refl) (λ xs. refl) (λ xs. refl)
reads (Down amount) bs kept = moved_read Down 156 amount bs kept (λ xs. refl) (λ xs. refl) (λ xs. refl) (λ xs. refl)
reads Y0 bs kept = refl
reads (Y amount) bs kept = moved_read Y 161 amount bs kept (λ xs. refl) (λ xs. refl) (λ xs. refl) (λ xs. refl)
reads Z0 bs kept = refl
reads (Z amount) bs kept = moved_read Z 166 amount bs kept (λ xs. refl) (λ xs. refl) (λ xs. refl) (λ xs. refl)
reads (FontNumber number) bs kept = font_read number bs
reads (Special text) bs kept = special_read text bs kept
reads (FontDefinition number checksum size design_size name) bs kept =
    text_same _ (FontDefinition number checksum size design_size) _ name bs
    (definition_same _ number _ checksum _ size _ design_size (one_read number _) (four_read checksum _ kept.1) (signed_four size _ kept.2) (signed_four design_size _ kept.3))
    (one_read (length name) (name ++ bs))
reads (Pre magnification) bs kept = ap (λ z. Some (Pre z, bs)) (signed_four magnification (27 ∷ comment ++ bs) kept)
reads (Post last magnification tallest widest pushes pages) bs kept =
    post_same _ last _ magnification _ tallest _ widest _ pushes _ pages bs
    (signed_four last _ kept.0) (signed_four magnification _ kept.1) (signed_four tallest _ kept.2) (signed_four widest _ kept.3)
    (two_read pushes _ kept.4) (two_read pages bs kept.5)
reads (PostPost post) bs kept = ap (λ z. Some (PostPost z, bs)) (signed_four post (2 ∷ bs) kept)

-- no command's bytes begin another's
pub apart : (c d : Dvi) (bs cs : List ℕ) → IsKept c → IsKept d → bytes_of c ++ bs ≡ bytes_of d ++ cs → (c ≡ d) × (bs ≡ cs)
apart c d bs cs kept kept' same =
    let both : ◌≡◌ {A = Option Taken} (Some (c, bs)) (Some (d, cs)) = sym (reads c bs kept) ∙ (ap read_command same ∙ reads d cs kept') in
    let pair : ◌≡◌ {A = Taken} (c, bs) (d, cs) = cc in
    (ap (λ (x : Taken). x.0) pair, ap (λ (x : Taken). x.1) pair)

not_empty : (c : Dvi) (bs : List ℕ) → IsKept c → [] ≡ bytes_of c ++ bs → ⊥
unfolding read_command
not_empty c bs kept same =
    let none : ◌≡◌ {A = Option Taken} None (Some (c, bs)) = ap read_command same ∙ reads c bs kept in
    cc

-- a sequence of commands has bytes of its own
pub sequences : (cs ds : List Dvi) → All IsKept cs → All IsKept ds → flat_map bytes_of cs ≡ flat_map bytes_of ds → cs ≡ ds
sequences [] [] kept kept' same = refl
sequences [] (d ∷ ds) kept kept' same = absurd (not_empty d (flat_map bytes_of ds) (All-head IsKept d ds kept') same)
sequences (c ∷ cs) [] kept kept' same = absurd (not_empty c (flat_map bytes_of cs) (All-head IsKept c cs kept) (sym same))
sequences (c ∷ cs) (d ∷ ds) kept kept' same =
    let both = apart c d (flat_map bytes_of cs) (flat_map bytes_of ds) (All-head IsKept c cs kept) (All-head IsKept d ds kept') same in
    let first : c ≡ d = both.0 in
    let others : cs ≡ ds = sequences cs ds (All-tail IsKept c cs kept) (All-tail IsKept d ds kept') both.1 in
    cc
