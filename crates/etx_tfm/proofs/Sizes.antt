-- What right lengths say: that the file is long enough for what is read of it, and that codes are at most 255.
use Rattle.std.proofs.Common.{◌≡◌, ℕ, ◌+◌, ◌*◌, ◌-◌, ◌≤◌, Bool, true, false, cond, ◌||◌, List, length, drop, ltb, eqb, leb, refl, arith}
use Rattle.std.proofs.lemmas.Bool.{ltb-false, ltb-true, eqb-true}
use Rattle.std.proofs.lemmas.List.{length-map, length-take}
use Rattle.std.specs.List.{list_any}
use Rattle.etx_matter.specs.Fonts.{opposite}
use Rattle.etx_matter.specs.declared.font.FontHeader.{FontHeader}
use Rattle.etx_tfm.specs.declared.lengths.Lengths.{Lengths}
use Rattle.etx_tfm.specs.declared.word.Word.{Word}
use Rattle.etx_tfm.specs.Lengths.{half_at, is_short, has_wrong_sizes, all_lengths, has_bad_codes, has_empty_table, character_count, total}
use Rattle.etx_tfm.specs.Tables.{tables_of, first_code, characters_in}
use Rattle.etx_tfm.specs.Words.{char_of}

pub neither : (a b : Bool) → (a || b) ≡ false → (a ≡ false) × (b ≡ false)
neither true b h = cc
neither false b h = (refl, h)

as_it_is : (b : Bool) → opposite b ≡ false → b ≡ true
as_it_is true h = refl
as_it_is false h = cc

pub record IsLong (bytes : List ℕ) : Type 0 where
  pub lengths : 24 ≤ length bytes
  pub file : 4 * half_at bytes 0 ≤ length bytes

pub long : (bytes : List ℕ) → is_short bytes ≡ false → IsLong bytes
unfolding is_short
long bytes h =
    let both = neither (ltb (length bytes) 24) (ltb (length bytes) (4 * half_at bytes 0)) h in
    record { lengths = ltb-false (length bytes) 24 both.0; file = ltb-false (length bytes) (4 * half_at bytes 0) both.1 }

pub record IsRight (n : Lengths) : Type 0 where
  pub whole : n.file ≡ total n
  pub order : n.first ≤ n.last + 1
  pub last : n.last ≤ 255

pub right : (n : Lengths) → has_wrong_sizes n ≡ false → IsRight n
unfolding has_wrong_sizes
right n h =
    let outer = neither (list_any (leb 32768) (all_lengths n) || has_bad_codes n || opposite (eqb n.file (total n))) (has_empty_table n) h in
    let middle = neither (list_any (leb 32768) (all_lengths n) || has_bad_codes n) (opposite (eqb n.file (total n))) outer.0 in
    let inner = neither (list_any (leb 32768) (all_lengths n)) (has_bad_codes n) middle.0 in
    let codes = neither (ltb (n.last + 1) n.first) (ltb 255 n.last) inner.1 in
    record {
      whole = eqb-true n.file (total n) (as_it_is (eqb n.file (total n)) middle.1);
      order = ltb-false (n.last + 1) n.first codes.0;
      last = ltb-false 255 n.last codes.1;
    }

pub holds_header : (bytes : List ℕ) (n : Lengths) → 4 * n.file ≤ length bytes → IsRight n → 2 ≤ n.header → 32 ≤ length bytes
holds_header bytes n h r k = omega (arith, r.whole)

codes_by : (b : Bool) (first last : ℕ) → ltb 255 first ≡ b → first ≤ last + 1 → last ≤ 255
    → cond b 1 first + (last + 1 - first) ≤ 256
codes_by true first last e order small = omega (arith, ltb-true 255 first e)
codes_by false first last e order small = omega arith

pub codes_small : (n : Lengths) → IsRight n → first_code n + character_count n ≤ 256
codes_small n r = codes_by (ltb 255 n.first) n.first n.last refl r.order r.last

pub table_small : (header : FontHeader) (words : List Word) (n : Lengths) → first_code n + character_count n ≤ 256
    → (tables_of header words n).first + length (tables_of header words n).characters ≤ 256
unfolding tables_of
table_small header words n h =
    omega (arith, length-map (characters_in words n) char_of, length-take (character_count n) (drop n.header words))
