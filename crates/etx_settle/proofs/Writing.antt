-- What a write of a file and the terminal makes of the outside.
use Rattle.etx_matter.specs.declared.deed.Audience.{Audience}
use Rattle.std.proofs.Common.{◌≡◌, ℕ, Bool, true, false, List, [], ◌∷◌, ◌++◌, length, arith, take, drop, refl, sym, ◌∙◌, ap, subst, map, nat_eq}
use Rattle.std.proofs.lemmas.List.{append-nil}
use Rattle.std.proofs.lemmas.Bool.{cases_Bool}
use Rattle.std.proofs.lemmas.Slice.Eq.{bytes_eq-Decides}
use Rattle.std.specs.Cmp.Lexicographic.{pointwise}
use mathlib.Core.Logic.{inl, inr}
use mathlib.Core.Bool.{true≢false, ◌||◌}
use Rattle.etx_outside.specs.Entries.{Files, Entry, Byte, Shown, History, files_after, said, asked_in, shown, bytes_to}
use Rattle.etx_outside.specs.Outside.{Outside, outside_of, after, Front}
use Rattle.etx_outside.proofs.Fronts.{map_parts}
use Rattle.etx_outside.proofs.Histories.{said-bytes_to, asked_in-bytes_to}
use Rattle.etx_outside.proofs.Outsides.{after-nil, after-append, front_behind, front_longer, front_all, wrote, told}
use Rattle.etx_settle.specs.Deeds.{PenState, is_among, log_of, is_shown_to, to_file, written_by, text_written, entries_if, AllOpen}

silent : (created : List (List ℕ)) (name bytes : List ℕ) → said (to_file created name bytes) ≡ []
silent created name bytes = elim (is_among name created) as (λ b. said (entries_if b (bytes_to name bytes)) ≡ []) [ true ↦ said-bytes_to name bytes | false ↦ refl ]

asks_none : (created : List (List ℕ)) (name bytes : List ℕ) → asked_in (to_file created name bytes) ≡ []
asks_none created name bytes = elim (is_among name created) as (λ b. asked_in (entries_if b (bytes_to name bytes)) ≡ []) [ true ↦ asked_in-bytes_to name bytes | false ↦ refl ]

to_file_parts : (created : List (List ℕ)) (name bytes : List ℕ) (n : ℕ) → to_file created name (take n bytes) ++ to_file created name (drop n bytes) ≡ to_file created name bytes
to_file_parts created name bytes n =
    elim (is_among name created) as (λ b. entries_if b (bytes_to name (take n bytes)) ++ entries_if b (bytes_to name (drop n bytes)) ≡ entries_if b (bytes_to name bytes)) [
      | true ↦ map_parts (λ b. Byte name b) n bytes
      | false ↦ refl
    ]

module _ {F T : Type 0} (files : F → Files) (asked : F → List (List ℕ)) (text : T → List ℕ) (created : List (List ℕ)) (name bytes : List ℕ) where
  abbrev seen : F → T → Outside
  seen tree terminal = outside_of files asked text tree terminal

  -- a front of the file's part
  pub front_of_file : (is_shown : Bool) (n : ℕ) (old new : F) (terminal : T) → files new ≡ files_after (to_file created name (take n bytes)) (files old) → asked new ≡ asked old → Front (written_by created name bytes is_shown) (seen old terminal) (seen new terminal)
  front_of_file is_shown n old new terminal is same =
      front_longer _ (record {
        written = to_file created name (take n bytes);
        rest = to_file created name (drop n bytes);
        parts = to_file_parts created name bytes n;
        now = wrote files asked text (to_file created name (take n bytes)) old new terminal (silent created name (take n bytes)) (asks_none created name (take n bytes)) is same;
      })

  -- the file's part, and no other
  pub whole_of_file : (is_shown : Bool) (old new : F) (terminal : T) → is_shown ≡ false → files new ≡ files_after (to_file created name bytes) (files old) → asked new ≡ asked old → seen new terminal ≡ after (written_by created name bytes is_shown) (seen old terminal)
  whole_of_file is_shown old new terminal unshown is same =
      wrote files asked text (to_file created name bytes) old new terminal (silent created name bytes) (asks_none created name bytes) is same
      ∙ ap (λ (h : History). after h (seen old terminal)) (sym (ap (λ b. to_file created name bytes ++ entries_if b (shown bytes)) unshown ∙ append-nil (to_file created name bytes)))

  -- the file's part, and n bytes on the terminal
  pub front_of_both : (is_shown : Bool) (n : ℕ) (old new : F) (before now : T) → is_shown ≡ true → files new ≡ files_after (to_file created name bytes) (files old) → asked new ≡ asked old → text now ≡ text before ++ take n bytes → Front (written_by created name bytes is_shown) (seen old before) (seen new now)
  front_of_both is_shown n old new before now yes_it is same says =
      let first = wrote files asked text (to_file created name bytes) old new before (silent created name bytes) (asks_none created name bytes) is same in
      subst
      (λ b. Front (written_by created name bytes b) (seen old before) (seen new now))
      (sym yes_it)
      (front_behind (to_file created name bytes) first (record {
        written = shown (take n bytes);
        rest = shown (drop n bytes);
        parts = map_parts (λ b. Shown b) n bytes;
        now = told files asked text (take n bytes) new before now says;
      }))

  pub whole_of_both : (is_shown : Bool) (old new : F) (before now : T) → is_shown ≡ true → files new ≡ files_after (to_file created name bytes) (files old) → asked new ≡ asked old → text now ≡ text before ++ bytes → seen new now ≡ after (written_by created name bytes is_shown) (seen old before)
  whole_of_both is_shown old new before now yes_it is same says =
      let first = wrote files asked text (to_file created name bytes) old new before (silent created name bytes) (asks_none created name bytes) is same in
      told files asked text bytes new before now says
      ∙ ap (after (shown bytes)) first
      ∙ sym (after-append (to_file created name bytes) (shown bytes) (seen old before))
      ∙ ap (λ b. after (written_by created name bytes b) (seen old before)) (sym yes_it)

-- names that are open, and one more
pub all_open_more : (is_open : List ℕ → Type 0) (names : List (List ℕ)) (name : List ℕ) → AllOpen is_open names → is_open name → AllOpen is_open (names ++ name ∷ [])
all_open_more is_open [] name old new q is = elim (cases_Bool (pointwise nat_eq name q)) [
  | inl same ↦ subst is_open ((bytes_eq-Decides name q).0 same) new
  | inr other ↦ absurd (true≢false (sym is ∙ ap (λ b. b || false) other))
]
all_open_more is_open (n ∷ names) name old new q is = elim (cases_Bool (pointwise nat_eq n q)) [
  | inl same ↦ old q (ap (λ b. b || is_among q names) same)
  | inr other ↦ all_open_more is_open names name (λ p among. old p (or_right (pointwise nat_eq n p) (is_among p names) among)) new q (sym (ap (λ b. b || is_among q (names ++ name ∷ [])) other) ∙ is)
]
  where
    or_right : (a b : Bool) → b ≡ true → (a || b) ≡ true
    or_right true b h = refl
    or_right false b h = h

-- an empty text is no entries
pub entries-empty : (p : PenState) (text : List ℕ) (who : Audience) → length text ≡ 0 → (text_written p text who).entries ≡ []
unfolding text_written
entries-empty p [] who none = by (is_among (log_of p.created) p.created) (is_shown_to who)
  where
    by : (a b : Bool) → entries_if a [] ++ entries_if b [] ≡ []
    by true true = refl
    by true false = refl
    by false true = refl
    by false false = refl
entries-empty p (b ∷ text) who some = absurd (omega (arith, some))
