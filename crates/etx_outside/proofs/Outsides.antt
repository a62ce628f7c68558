-- How the outside goes on.
use Rattle.std.proofs.Common.{◌≡◌, ℕ, List, [], ◌∷◌, ◌++◌, refl, sym, ◌∙◌, ap, append_assoc}
use Rattle.std.proofs.lemmas.List.{append-nil}
use Rattle.etx_outside.specs.Entries.{Files, Asked, Made, History, files_after, said, asked_in, shown}
use Rattle.etx_outside.specs.Outside.{Outside, outside_of, after, Front}
use Rattle.etx_outside.proofs.Fronts.{said-shown}
use Rattle.etx_outside.proofs.Histories.{files_after-append, said-append, asked_in-append, files_after-shown, asked_in-shown}

pub after-nil : (o : Outside) → after [] o ≡ o
unfolding after
after-nil o = λ i. record { files = o.files; asked = append-nil o.asked i; text = append-nil o.text i }

on_append : {A : Type 0} (start xs ys whole : List A) → whole ≡ xs ++ ys → start ++ whole ≡ (start ++ xs) ++ ys
on_append start xs ys whole is = ap (λ (l : List _). start ++ l) is ∙ sym (append_assoc start xs ys)

pub after-append : (g h : History) (o : Outside) → after (g ++ h) o ≡ after h (after g o)
unfolding after
after-append g h o =
    let text = on_append o.text (said g) (said h) (said (g ++ h)) (said-append g h) in
    let asked = on_append o.asked (asked_in g) (asked_in h) (asked_in (g ++ h)) (asked_in-append g h) in
    λ i. record { files = files_after-append g h o.files i; asked = asked i; text = text i }

-- a front of what comes behind
pub front_behind : (g : History) {h : History} {old mid new : Outside} → mid ≡ after g old → Front h mid new → Front (g ++ h) old new
front_behind g {h} {old} {mid} {new} first f = record {
  written = g ++ f.written;
  rest = f.rest;
  parts = append_assoc g f.written f.rest ∙ ap (λ (l : History). g ++ l) f.parts;
  now = f.now ∙ ap (after f.written) first ∙ sym (after-append g f.written old);
}

-- a front of what comes first
pub front_longer : {g : History} {old new : Outside} (h : History) → Front g old new → Front (g ++ h) old new
front_longer {g} h f = record {
  written = f.written;
  rest = f.rest ++ h;
  parts = sym (append_assoc f.written f.rest h) ∙ ap (λ (l : History). l ++ h) f.parts;
  now = f.now;
}

pub front_none : {old new : Outside} (h : History) → new ≡ old → Front h old new
front_none {old} h same = record { written = []; rest = h; parts = refl; now = same ∙ sym (after-nil old) }

pub front_all : {old new : Outside} {h : History} → new ≡ after h old → Front h old new
front_all {old} {new} {h} now = record { written = h; rest = []; parts = append-nil h; now = now }

module _ {F T : Type 0} (files : F → Files) (asked : F → List (List ℕ)) (text : T → List ℕ) where
  abbrev seen : F → T → Outside
  seen tree terminal = outside_of files asked text tree terminal

  unchanged : {A : Type 0} (start more : List A) → more ≡ [] → start ≡ start ++ more
  unchanged start more none = sym (append-nil start) ∙ ap (λ (l : List _). start ++ l) (sym none)

  -- entries that say nothing and ask for nothing were written
  pub wrote : (h : History) (old new : F) (terminal : T) → said h ≡ [] → asked_in h ≡ [] → files new ≡ files_after h (files old) → asked new ≡ asked old → seen new terminal ≡ after h (seen old terminal)
  unfolding outside_of after
  wrote h old new terminal silent asks_none is same =
      let names = same ∙ unchanged (asked old) (asked_in h) asks_none in
      let unsaid = unchanged (text terminal) (said h) silent in
      λ i. record { files = is i; asked = names i; text = unsaid i }

  -- a file was made
  pub made : (name : List ℕ) (old new : F) (terminal : T) → files new ≡ files_after (Made name ∷ []) (files old) → asked new ≡ asked old → seen new terminal ≡ after (Made name ∷ []) (seen old terminal)
  made name old new terminal is same = wrote (Made name ∷ []) old new terminal refl refl is same

  -- nothing was written
  pub kept : (old new : F) (terminal : T) → files new ≡ files old → asked new ≡ asked old → seen new terminal ≡ seen old terminal
  unfolding outside_of
  kept old new terminal is same = λ i. record { files = is i; asked = same i; text = text terminal }

  -- a name was asked for
  pub asked_for : (name : List ℕ) (old new : F) (terminal : T) → files new ≡ files old → asked new ≡ asked old ++ name ∷ [] → seen new terminal ≡ after (Asked name ∷ []) (seen old terminal)
  unfolding outside_of after
  asked_for name old new terminal is grew =
      let unsaid = unchanged (text terminal) [] refl in
      λ i. record { files = is i; asked = grew i; text = unsaid i }

  -- bytes were shown
  pub told : (bytes : List ℕ) (tree : F) (old new : T) → text new ≡ text old ++ bytes → seen tree new ≡ after (shown bytes) (seen tree old)
  unfolding outside_of after
  told bytes tree old new says =
      let grew : text new ≡ text old ++ said (shown bytes) = says ∙ ap (λ (l : List ℕ). text old ++ l) (sym (said-shown bytes)) in
      let names = unchanged (asked tree) (asked_in (shown bytes)) (asked_in-shown bytes) in
      λ i. record { files = sym (files_after-shown bytes (files tree)) i; asked = names i; text = grew i }
