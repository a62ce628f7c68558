-- A pair at work, and those that wait for it, each for the one before it.
use Rattle.std.proofs.Common.{◌≡◌, ℕ, zero, suc, ◌+◌, ◌-◌, ◌*◌, ◌<◌, ◌≤◌, true, false, ltb, List, [], ◌∷◌, length, drop, set, replicate, slice_get, Option, None, Some, refl, sym, ap, subst, ◌∙◌, inl, inr, arith}
use Rattle.std.specs.Option.{is_none}
use Rattle.std.proofs.lemmas.List.{length-set, length-replicate}
use Rattle.std.proofs.lemmas.Bool.{cases_eq, cases_lt, lt-ltb, le-ltb}
use Rattle.std.proofs.lemmas.Option.{slice_get_within}
use Rattle.std.proofs.Math.Nat.{add-zero}
use Rattle.etx_matter.specs.declared.font.FontInfo.{FontInfo}
use Rattle.etx_matter.specs.declared.font.LigItem.{LigItem}
use Rattle.etx_matter.specs.Ligatures.{last}
use Rattle.etx_tfm.specs.declared.pairs.End.{End}
use Rattle.etx_tfm.specs.Pairs.{nothing_known, left_of, right_of, IsEnd, IsKnown, IsTable, IsFound, IsWaiting, Leads}
use Rattle.etx_tfm.proofs.Knowing.{last-zero}

-- what the pair at a place comes to
abbrev pub end_of : FontInfo → ℕ → ℕ → Option LigItem
end_of font depth place = last font depth (left_of place) (right_of place)

-- each waits for the one before it, and the last one is the one that was asked for
unfoldable pub Chain : FontInfo → ℕ → ℕ → List ℕ → Type 0
Chain font start top [] = top ≡ start
Chain font start top (outer ∷ waiting) = Leads font outer top × Chain font start outer waiting

unfoldable pub EachUnknown : List (Option End) → List ℕ → Type 0
EachUnknown known [] = Unit {0}
EachUnknown known (place ∷ waiting) = (slice_get known place ≡ Some None) × EachUnknown known waiting

-- how many pairs aren't known
unfoldable pub unknown_count : List (Option End) → ℕ
unknown_count [] = 0
unknown_count (None ∷ known) = suc (unknown_count known)
unknown_count (Some end ∷ known) = unknown_count known

pub record IsWalk (font : FontInfo) (depth start top : ℕ) (waiting : List ℕ) (known : List (Option End)) : Type 0 where
  pub table : IsTable font known
  pub within : top < 66_049
  pub unknown : slice_get known top ≡ Some None
  pub others : EachUnknown known waiting
  pub chain : Chain font start top waiting
  pub height : length waiting ≤ depth

-- the work that is left
abbrev pub left_over : List (Option End) → List ℕ → ℕ
left_over known waiting = unknown_count known * 66_051 + (66_049 - length waiting)

get-set_same : {X : Type 0} (xs : List X) (i : ℕ) (x y : X) → slice_get xs i ≡ Some x → slice_get (set xs i y) i ≡ Some y
get-set_same [] zero x y e = absurd (cc)
get-set_same [] (suc i) x y e = absurd (cc)
get-set_same (z ∷ xs) zero x y e = refl
get-set_same (z ∷ xs) (suc i) x y e = get-set_same xs i x y e

get-set_other : {X : Type 0} (xs : List X) (i j : ℕ) (y : X) → (j ≡ i → ⊥) → slice_get (set xs i y) j ≡ slice_get xs j
get-set_other [] zero j y h = refl
get-set_other [] (suc i) j y h = refl
get-set_other (z ∷ xs) zero zero y h = absurd (h refl)
get-set_other (z ∷ xs) zero (suc j) y h = refl
get-set_other (z ∷ xs) (suc i) zero y h = refl
get-set_other (z ∷ xs) (suc i) (suc j) y h = get-set_other xs i j y (λ e. h (ap suc e))

count-set : (known : List (Option End)) (i : ℕ) (end : End) → slice_get known i ≡ Some None
    → unknown_count known ≡ suc (unknown_count (set known i (Some end)))
unfolding unknown_count
count-set [] zero end e = absurd (cc)
count-set [] (suc i) end e = absurd (cc)
count-set (None ∷ known) zero end e = refl
count-set (Some x ∷ known) zero end e = absurd (cc)
count-set (None ∷ known) (suc i) end e = ap suc (count-set known i end e)
count-set (Some x ∷ known) (suc i) end e = count-set known i end e

-- where the pair at work isn't found, neither is the one that was asked for
climb : (font : FontInfo) (start top : ℕ) (waiting : List ℕ) (depth : ℕ) → Chain font start top waiting
    → end_of font depth top ≡ None → end_of font (depth + length waiting) start ≡ None
unfolding Chain
climb font start top [] depth c h =
    let e : depth + 0 ≡ depth = omega arith in
    rw (e, ← c) h
climb font start top (outer ∷ waiting) depth c h =
    let e : depth + suc (length waiting) ≡ depth + 1 + length waiting = omega arith in
    rw e (climb font start outer waiting (depth + 1) c.1 (c.0 depth h))

-- a pair that is found has a depth, and doesn't wait for itself
positive : (font : FontInfo) (top : ℕ) (end : End) → IsEnd font (left_of top) (right_of top) end → 0 < end.depth
positive font top end k =
    elim (cases_eq end.depth 0) [
      | inl none ↦
          let e : Some end.item ≡ None = sym (k.found 0 (omega (arith, none))) ∙ last-zero font (left_of top) (right_of top) in
          absurd (cc)
      | inr some ↦ omega (arith, some)
    ]

apart : (font : FontInfo) (top outer : ℕ) (above : ℕ) (end : End) → IsEnd font (left_of top) (right_of top) end
    → ((depth : ℕ) → end_of font depth top ≡ None → end_of font (depth + suc above) outer ≡ None) → outer ≡ top → ⊥
apart font top outer above end k climbs same =
    let low : end.depth - 1 < end.depth = omega (arith, positive font top end k) in
    let none : end_of font (end.depth - 1 + suc above) outer ≡ None = climbs (end.depth - 1) (k.hidden (end.depth - 1) low) in
    let here : end_of font (end.depth - 1 + suc above) top ≡ None = subst (λ place. end_of font (end.depth - 1 + suc above) place ≡ None) same none in
    let e : Some end.item ≡ None = sym (k.found (end.depth - 1 + suc above) (omega arith)) ∙ here in
    absurd (cc)

onward : (font : FontInfo) (outer place depth above : ℕ) → Leads font outer place → end_of font (depth + above) place ≡ None
    → end_of font (depth + suc above) outer ≡ None
onward font outer place depth above leads h =
    let e : depth + suc above ≡ depth + above + 1 = omega arith in
    rw e (leads (depth + above) h)

-- so those that wait stay unknown when it is noted
stay : (font : FontInfo) (start top place above : ℕ) (waiting : List ℕ) (known : List (Option End)) (end : End)
    → IsEnd font (left_of top) (right_of top) end → Chain font start place waiting
    → ((depth : ℕ) → end_of font depth top ≡ None → end_of font (depth + above) place ≡ None)
    → EachUnknown known waiting → EachUnknown (set known top (Some end)) waiting
unfolding Chain EachUnknown
stay font start top place above [] known end k c climbs u = tt
stay font start top place above (outer ∷ waiting) known end k c climbs u =
    let next : (depth : ℕ) → end_of font depth top ≡ None → end_of font (depth + suc above) outer ≡ None =
    λ depth h. onward font outer place depth above c.0 (climbs depth h) in (
      get-set_other known top outer (Some end) (apart font top outer above end k next) ∙ u.0,
      stay font start top outer (suc above) waiting known end k c.1 next u.1,
    )

-- at first nothing is known
none_noted : (count place : ℕ) (end : End) → slice_get (replicate count None) place ≡ Some (Some end) → ⊥
none_noted zero zero end e = cc
none_noted zero (suc place) end e = cc
none_noted (suc count) zero end e = cc
none_noted (suc count) (suc place) end e = none_noted count place end e

pub table_first : (font : FontInfo) (count : ℕ) → count ≡ 66_049 → IsTable font (nothing_known count)
unfolding nothing_known
table_first font count h = record {
  size = length-replicate count None ∙ h;
  ends = λ place end e. absurd (none_noted count place end e);
}

-- the pair that was asked for is at work, and none waits
pub begun : (font : FontInfo) (depth start : ℕ) (known : List (Option End)) → IsTable font known → start < 66_049 → slice_get known start ≡ Some None
    → IsWalk font depth start start [] known
unfolding Chain EachUnknown
begun font depth start known table within unknown = record {
  table = table;
  within = within;
  unknown = unknown;
  others = tt;
  chain = refl;
  height = omega arith;
}

-- a pair waits for another
pub pushed : (font : FontInfo) (depth start top inner : ℕ) (waiting : List ℕ) (known : List (Option End)) → IsWalk font depth start top waiting known
    → IsWaiting font known top inner → length waiting < depth → IsWalk font depth start inner (top ∷ waiting) known
unfolding Chain EachUnknown
pushed font depth start top inner waiting known w wait low = record {
  table = w.table;
  within = wait.within;
  unknown = wait.unknown;
  others = (w.unknown, w.others);
  chain = (wait.leads, w.chain);
  height = omega (arith, low);
}

-- a pair is noted
found_where : (font : FontInfo) (known : List (Option End)) (top : ℕ) (end : End) → IsTable font known → slice_get known top ≡ Some None
    → IsFound font top end → end.depth ≤ 66_049 → (place : ℕ) (other : End) → slice_get (set known top (Some end)) place ≡ Some (Some other) → IsKnown font place other
found_where font known top end table unknown found small place other e =
    elim (cases_eq place top) [
      | inl same ↦
          let here : slice_get (set known top (Some end)) place ≡ Some (Some end) =
          ap (λ n. slice_get (set known top (Some end)) n) same ∙ get-set_same known top None (Some end) unknown in
          let both : other ≡ end = cc in
          rw (same, both) (record { small = small; ends = found.ends })
      | inr away ↦ table.ends place other (sym (get-set_other known top place (Some end) away) ∙ e)
    ]

pub noted : (font : FontInfo) (known : List (Option End)) (top : ℕ) (end : End) → IsTable font known → slice_get known top ≡ Some None
    → IsFound font top end → end.depth ≤ 66_049 → IsTable font (set known top (Some end))
noted font known top end table unknown found small = record {
  size = length-set known top (Some end) ∙ table.size;
  ends = found_where font known top end table unknown found small;
}

-- the one that waited for it is at work again
pub popped : (font : FontInfo) (depth start top outer : ℕ) (waiting : List ℕ) (known : List (Option End)) (end : End)
    → IsWalk font depth start top (outer ∷ waiting) known → IsFound font top end → end.depth ≤ 66_049
    → IsWalk font depth start outer waiting (set known top (Some end))
unfolding Chain EachUnknown
popped font depth start top outer waiting known end w found small =
    let table : IsTable font (set known top (Some end)) = noted font known top end w.table w.unknown found small in
    let others : EachUnknown (set known top (Some end)) (outer ∷ waiting) =
    stay font start top top 0 (outer ∷ waiting) known end found.ends w.chain (λ depth h. rw add-zero h) w.others in
    record {
      table = table;
      within = omega (arith, slice_get_within known outer None w.others.0, w.table.size);
      unknown = others.0;
      others = others.1;
      chain = w.chain.1;
      height = omega (arith, w.height);
    }

none_is : (o : Option LigItem) → o ≡ None → is_none o ≡ true
none_is o e = rw e refl

some_is : (o : Option LigItem) (item : LigItem) → o ≡ Some item → is_none o ≡ false
some_is o item e = rw e refl

-- as many wait as may: the pair that was asked for isn't found
pub open_below : (font : FontInfo) (depth start top : ℕ) (waiting : List ℕ) (known : List (Option End)) → IsWalk font depth start top waiting known
    → depth ≤ length waiting → is_none (end_of font depth start) ≡ true
open_below font depth start top waiting known w high =
    let e : 0 + length waiting ≡ depth = omega (arith, w.height) in
    none_is (end_of font depth start) (rw e at (climb font start top waiting 0 w.chain (last-zero font (left_of top) (right_of top))))

-- the pair at work is found too deep
pub open_deep : (font : FontInfo) (depth start top : ℕ) (waiting : List ℕ) (known : List (Option End)) (end : End) → IsWalk font depth start top waiting known
    → IsFound font top end → depth < end.depth → is_none (end_of font depth start) ≡ true
open_deep font depth start top waiting known end w found deep =
    let e : depth - length waiting + length waiting ≡ depth = omega (arith, w.height) in
    let low : depth - length waiting < end.depth = omega (arith, deep) in
    none_is (end_of font depth start) (rw e at (climb font start top waiting (depth - length waiting) w.chain (found.ends.hidden (depth - length waiting) low)))

-- the pair that was asked for is found
pub found_last : (font : FontInfo) (depth start top : ℕ) (waiting : List ℕ) (known : List (Option End)) (end : End) → IsWalk font depth start top waiting known
    → waiting ≡ [] → IsFound font top end → end.depth ≤ depth → is_none (end_of font depth start) ≡ false
unfolding Chain
found_last font depth start top [] known end w none found low =
    some_is (end_of font depth start) end.item (rw (← w.chain) (found.ends.found depth low))
found_last font depth start top (outer ∷ waiting) known end w none found low = absurd (cc)

-- a pair that is known already
pub known_already : (font : FontInfo) (depth place : ℕ) (end : End) (known : List (Option End)) → IsTable font known → slice_get known place ≡ Some (Some end)
    → is_none (end_of font depth place) ≡ ltb depth end.depth
known_already font depth place end known table e =
    elim (cases_lt depth end.depth) [
      | inl low ↦ none_is (end_of font depth place) ((table.ends place end e).ends.hidden depth low) ∙ sym (lt-ltb depth end.depth low)
      | inr high ↦ some_is (end_of font depth place) end.item ((table.ends place end e).ends.found depth high) ∙ sym (le-ltb depth end.depth high)
    ]

-- each move leaves less work
pub falls_pushed : (top depth : ℕ) (waiting : List ℕ) (known : List (Option End)) → length waiting < depth → depth ≤ 66_049
    → left_over known (top ∷ waiting) < left_over known waiting
falls_pushed top depth waiting known low bound = omega arith

pub falls_noted : (top outer : ℕ) (end : End) (waiting : List ℕ) (known : List (Option End)) → slice_get known top ≡ Some None
    → left_over (set known top (Some end)) waiting < left_over known (outer ∷ waiting)
falls_noted top outer end waiting known e = omega (arith, count-set known top end e)

-- none waits where none could be taken
longer : (x : ℕ) (xs : List ℕ) → x ∷ xs ≡ xs → ⊥
longer x xs e = omega (arith, ap length e)

pub nothing_left : (xs ys : List ℕ) → xs ≡ ys → ys ≡ drop 1 xs → xs ≡ []
nothing_left [] ys e k = refl
nothing_left (x ∷ xs) ys e k = absurd (longer x xs (e ∙ k))
