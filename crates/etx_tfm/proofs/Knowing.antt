-- What two neighbours come to, one pair deeper, by the task that stands between them.
use Rattle.std.proofs.Common.{◌≡◌, ℕ, zero, suc, ◌+◌, ◌*◌, ◌<◌, ◌≤◌, max, true, false, List, slice_get, Option, None, Some, refl, ap, ◌∙◌, inl, inr, arith}
use Rattle.std.specs.Option.{option_and_then}
use Rattle.std.proofs.lemmas.Bool.{cases_lt}
use Rattle.std.proofs.lemmas.Nat.{div-mul-add, mod-mul-add}
use Rattle.etx_matter.specs.declared.font.PairAction.{PairAction}
use Rattle.etx_matter.specs.declared.font.PairAction.TheVariants.{Kern, Ligature}
use Rattle.etx_matter.specs.declared.font.FontInfo.{FontInfo}
use Rattle.etx_matter.specs.declared.font.LigItem.{LigItem}
use Rattle.etx_matter.specs.Ligatures.{action_between, by_pair, last}
use Rattle.etx_tfm.specs.declared.pairs.End.{End}
use Rattle.etx_tfm.specs.declared.pairs.Task.{Task}
use Rattle.etx_tfm.specs.declared.pairs.Task.TheVariants.{Here, Pair, Twice}
use Rattle.etx_tfm.specs.Pairs.{item_at, left_of, right_of, task_of, task_between, IsEnd, IsTable, IsFound, IsWaiting}

-- what two neighbours come to by a task; `find` says what further neighbours come to
abbrev pub by_task : (LigItem → LigItem → Option LigItem) → LigItem → LigItem → Task → Option LigItem
by_task find x y (Here z) = Some z
by_task find x y (Pair u v) = find u v
by_task find x y (Twice m) = option_and_then (λ end. find end y) (find x m)

by_task-same : (find : LigItem → LigItem → Option LigItem) (x y : LigItem) (action : Option PairAction)
    → by_pair find x y action ≡ by_task find x y (task_of x y action)
by_task-same find x y None = refl
by_task-same find x y (Some (Kern place)) = refl
by_task-same find x y (Some (Ligature code false false passes)) = refl
by_task-same find x y (Some (Ligature code true false zero)) = refl
by_task-same find x y (Some (Ligature code true false (suc passes))) = refl
by_task-same find x y (Some (Ligature code false true zero)) = refl
by_task-same find x y (Some (Ligature code false true (suc passes))) = refl
by_task-same find x y (Some (Ligature code true true zero)) = refl
by_task-same find x y (Some (Ligature code true true (suc zero))) = refl
by_task-same find x y (Some (Ligature code true true (suc (suc passes)))) = refl

pub last-zero : (font : FontInfo) (x y : LigItem) → last font 0 x y ≡ None
unfolding last
last-zero font x y = refl

pub last-suc : (font : FontInfo) (depth : ℕ) (x y : LigItem) → last font (suc depth) x y ≡ by_task (last font depth) x y (task_between font x y)
unfolding last task_between
last-suc font depth x y = by_task-same (last font depth) x y (action_between font x y)

-- one pair deeper, where the task is known
pub last-by : (font : FontInfo) (depth : ℕ) (x y : LigItem) (task : Task) → task_between font x y ≡ task
    → last font (suc depth) x y ≡ by_task (last font depth) x y task
last-by font depth x y task e = last-suc font depth x y ∙ ap (λ t. by_task (last font depth) x y t) e

here-found : (font : FontInfo) (x y z : LigItem) → task_between font x y ≡ Here z → (depth : ℕ) → 1 ≤ depth → last font depth x y ≡ Some z
here-found font x y z e zero h = absurd (omega (arith, h))
here-found font x y z e (suc depth) h = last-by font depth x y (Here z) e

here-hidden : (font : FontInfo) (x y : LigItem) (depth : ℕ) → depth < 1 → last font depth x y ≡ None
here-hidden font x y zero h = last-zero font x y
here-hidden font x y (suc depth) h = absurd (omega (arith, h))

pub ends_here : (font : FontInfo) (x y z : LigItem) → task_between font x y ≡ Here z → IsEnd font x y (record { item = z; depth = 1 })
ends_here font x y z e = record {
  found = here-found font x y z e;
  hidden = here-hidden font x y;
}

pair-found : (font : FontInfo) (x y u v : LigItem) (end : End) → task_between font x y ≡ Pair u v → IsEnd font u v end
    → (depth : ℕ) → end.depth + 1 ≤ depth → last font depth x y ≡ Some end.item
pair-found font x y u v end e k zero h = absurd (omega (arith, h))
pair-found font x y u v end e k (suc depth) h = last-by font depth x y (Pair u v) e ∙ k.found depth (omega (arith, h))

pair-hidden : (font : FontInfo) (x y u v : LigItem) (end : End) → task_between font x y ≡ Pair u v → IsEnd font u v end
    → (depth : ℕ) → depth < end.depth + 1 → last font depth x y ≡ None
pair-hidden font x y u v end e k zero h = last-zero font x y
pair-hidden font x y u v end e k (suc depth) h = last-by font depth x y (Pair u v) e ∙ k.hidden depth (omega (arith, h))

pub ends_pair : (font : FontInfo) (x y u v : LigItem) (end : End) → task_between font x y ≡ Pair u v → IsEnd font u v end
    → IsEnd font x y (record { item = end.item; depth = end.depth + 1 })
ends_pair font x y u v end e k = record {
  found = pair-found font x y u v end e k;
  hidden = pair-hidden font x y u v end e k;
}

-- where the first of two pairs is found
twice-first : (font : FontInfo) (x y m : LigItem) (first : End) (depth : ℕ) → task_between font x y ≡ Twice m → IsEnd font x m first
    → first.depth ≤ depth → last font (suc depth) x y ≡ last font depth first.item y
twice-first font x y m first depth e k h =
    last-by font depth x y (Twice m) e ∙ ap (λ o. option_and_then (λ end. last font depth end y) o) (k.found depth h)

twice-none : (font : FontInfo) (x y m : LigItem) (depth : ℕ) → task_between font x y ≡ Twice m → last font depth x m ≡ None
    → last font (suc depth) x y ≡ None
twice-none font x y m depth e h =
    last-by font depth x y (Twice m) e ∙ ap (λ o. option_and_then (λ end. last font depth end y) o) h

twice-found : (font : FontInfo) (x y m : LigItem) (first end : End) → task_between font x y ≡ Twice m → IsEnd font x m first → IsEnd font first.item y end
    → (depth : ℕ) → max first.depth end.depth + 1 ≤ depth → last font depth x y ≡ Some end.item
twice-found font x y m first end e k l zero h = absurd (omega (arith, h))
twice-found font x y m first end e k l (suc depth) h =
    twice-first font x y m first depth e k (omega (arith, h)) ∙ l.found depth (omega (arith, h))

twice-hidden : (font : FontInfo) (x y m : LigItem) (first end : End) → task_between font x y ≡ Twice m → IsEnd font x m first → IsEnd font first.item y end
    → (depth : ℕ) → depth < max first.depth end.depth + 1 → last font depth x y ≡ None
twice-hidden font x y m first end e k l zero h = last-zero font x y
twice-hidden font x y m first end e k l (suc depth) h =
    elim (cases_lt depth first.depth) [
      | inl low ↦ twice-none font x y m depth e (k.hidden depth low)
      | inr high ↦ twice-first font x y m first depth e k high ∙ l.hidden depth (omega (arith, h, high))
    ]

pub ends_twice : (font : FontInfo) (x y m : LigItem) (first end : End) → task_between font x y ≡ Twice m → IsEnd font x m first → IsEnd font first.item y end
    → IsEnd font x y (record { item = end.item; depth = max first.depth end.depth + 1 })
ends_twice font x y m first end e k l = record {
  found = twice-found font x y m first end e k l;
  hidden = twice-hidden font x y m first end e k l;
}

-- where a pair isn't found, neither is that which waits for it
more : (font : FontInfo) (x y : LigItem) (depth : ℕ) (o : Option LigItem) → last font (suc depth) x y ≡ o → last font (depth + 1) x y ≡ o
more font x y depth o h =
    let e : depth + 1 ≡ suc depth = omega arith in
    rw e h

pub waits_pair : (font : FontInfo) (x y u v : LigItem) → task_between font x y ≡ Pair u v
    → (depth : ℕ) → last font depth u v ≡ None → last font (depth + 1) x y ≡ None
waits_pair font x y u v e depth h = more font x y depth None (last-by font depth x y (Pair u v) e ∙ h)

pub waits_first : (font : FontInfo) (x y m : LigItem) → task_between font x y ≡ Twice m
    → (depth : ℕ) → last font depth x m ≡ None → last font (depth + 1) x y ≡ None
waits_first font x y m e depth h = more font x y depth None (twice-none font x y m depth e h)

pub waits_second : (font : FontInfo) (x y m : LigItem) (first : End) → task_between font x y ≡ Twice m → IsEnd font x m first
    → (depth : ℕ) → last font depth first.item y ≡ None → last font (depth + 1) x y ≡ None
waits_second font x y m first e k depth h =
    elim (cases_lt depth first.depth) [
      | inl low ↦ more font x y depth None (twice-none font x y m depth e (k.hidden depth low))
      | inr high ↦ more font x y depth None (twice-first font x y m first depth e k high ∙ h)
    ]

-- the place of a pair has its two
pub left_at : (a b : ℕ) (item : LigItem) → b ≤ 256 → item_at a ≡ item → left_of (a * 257 + b) ≡ item
unfolding left_of
left_at a b item h e = ap item_at (div-mul-add a 257 b (omega (arith, h))) ∙ e

pub right_at : (a b : ℕ) (item : LigItem) → b ≤ 256 → item_at b ≡ item → right_of (a * 257 + b) ≡ item
unfolding right_of
right_at a b item h e = ap item_at (mod-mul-add a 257 b (omega (arith, h))) ∙ e

-- what is seen of a pair, as the table has it
pub known_ends : (font : FontInfo) (known : List (Option End)) (place : ℕ) (end : End) (u v : LigItem) → IsTable font known
    → slice_get known place ≡ Some (Some end) → left_of place ≡ u → right_of place ≡ v → IsEnd font u v end
known_ends font known place end u v table e a b = rw (a, b) at (table.ends place end e).ends

pub found_at : (font : FontInfo) (place : ℕ) (x y : LigItem) (end : End) → x ≡ left_of place → y ≡ right_of place → end.depth ≤ 66_050
    → IsEnd font x y end → IsFound font place end
found_at font place x y end a b small ends = record { small = small; ends = rw (← a, ← b) ends }

pub waits_at : (font : FontInfo) (known : List (Option End)) (place inner : ℕ) (x y u v : LigItem) → x ≡ left_of place → y ≡ right_of place
    → inner < 66_049 → slice_get known inner ≡ Some None → left_of inner ≡ u → right_of inner ≡ v
    → ((depth : ℕ) → last font depth u v ≡ None → last font (depth + 1) x y ≡ None) → IsWaiting font known place inner
waits_at font known place inner x y u v a b within unknown left right leads = record {
  within = within;
  unknown = unknown;
  leads = λ depth h. rw (← a, ← b) (leads depth (rw (left, right) at h));
}
