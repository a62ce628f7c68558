-- The nodes of a reading are no discretionaries, and without its own a rebuilt word is the unbroken one.
use Rattle.std.proofs.Common.{◌≡◌, ℕ, ◌+◌, ◌-◌, Bool, true, false, List, [], ◌∷◌, ◌++◌, take, drop, Option, None, Some, refl, sym, subst, ap, ◌∙◌, append_assoc, arith}
use Rattle.std.proofs.lemmas.List.{take-append-drop}
use Rattle.etx_matter.specs.declared.node.Node.{Node, Node-F, out-roll-Node}
use Rattle.etx_matter.specs.declared.node.LigParts.{LigParts}
use Rattle.etx_matter.specs.declared.node.KernKind.TheVariants as kern
use Rattle.etx_matter.specs.Fonts.{FontState}
use Rattle.etx_pack.specs.Packs.{inner}
use Rattle.etx_sealed.specs.declared.params.ParParams.{ParParams}
use Rattle.etx_sealed.specs.Breaks.{is_hyphen}
use Rattle.etx_tfm.specs.declared.piece.Neighbour.{Neighbour}
use Rattle.etx_tfm.specs.declared.reading.Reading.{Reading}
use Rattle.etx_tfm.specs.Machine.{char_of, lig_of, size_of, number_at, kern_of}
use Rattle.etx_hyphen.specs.declared.cuts.Cut.{Cut}
use Rattle.etx_hyphen.specs.declared.walk.Walk.{Walk}
use Rattle.etx_hyphen.specs.Cuts.{IsReading}
use Rattle.etx_hyphen.specs.Laws.{unless, without_discs, IsRead, AreRead, StaysUnbroken}
use Rattle.etx_hyphen.specs.Laws as read
use Rattle.etx_hyphen.specs.Rebuilds.{replaced_by, disc_of, kept_from, with_discs}
use Rattle.etx_hyphen.specs.Words.{FoundWord, word_at, walk_behind}
use Rattle.etx_hyphen.specs.Hyphenations.{behind_word, IsRebuiltWord}
use Rattle.etx_hyphen.specs.Hyphenations as hyphenates
use Rattle.etx_hyphen.proofs.Made.{Holds, reading_holds}

-- how many discretionaries there are
one : Bool → ℕ
one true = 1
one false = 0

discs : List Node → ℕ
discs [] = 0
discs (node ∷ nodes) = one (is_hyphen node) + discs nodes

AreNone : List Node → Type 0
AreNone nodes = discs nodes ≡ 0

discs-append : (xs ys : List Node) → discs (xs ++ ys) ≡ discs xs + discs ys
unfolding discs
discs-append [] ys = omega arith
discs-append (x ∷ xs) ys = omega (arith, discs-append xs ys)

both_none : (xs ys : List Node) → AreNone xs → AreNone ys → AreNone (xs ++ ys)
unfolding AreNone
both_none xs ys h k = omega (arith, discs-append xs ys, h, k)

front_none : (xs ys : List Node) → AreNone (xs ++ ys) → AreNone xs
unfolding AreNone
front_none xs ys h = omega (arith, discs-append xs ys, h)

back_none : (xs ys : List Node) → AreNone (xs ++ ys) → AreNone ys
unfolding AreNone
back_none xs ys h = omega (arith, discs-append xs ys, h)

none_none : AreNone []
unfolding AreNone discs
none_none = refl

alone_none : (node : Node) → is_hyphen node ≡ false → AreNone (node ∷ [])
unfolding AreNone discs one
alone_none node e = ap (λ (b : Bool). one b + 0) e

char_none : (font : FontState) (code : ℕ) → is_hyphen (char_of font code) ≡ false
unfolding is_hyphen
char_none font code = rw (out-roll-Node (Node-F.Char font.number code (size_of font.info code))) refl

lig_none : (font : FontState) (code : ℕ) (parts : LigParts) → is_hyphen (lig_of font code parts) ≡ false
unfolding is_hyphen
lig_none font code parts = rw (out-roll-Node (Node-F.Lig font.number code (size_of font.info code) parts)) refl

kern_none : (font : FontState) (place : ℕ) → is_hyphen (kern_of font place) ≡ false
unfolding is_hyphen
kern_none font place = rw (out-roll-Node (Node-F.Kern (number_at font.info.kerns place) kern.Normal)) refl

disc_is : (cut : Cut) → is_hyphen (disc_of cut) ≡ true
unfolding is_hyphen disc_of
disc_is cut = rw (out-roll-Node (Node-F.Disc (record { pre = inner cut.pre; post = inner cut.post; replaces = replaced_by cut }))) refl

none_holds : Holds AreNone
none_holds = record {
  none = none_none;
  both = both_none;
  char = λ font code. alone_none (char_of font code) (char_none font code);
  lig = λ font code parts. alone_none (lig_of font code parts) (lig_none font code parts);
  kern = λ font place. alone_none (kern_of font place) (kern_none font place);
}

drop_none : (n : ℕ) (nodes : List Node) → AreNone nodes → AreNone (drop n nodes)
drop_none n nodes h = back_none (take n nodes) (drop n nodes) (subst AreNone (sym (take-append-drop n nodes)) h)

take_none : (n : ℕ) (nodes : List Node) → AreNone nodes → AreNone (take n nodes)
take_none n nodes h = front_none (take n nodes) (drop n nodes) (subst AreNone (sym (take-append-drop n nodes)) h)

without-append : (xs ys : List Node) → without_discs (xs ++ ys) ≡ without_discs xs ++ without_discs ys
unfolding without_discs
without-append [] ys = refl
without-append (x ∷ xs) ys =
    ap (λ (it : List Node). unless (is_hyphen x) x ++ it) (without-append xs ys) ∙ sym (append_assoc (unless (is_hyphen x) x) (without_discs xs) (without_discs ys))

-- a list without discretionaries stays as it is
stays_by : (b : Bool) (node : Node) (nodes : List Node) → one b ≡ 0 → unless b node ++ nodes ≡ node ∷ nodes
unfolding one
stays_by true node nodes h = absurd (omega (arith, h))
stays_by false node nodes h = refl

without-none : (nodes : List Node) → AreNone nodes → without_discs nodes ≡ nodes
unfolding AreNone discs without_discs
without-none [] h = refl
without-none (node ∷ nodes) h =
    let here : one (is_hyphen node) ≡ 0 = omega (arith, h) in
    let behind : discs nodes ≡ 0 = omega (arith, h) in
    ap (λ (it : List Node). unless (is_hyphen node) node ++ it) (without-none nodes behind) ∙ stays_by (is_hyphen node) node nodes here

without-disc : (cut : Cut) (nodes : List Node) → without_discs (disc_of cut ∷ nodes) ≡ without_discs nodes
unfolding without_discs
without-disc cut nodes = ap (λ (b : Bool). unless b (disc_of cut) ++ without_discs nodes) (disc_is cut)

-- the discretionaries are all that was added
without-cuts : (at : ℕ) (cuts : List Cut) (nodes : List Node) → AreNone nodes → without_discs (with_discs at cuts nodes) ≡ nodes
unfolding with_discs
without-cuts at [] nodes h = without-none nodes h
without-cuts at (cut ∷ cuts) nodes h =
    let n = cut.start.unbroken - at in
    let behind = with_discs cut.start.unbroken cuts (drop n nodes) in
    without-append (take n nodes) (disc_of cut ∷ behind)
    ∙ ap (λ (it : List Node). it ++ without_discs (disc_of cut ∷ behind)) (without-none (take n nodes) (take_none n nodes h))
    ∙ ap (λ (it : List Node). take n nodes ++ it) (without-disc cut behind ∙ without-cuts cut.start.unbroken cuts (drop n nodes) (drop_none n nodes h))
    ∙ take-append-drop n nodes

reading_none : (font : FontState) (chars : List ℕ) (left right : Neighbour) (reading : Reading) → IsReading font chars left right reading → AreNone reading.nodes
reading_none font chars left right reading r = reading_holds AreNone none_holds font chars left right reading r

-- a rebuilt word whose items are what its font makes of it
word_unbroken : (word : FoundWord) (list nodes : List Node) → IsRebuiltWord word nodes → IsRead word list → without_discs nodes ≡ without_discs (take word.count list)
word_unbroken word list nodes it is =
    let none = reading_none word.font word.letters word.ends.left word.ends.right it.unbroken it.reads in
    ap without_discs it.is ∙ without-cuts 0 (kept_from 0 it.cuts) it.unbroken.nodes none
    ∙ sym (without-none it.unbroken.nodes none) ∙ ap without_discs (is it.unbroken it.reads)

some_none : (word : FoundWord) (o : Option FoundWord) → o ≡ None → o ≡ Some word → ⊥
some_none word o e f =
    let g : None ≡ Some word = sym e ∙ f in
    absurd (cc)

no_word : (p : ParParams) (walk : Walk) (word : FoundWord) → word_at p walk [] ≡ Some word → ⊥
unfolding word_at
no_word p walk word e = absurd (cc)

same_word : (word word' : FoundWord) (o : Option FoundWord) → o ≡ Some word → o ≡ Some word' → word ≡ word'
same_word word word' o e f =
    let g : Some word ≡ Some word' = sym e ∙ f in
    cc

without-first : (node : Node) (xs ys : List Node) → without_discs xs ≡ without_discs ys → without_discs (node ∷ xs) ≡ without_discs (node ∷ ys)
unfolding without_discs
without-first node xs ys e = ap (λ (it : List Node). unless (is_hyphen node) node ++ it) e

pub stays_unbroken : (p : ParParams) → StaysUnbroken p
stays_unbroken p walk list nodes r hyphenates.over = refl
stays_unbroken p walk list nodes (read.stays none' r) (hyphenates.stays {node = node} {nodes = more} {rest = rest} none h) =
    without-first node rest more (stays_unbroken p (walk_behind p walk node) more rest r h)
stays_unbroken p walk list nodes (read.found {word = word} some is r) (hyphenates.stays {node = node} {nodes = more} {rest = rest} none h) =
    absurd (some_none word (word_at p walk (node ∷ more)) none some)
stays_unbroken p walk list nodes read.over (hyphenates.rebuilt {word = word} some it h) = absurd (no_word p walk word some)
stays_unbroken p walk list nodes (read.stays {node = node} {nodes = more} none r) (hyphenates.rebuilt {word = word} some it h) =
    absurd (some_none word (word_at p walk (node ∷ more)) none some)
stays_unbroken p walk list nodes (read.found {word = word'} some' is r) (hyphenates.rebuilt {word_nodes = word_nodes} {rest = rest} {word = word} some it h) =
    let same : word' ≡ word = same_word word' word (word_at p walk list) some' some in
    let is_read : IsRead word list = subst (λ (w : FoundWord). IsRead w list) same is in
    let behind : AreRead p (behind_word walk) (drop word.count list) = subst (λ (w : FoundWord). AreRead p (behind_word walk) (drop w.count list)) same r in
    without-append word_nodes rest
    ∙ ap (λ (xs : List Node). xs ++ without_discs rest) (word_unbroken word list word_nodes it is_read)
    ∙ ap (λ (xs : List Node). without_discs (take word.count list) ++ xs) (stays_unbroken p (behind_word walk) (drop word.count list) rest behind h)
    ∙ sym (without-append (take word.count list) (drop word.count list))
    ∙ ap without_discs (take-append-drop word.count list)
