-- What stays in a line and what moves out of it, of lists put together.
use Rattle.std.proofs.Common.{◌≡◌, ℕ, List, [], ◌∷◌, ◌++◌, Option, None, Some, refl, sym, ap, ◌∙◌, append_assoc}
use Rattle.std.proofs.lemmas.List.{append-nil}
use Rattle.etx_matter.specs.declared.node.Node.{Node}
use Rattle.etx_matter.specs.declared.glue.Glue.{Glue}
use Rattle.etx_sealed.specs.Breaks.{item_at}
use Rattle.etx_sealed.specs.Lines.{after_in, kept}
use Rattle.etx_sealed.specs.Paragraphs.{Paragraph, glue_node}
use Rattle.etx_setlines.specs.Items.{broken_in, left_side, line_items}
use Rattle.etx_setlines.specs.Moves.{staying_of, moving_of, staying, moving}

pub staying-append : (xs ys : List Node) → staying (xs ++ ys) ≡ staying xs ++ staying ys
unfolding staying
staying-append [] ys = refl
staying-append (x ∷ xs) ys = ap (λ (it : List Node). staying_of x ++ it) (staying-append xs ys) ∙ sym (append_assoc (staying_of x) (staying xs) (staying ys))

pub moving-append : (xs ys : List Node) → moving (xs ++ ys) ≡ moving xs ++ moving ys
unfolding moving
moving-append [] ys = refl
moving-append (x ∷ xs) ys = ap (λ (it : List Node). moving_of x ++ it) (moving-append xs ys) ∙ sym (append_assoc (moving_of x) (moving xs) (moving ys))

pub staying-alone : (x : Node) → staying (x ∷ []) ≡ staying_of x
unfolding staying
staying-alone x = append-nil (staying_of x)

pub moving-alone : (x : Node) → moving (x ∷ []) ≡ moving_of x
unfolding moving
moving-alone x = append-nil (moving_of x)

-- the five parts of a line
pub staying_parts : (a b c d : List Node) (e : Node) → staying (a ++ b ++ c ++ d ++ e ∷ []) ≡ staying a ++ staying b ++ staying c ++ staying d ++ staying_of e
staying_parts a b c d e =
    let one = staying-append a b in
    let two = staying-append (a ++ b) c in
    let three = staying-append (a ++ b ++ c) d in
    let four = staying-append (a ++ b ++ c ++ d) (e ∷ []) in
    let five = staying-alone e in
    cc

pub moving_parts : (a b c d : List Node) (e : Node) → moving (a ++ b ++ c ++ d ++ e ∷ []) ≡ moving a ++ moving b ++ moving c ++ moving d ++ moving_of e
moving_parts a b c d e =
    let one = moving-append a b in
    let two = moving-append (a ++ b) c in
    let three = moving-append (a ++ b ++ c) d in
    let four = moving-append (a ++ b ++ c ++ d) (e ∷ []) in
    let five = moving-alone e in
    cc

-- an item is put, and then a list
pub staying-first : (old one both : List Node) (x put : Node) (xs : List Node) → one ≡ old ++ staying_of put → put ≡ x → both ≡ one ++ staying xs → both ≡ old ++ staying (x ∷ xs)
unfolding staying
staying-first old one both x put xs e p f = f ∙ ap (λ (it : List Node). it ++ staying xs) (e ∙ ap (λ (it : Node). old ++ staying_of it) p) ∙ append_assoc old (staying_of x) (staying xs)

pub moving-first : (old one both : List Node) (x put : Node) (xs : List Node) → one ≡ old ++ moving_of put → put ≡ x → both ≡ one ++ moving xs → both ≡ old ++ moving (x ∷ xs)
unfolding moving
moving-first old one both x put xs e p f = f ∙ ap (λ (it : List Node). it ++ moving xs) (e ∙ ap (λ (it : Node). old ++ moving_of it) p) ∙ append_assoc old (moving_of x) (moving xs)

pub nothing_stays : (old : List Node) (o : Option Node) → None ≡ o → old ≡ old ++ staying (broken_in o)
unfolding staying
nothing_stays old None e = sym (append-nil old)
nothing_stays old (Some node) e = absurd cc

pub nothing_moves : (old : List Node) (o : Option Node) → None ≡ o → old ≡ old ++ moving (broken_in o)
unfolding moving
nothing_moves old None e = sym (append-nil old)
nothing_moves old (Some node) e = absurd cc

-- the five parts of a line, as they are found
items_by : (p : Paragraph) (i j : ℕ) (nodes : List Node) (left right : Glue) (after keep : List Node)
    → nodes ≡ p.list → left ≡ p.params.skips.left → right ≡ p.params.skips.right → after ≡ after_in (item_at nodes i) → keep ≡ kept nodes i j
    → left_side left ++ after ++ keep ++ broken_in (item_at nodes j) ++ glue_node right ∷ [] ≡ line_items p i j
unfolding line_items
items_by p i j nodes left right after keep n l r a k =
    ap (λ (it : Glue). left_side it ++ after ++ keep ++ broken_in (item_at nodes j) ++ glue_node right ∷ []) l
    ∙ ap (λ (it : Glue). left_side p.params.skips.left ++ after ++ keep ++ broken_in (item_at nodes j) ++ glue_node it ∷ []) r
    ∙ ap (λ (it : List Node). left_side p.params.skips.left ++ it ++ keep ++ broken_in (item_at nodes j) ++ glue_node p.params.skips.right ∷ []) a
    ∙ ap (λ (it : List Node). left_side p.params.skips.left ++ after_in (item_at nodes i) ++ it ++ broken_in (item_at nodes j) ++ glue_node p.params.skips.right ∷ []) k
    ∙ ap (λ (it : List Node). left_side p.params.skips.left ++ after_in (item_at it i) ++ kept it i j ++ broken_in (item_at it j) ++ glue_node p.params.skips.right ∷ []) n

staying_five : (first one two three four five a b c d : List Node) (e put : Node) → first ≡ [] → one ≡ first ++ staying a → two ≡ one ++ staying b
    → three ≡ two ++ staying c → four ≡ three ++ staying d → five ≡ four ++ staying_of put → put ≡ e → five ≡ staying (a ++ b ++ c ++ d ++ e ∷ [])
staying_five first one two three four five a b c d e put h h1 h2 h3 h4 h5 same =
    let parts : staying (a ++ b ++ c ++ d ++ e ∷ []) ≡ staying a ++ staying b ++ staying c ++ staying d ++ staying_of e = staying_parts a b c d e in
    let e1 : one ≡ staying a = h1 ∙ ap (λ (it : List Node). it ++ staying a) h in
    let e2 : two ≡ staying a ++ staying b = h2 ∙ ap (λ (it : List Node). it ++ staying b) e1 in
    let e3 : three ≡ staying a ++ staying b ++ staying c = h3 ∙ ap (λ (it : List Node). it ++ staying c) e2 in
    let e4 : four ≡ staying a ++ staying b ++ staying c ++ staying d = h4 ∙ ap (λ (it : List Node). it ++ staying d) e3 in
    let e5 : five ≡ staying a ++ staying b ++ staying c ++ staying d ++ staying_of put = h5 ∙ ap (λ (it : List Node). it ++ staying_of put) e4 in
    e5 ∙ ap (λ (it : Node). staying a ++ staying b ++ staying c ++ staying d ++ staying_of it) same ∙ sym parts

pub staying_line : (p : Paragraph) (i j : ℕ) (nodes : List Node) (left right : Glue) (first one two three four five after keep : List Node) (put : Node)
    → nodes ≡ p.list → left ≡ p.params.skips.left → right ≡ p.params.skips.right → after ≡ after_in (item_at nodes i) → keep ≡ kept nodes i j
    → first ≡ [] → one ≡ first ++ staying (left_side left) → two ≡ one ++ staying after → three ≡ two ++ staying keep
    → four ≡ three ++ staying (broken_in (item_at nodes j)) → five ≡ four ++ staying_of put → put ≡ glue_node right → five ≡ staying (line_items p i j)
staying_line p i j nodes left right first one two three four five after keep put n l r a k h h1 h2 h3 h4 h5 same =
    staying_five first one two three four five (left_side left) after keep (broken_in (item_at nodes j)) (glue_node right) put h h1 h2 h3 h4 h5 same
    ∙ ap staying (items_by p i j nodes left right after keep n l r a k)

moving_five : (first one two three four five a b c d : List Node) (e put : Node) → first ≡ [] → one ≡ first ++ moving a → two ≡ one ++ moving b
    → three ≡ two ++ moving c → four ≡ three ++ moving d → five ≡ four ++ moving_of put → put ≡ e → five ≡ moving (a ++ b ++ c ++ d ++ e ∷ [])
moving_five first one two three four five a b c d e put h h1 h2 h3 h4 h5 same =
    let parts : moving (a ++ b ++ c ++ d ++ e ∷ []) ≡ moving a ++ moving b ++ moving c ++ moving d ++ moving_of e = moving_parts a b c d e in
    let e1 : one ≡ moving a = h1 ∙ ap (λ (it : List Node). it ++ moving a) h in
    let e2 : two ≡ moving a ++ moving b = h2 ∙ ap (λ (it : List Node). it ++ moving b) e1 in
    let e3 : three ≡ moving a ++ moving b ++ moving c = h3 ∙ ap (λ (it : List Node). it ++ moving c) e2 in
    let e4 : four ≡ moving a ++ moving b ++ moving c ++ moving d = h4 ∙ ap (λ (it : List Node). it ++ moving d) e3 in
    let e5 : five ≡ moving a ++ moving b ++ moving c ++ moving d ++ moving_of put = h5 ∙ ap (λ (it : List Node). it ++ moving_of put) e4 in
    e5 ∙ ap (λ (it : Node). moving a ++ moving b ++ moving c ++ moving d ++ moving_of it) same ∙ sym parts

pub moving_line : (p : Paragraph) (i j : ℕ) (nodes : List Node) (left right : Glue) (first one two three four five after keep : List Node) (put : Node)
    → nodes ≡ p.list → left ≡ p.params.skips.left → right ≡ p.params.skips.right → after ≡ after_in (item_at nodes i) → keep ≡ kept nodes i j
    → first ≡ [] → one ≡ first ++ moving (left_side left) → two ≡ one ++ moving after → three ≡ two ++ moving keep
    → four ≡ three ++ moving (broken_in (item_at nodes j)) → five ≡ four ++ moving_of put → put ≡ glue_node right → five ≡ moving (line_items p i j)
moving_line p i j nodes left right first one two three four five after keep put n l r a k h h1 h2 h3 h4 h5 same =
    moving_five first one two three four five (left_side left) after keep (broken_in (item_at nodes j)) (glue_node right) put h h1 h2 h3 h4 h5 same
    ∙ ap moving (items_by p i j nodes left right after keep n l r a k)
