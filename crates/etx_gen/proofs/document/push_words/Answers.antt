use Rattle.std.proofs.Common.{◌≡◌, ◌<◌, ℕ, zero, suc, ◌+◌, List, [], ◌∷◌, ◌++◌, length, append_assoc, refl, ap, sym, ◌∙◌, add-one, arith}
use Rattle.std.proofs.lemmas.Grind.{common_steps}
use Rattle.std.proofs.lemmas.List.{length_push}
use Rattle.std.specs.List.{join_with_byte}
use Rattle.etx_gen.specs.Document.{words, after_words, word}
use Rattle.etx_gen.proofs.document.push_words.Goals as goal
use Rattle.etx_gen.proofs.document.push_words.Goals.{then-before-gt0+in_ok-push, else-before-gt0}

-- One more word stands behind the words that are joined and a space.
join-push : (x : List ℕ) (xs : List (List ℕ)) (w : List ℕ) → join_with_byte 32 (x ∷ (xs ++ w ∷ [])) ≡ join_with_byte 32 (x ∷ xs) ++ 32 ∷ w
join-push x [] w = refl
join-push x (y ∷ ys) w =
    ap (λ t. x ++ (32 ∷ t)) (join-push y ys w) ∙ sym (append_assoc x (32 ∷ join_with_byte 32 (y ∷ ys)) (32 ∷ w))

joined-more : (ws : List (List ℕ)) (w : List ℕ) → 0 < length ws → join_with_byte 32 (ws ++ w ∷ []) ≡ join_with_byte 32 ws ++ 32 ∷ w
joined-more [] w some = absurd (omega arith)
joined-more (x ∷ xs) w some = join-push x xs w

length-words : (count seed : ℕ) → length (words count seed) ≡ count
length-words zero seed = refl
length-words (suc count) seed = length_push (words count seed) (word (after_words count seed)) ∙ ap (λ n. n + 1) (length-words count seed) ∙ add-one count

words-more : (count seed : ℕ) → words (count + 1) seed ≡ words count seed ++ word (after_words count seed) ∷ []
words-more count seed = rw add-one refl

after-more : (count seed : ℕ) → after_words (count + 1) seed ≡ after_words (suc count) seed
after-more count seed = rw add-one refl

sentence-more : (count seed : ℕ) → 0 < count → join_with_byte 32 (words (count + 1) seed) ≡ join_with_byte 32 (words count seed) ++ 32 ∷ word (after_words count seed)
sentence-more count seed some =
    ap (join_with_byte 32) (words-more count seed) ∙ joined-more (words count seed) (word (after_words count seed)) (omega (arith, length-words count seed))

sentence-first : (count seed : ℕ) → count ≡ 0 → join_with_byte 32 (words (count + 1) seed) ≡ join_with_byte 32 (words count seed) ++ word (after_words count seed)
sentence-first count seed none = rw none refl

pub loop-before-preserved : goal.loop-before-preserved
loop-before-preserved c =
    let seed = c.args.draws.now.seed in
    let moved = after-more c.loop-before.before seed in
    elim c.if-before-gt0.branch [
      | then-before-gt0+in_ok-push w ↦
          let more = sentence-more c.loop-before.before seed (omega arith) in
          (grind (arith, common_steps, more, w.in_ok-push.ensures.items, w.out-is), grind (arith, moved))
      | else-before-gt0 w ↦
          let first = sentence-first c.loop-before.before seed (omega arith) in
          (grind (arith, common_steps, first, w.out-is), grind (arith, moved))
    ]
