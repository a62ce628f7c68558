-- The document of n paragraphs, drawn from the seed n.
use Rattle.std.specs.Prelude.{ℕ, zero, suc, ◌+◌, ◌%◌, List, [], ◌∷◌, ◌++◌, if◌then◌else◌, ◌==◌, codes}
use Rattle.std.specs.List.{join_with_byte}
use Rattle.std.specs.Fmt.{decimal}
use Rattle.etx_gen.specs.Draws.{next_seed, drawn, seed_after}

-- A letter of a word, from one draw: `a` is 97.
abbrev pub letter : ℕ → ℕ
letter seed = 97 + drawn seed % 26

-- Letters, each from the draw that follows the one before it.
abbrev pub letters : ℕ → ℕ → List ℕ
letters zero seed = []
letters (suc count) seed = letters count seed ++ letter (seed_after count seed) ∷ []

-- A word: one draw gives its length, from 2 to 8, and then one each letter.
abbrev pub word_length : ℕ → ℕ
word_length seed = 2 + drawn seed % 7

unfoldable pub word : ℕ → List ℕ
word seed = letters (word_length seed) (next_seed seed)

unfoldable pub after_word : ℕ → ℕ
after_word seed = seed_after (word_length seed) (next_seed seed)

-- The seed after a number of words, and these words.
abbrev pub after_words : ℕ → ℕ → ℕ
after_words zero seed = seed
after_words (suc count) seed = after_word (after_words count seed)

abbrev pub words : ℕ → ℕ → List (List ℕ)
words zero seed = []
words (suc count) seed = words count seed ++ word (after_words count seed) ∷ []

-- A paragraph is one line: one draw gives its number of words, from 20 to 59. One space, 32, stands between words.
abbrev pub word_count : ℕ → ℕ
word_count seed = 20 + drawn seed % 40

-- Each fifth paragraph says its number on the terminal.
unfoldable pub message : ℕ → List ℕ
message number = if number % 5 == 0 then codes "\\message{" ++ decimal number ++ codes "}" else []

unfoldable pub paragraph : ℕ → ℕ → List ℕ
paragraph number seed =
    join_with_byte 32 (words (word_count seed) (next_seed seed)) ++ codes "\\par" ++ message number ++ 10 ∷ []

unfoldable pub after_paragraph : ℕ → ℕ
after_paragraph seed = after_words (word_count seed) (next_seed seed)

-- The seed after a number of paragraphs, and these paragraphs, numbered from 1.
abbrev pub after_paragraphs : ℕ → ℕ → ℕ
after_paragraphs zero seed = seed
after_paragraphs (suc count) seed = after_paragraph (after_paragraphs count seed)

abbrev pub paragraphs : ℕ → ℕ → List ℕ
paragraphs zero seed = []
paragraphs (suc count) seed = paragraphs count seed ++ paragraph (count + 1) (after_paragraphs count seed)

-- What stands before the paragraphs: the categories and the font, the parameters, the output routine.
unfoldable pub opening : List ℕ
opening =
    codes "\\catcode`\\{=1 \\catcode`\\}=2 \\catcode`\\#=6 \\font\\f=sf \\f" ++ 10 ∷ []
    ++ codes "\\hsize=200pt \\vsize=300pt \\parindent=0pt \\parfillskip=0pt plus 1fil \\baselineskip=12pt \\maxdepth=2pt \\hbadness=10000 \\hfuzz=1000pt" ++ 10 ∷ []
    ++ codes "\\output={\\shipout\\vbox{\\box255 }\\global\\advance\\count0 by 1 }" ++ 10 ∷ []

unfoldable pub ending : List ℕ
ending = codes "\\end" ++ 10 ∷ []

unfoldable pub document : ℕ → List ℕ
document count = opening ++ paragraphs count count ++ ending
