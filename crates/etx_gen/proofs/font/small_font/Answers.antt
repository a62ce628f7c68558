use Rattle.std.proofs.Common.{◌≡◌, ℕ, List, [], ◌++◌}
use Rattle.std.specs.List.{flat_map, range_with_len}
use Rattle.std.specs.Int.{to_be_bytes, w16}
use Rattle.etx_gen.specs.Font.{small_font, lengths, header, fix_word, character, widths, heights, depths, italics, ligature_step, parameters}
use Rattle.etx_gen.proofs.font.small_font.Goals as goal

-- Six pushes one after another.
pushed : (o0 o1 o2 o3 o4 o5 o6 a b c d e f : List ℕ) → o0 ≡ [] → o1 ≡ o0 ++ a → o2 ≡ o1 ++ b → o3 ≡ o2 ++ c → o4 ≡ o3 ++ d → o5 ≡ o4 ++ e → o6 ≡ o5 ++ f
    → o6 ≡ a ++ b ++ c ++ d ++ e ++ f
pushed o0 o1 o2 o3 o4 o5 o6 a b c d e f h0 h1 h2 h3 h4 h5 h6 =
    let first : o1 ≡ a = rw h0 at h1 in
    cc

pub returns : goal.returns
unfolding small_font
returns c =
    pushed _ _ _ _ _ _ _
    (flat_map (to_be_bytes w16) lengths)
    (flat_map fix_word header)
    (flat_map character (range_with_len 42 81))
    (flat_map fix_word (widths ++ heights ++ depths ++ italics))
    ligature_step
    (flat_map fix_word parameters)
    c.new-out.ensures.items
    c.in_ok-push_lengths.ensures
    c.in_ok-push_fix_words.ensures
    c.in_ok-push_characters.ensures
    c.in_ok-push_fix_words-2.ensures
    c.in_ok-extend_from_slice.ensures.items
    c.in_ok-push_fix_words-3.ensures
