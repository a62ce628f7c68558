-- A line more.
use Rattle.std.proofs.Common.{◌≡◌, ℕ, suc, ◌+◌, ◌≤◌, min, pos, List, [], ◌∷◌, ◌++◌, length, None, Some, unwrap_or, refl, sym, ap, ◌∙◌, append_assoc, arith}
use Rattle.std.proofs.lemmas.List.{append-nil}
use Rattle.std.specs.Option.{option_to_list}
use Rattle.etx_matter.specs.declared.node.Node.{Node}
use Rattle.etx_sealed.specs.declared.outcome.Lines.{Lines}
use Rattle.etx_sealed.specs.Paragraphs.{Paragraph}
use Rattle.etx_setlines.specs.declared.setting.Setting.{Setting}
use Rattle.etx_setlines.specs.Additions.{no_lines, with_set, with_line, finished_with, finished, lines_so}
use Rattle.etx_setlines.specs.Penalties.{interline}
use Rattle.etx_setlines.specs.Settings.{LineSet, line_set, sets_from, shifted_box, listed_under, reports_of, badness_or, depth_or, lines_of}

-- five lists behind another one
behind_five : (o a b c d r : List Node) → o ++ a ++ b ++ c ++ d ++ r ≡ o ++ (a ++ b ++ c ++ d ++ r)
behind_five o a b c d r =
    let one = append_assoc o a b in
    let two = append_assoc o (a ++ b) c in
    let three = append_assoc o (a ++ b ++ c) d in
    let four = append_assoc o (a ++ b ++ c ++ d) r in
    cc

finished-set : (p : Paragraph) (done : Setting) (it : LineSet) (count : ℕ) (lines : List LineSet)
    → finished_with p (with_set p done it) count lines ≡ finished_with p done (suc count) (it ∷ lines)
unfolding with_set listed_under reports_of badness_or depth_or
finished-set p done it count lines =
    let list : (with_set p done it).list ++ listed_under p.params.skips (Some it.packed.node.depth) lines ≡ done.list ++ listed_under p.params.skips done.depth (it ∷ lines) =
    behind_five done.list (interline p.params.skips done.depth it.packed.node.height) (shifted_box it.indent it.packed.node ∷ []) it.moved it.penalty
    (listed_under p.params.skips (Some it.packed.node.depth) lines) in
    let counted : done.count + 1 + count ≡ done.count + suc count = omega arith in
    let reports : done.reports ++ option_to_list it.packed.report ++ reports_of lines ≡ done.reports ++ (option_to_list it.packed.report ++ reports_of lines) =
    append_assoc done.reports (option_to_list it.packed.report) (reports_of lines) in
    λ i. record {
      list = list i;
      count = pos (min (counted i) 2_147_483_647);
      badness = badness_or it.packed.badness lines;
      depth = unwrap_or (depth_or (Some it.packed.node.depth) lines) (pos 0);
      reports = reports i;
    }

pub counted : (p : Paragraph) (done : Setting) (it : LineSet) → (with_set p done it).count ≡ done.count + 1
unfolding with_set
counted p done it = refl

-- the line to the first of the breaks that are left
finished-more : (p : Paragraph) (done : Setting) (i j : ℕ) (rest : List ℕ) → finished p (with_line p done i j (length rest)) j rest ≡ finished p done i (j ∷ rest)
unfolding sets_from
finished-more p done i j rest =
    let it = line_set p (done.count + 1) i j (length rest) in
    let number : (with_set p done it).count ≡ done.count + 1 = counted p done it in
    ap (λ (n : ℕ). finished_with p (with_set p done it) (length rest) (sets_from p (n + 1) j rest)) number
    ∙ finished-set p done it (length rest) (sets_from p (done.count + 1 + 1) j rest)

pub finished-step : (p : Paragraph) (done done' : Setting) (i i' : ℕ) (breaks rest : List ℕ) (j : ℕ) (all : Lines)
    → finished p done i breaks ≡ all → breaks ≡ j ∷ rest → done' ≡ with_line p done i j (length rest) → i' ≡ j → finished p done' i' rest ≡ all
finished-step p done done' i i' breaks rest j all h e d same =
    ap (λ (it : Setting). finished p it i' rest) d
    ∙ ap (λ (n : ℕ). finished p (with_line p done i j (length rest)) n rest) same
    ∙ finished-more p done i j rest
    ∙ sym (ap (finished p done i) e)
    ∙ h

pub one_more : (p : Paragraph) (done done' : Setting) (i j follow : ℕ) (breaks rest all : List ℕ)
    → done' ≡ with_line p done i j follow → breaks ≡ j ∷ rest → done.count + length breaks ≤ length all → done'.count + length rest ≤ length all
one_more p done done' i j follow breaks rest all d e h =
    let one : done'.count ≡ done.count + 1 = ap (λ (it : Setting). it.count) d ∙ counted p done (line_set p (done.count + 1) i j follow) in
    let more : length breaks ≡ suc (length rest) = ap length e in
    omega (arith, one, more, h)

finished-start : (p : Paragraph) (breaks : List ℕ) → finished p no_lines 0 breaks ≡ lines_of p breaks
unfolding lines_of
finished-start p breaks =
    let counted : 0 + length breaks ≡ length breaks = omega arith in
    λ k. record {
      list = listed_under p.params.skips None (sets_from p 1 0 breaks);
      count = pos (min (counted k) 2_147_483_647);
      badness = badness_or (pos 0) (sets_from p 1 0 breaks);
      depth = unwrap_or (depth_or None (sets_from p 1 0 breaks)) (pos 0);
      reports = reports_of (sets_from p 1 0 breaks);
    }

pub finished-first : (p : Paragraph) (done : Setting) (i : ℕ) (breaks all : List ℕ) → done ≡ no_lines → i ≡ 0 → breaks ≡ all → finished p done i breaks ≡ lines_of p all
finished-first p done i breaks all d z e =
    ap (λ (it : Setting). finished p it i breaks) d ∙ ap (λ (n : ℕ). finished p no_lines n breaks) z ∙ ap (finished p no_lines 0) e ∙ finished-start p all

no_breaks : (breaks : List ℕ) → length breaks ≡ 0 → breaks ≡ []
no_breaks [] h = refl
no_breaks (j ∷ breaks) h = absurd (omega (arith, h))

finished-none : (p : Paragraph) (done : Setting) (i : ℕ) → finished p done i [] ≡ lines_so done
unfolding sets_from listed_under reports_of badness_or depth_or
finished-none p done i =
    let list = append-nil done.list in
    let counted : done.count + 0 ≡ done.count = omega arith in
    let reports = append-nil done.reports in
    λ k. record {
      list = list k;
      count = pos (min (counted k) 2_147_483_647);
      badness = done.badness;
      depth = unwrap_or done.depth (pos 0);
      reports = reports k;
    }

pub finished-end : (p : Paragraph) (done : Setting) (i : ℕ) (breaks : List ℕ) (all lines : Lines)
    → finished p done i breaks ≡ all → length breaks ≡ 0 → lines ≡ lines_so done → lines ≡ all
finished-end p done i breaks all lines h none e =
    e ∙ sym (finished-none p done i) ∙ sym (ap (finished p done i) (no_breaks breaks none)) ∙ h
