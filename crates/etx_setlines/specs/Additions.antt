-- Lines while they are set, one after another.
use Rattle.std.specs.Prelude.{ℕ, ◌+◌, min, pos, List, [], ◌∷◌, ◌++◌, length, Some, None, unwrap_or}
use Rattle.std.specs.Option.{option_to_list}
use Rattle.etx_sealed.specs.declared.outcome.Lines.{Lines}
use Rattle.etx_sealed.specs.Paragraphs.{Paragraph}
use Rattle.etx_setlines.specs.declared.setting.Setting.{Setting}
use Rattle.etx_setlines.specs.Penalties.{interline}
use Rattle.etx_setlines.specs.Settings.{LineSet, line_set, sets_from, shifted_box, listed_under, reports_of, badness_or, depth_or}

abbrev pub no_lines : Setting
no_lines = record { list = []; count = 0; badness = pos 0; depth = None; reports = [] }

-- a line more
unfoldable pub with_set : Paragraph → Setting → LineSet → Setting
with_set p done it = record {
  list =
      done.list ++ interline p.params.skips done.depth it.packed.node.height ++ (shifted_box it.indent it.packed.node ∷ []) ++ it.moved
      ++ it.penalty;
  count = done.count + 1;
  badness = it.packed.badness;
  depth = Some it.packed.node.depth;
  reports = done.reports ++ option_to_list it.packed.report;
}

-- the same line, told by its places and how many lines follow it
abbrev pub with_line : Paragraph → Setting → ℕ → ℕ → ℕ → Setting
with_line p done i j follow = with_set p done (line_set p (done.count + 1) i j follow)

-- the lines that are set, and so many behind them
abbrev pub finished_with : Paragraph → Setting → ℕ → List LineSet → Lines
finished_with p done count lines = record {
  list = done.list ++ listed_under p.params.skips done.depth lines;
  count = pos (min (done.count + count) 2_147_483_647);
  badness = badness_or done.badness lines;
  depth = unwrap_or (depth_or done.depth lines) (pos 0);
  reports = done.reports ++ reports_of lines;
}

-- the lines that are set, and those to these further breaks, from a place on
abbrev pub finished : Paragraph → Setting → ℕ → List ℕ → Lines
finished p done i breaks = finished_with p done (length breaks) (sets_from p (done.count + 1) i breaks)

abbrev pub lines_so : Setting → Lines
lines_so done = record {
  list = done.list;
  count = pos (min done.count 2_147_483_647);
  badness = done.badness;
  depth = unwrap_or done.depth (pos 0);
  reports = done.reports;
}
