-- A word while it is rebuilt: some of its nodes are written, and the others are left.
use Rattle.std.specs.Prelude.{ℕ, ◌-◌, if◌then◌else◌, List, [], ◌∷◌, ◌++◌, take, drop}
use Rattle.etx_matter.specs.declared.node.Node.{Node}
use Rattle.etx_hyphen.specs.declared.cuts.Cut.{Cut}
use Rattle.etx_hyphen.specs.declared.progress.Progress.{Progress}
use Rattle.etx_hyphen.specs.Rebuilds.{disc_of, is_kept, kept_from, with_discs}

-- the word that it becomes with these cuts at its further places
abbrev pub finished : Progress → List Cut → List Node
finished progress cuts = progress.written ++ with_discs progress.at (kept_from progress.end cuts) progress.rest

-- before the first place no run was kept, and all nodes of the unbroken word are left
abbrev pub untouched : List Node → Progress
untouched nodes = record { written = []; rest = nodes; at = 0; end = 0 }

-- how many of the nodes that are left stand before a run
abbrev pub passed_before : Progress → Cut → ℕ
passed_before progress cut = cut.start.unbroken - progress.at

unfoldable pub with_kept : Progress → Cut → Progress
with_kept progress cut = record {
  written = progress.written ++ take (passed_before progress cut) progress.rest ++ disc_of cut ∷ [];
  rest = drop (passed_before progress cut) progress.rest;
  at = cut.start.unbroken;
  end = cut.end.letters;
}

unfoldable pub with_cut : Progress → Cut → Progress
with_cut progress cut = if is_kept progress.end cut then with_kept progress cut else progress
