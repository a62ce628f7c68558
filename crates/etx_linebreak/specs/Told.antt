-- What is told of a paragraph that was broken: the error where glue shrinks infinitely, and the reports of its lines ("TeX: The
-- Program", sections 660 to 666 and 826).
use Rattle.std.specs.Prelude.{ℕ, unsigned_abs, Bool, true, false, if◌then◌else◌, List, [], ◌∷◌, ◌++◌, codes}
use Rattle.std.specs.Fmt.{decimal}
use Rattle.etx_scaled.specs.Decimal.{decimal_text}
use Rattle.etx_matter.specs.declared.deed.Audience.{Audience}
use Rattle.etx_matter.specs.declared.deed.Audience.TheVariants as audience
use Rattle.etx_matter.specs.declared.deed.Deed.{Deed}
use Rattle.etx_matter.specs.declared.deed.Deed.TheVariants as deed
use Rattle.etx_matter.specs.declared.sizes.Report.{Report}
use Rattle.etx_matter.specs.declared.sizes.ReportKind.{ReportKind}
use Rattle.etx_matter.specs.declared.sizes.ReportKind.TheVariants.{Overfull, Underfull, Loose, Tight}
use Rattle.etx_prims.specs.declared.assignments.InteractionKind.{InteractionKind}
use Rattle.etx_prims.specs.declared.assignments.InteractionKind.TheVariants.{Batch, NonStop, Scroll, ErrorStop}
use Rattle.etx_sealed.specs.declared.params.ParParams.{ParParams}
use Rattle.etx_sealed.specs.Paragraphs.{Paragraph}

-- in batch mode the terminal is told nothing
abbrev pub audience_in : InteractionKind → Audience
audience_in Batch = audience.Log
audience_in NonStop = audience.LogAndTerminal
audience_in Scroll = audience.LogAndTerminal
audience_in ErrorStop = audience.LogAndTerminal

abbrev pub infinite_text : List ℕ
infinite_text = codes "Infinite glue shrinkage found in a paragraph"

-- the errors of a paragraph: one, where glue shrinks infinitely
unfoldable pub errors : Paragraph → List Deed
errors p = if p.infinite then deed.Error infinite_text p.params.last_line (audience_in p.params.mode) ∷ [] else []

abbrev pub box_text : Bool → List ℕ
box_text true = codes " \\vbox ("
box_text false = codes " \\hbox ("

abbrev pub excess_text : Bool → List ℕ
excess_text true = codes "pt too high)"
excess_text false = codes "pt too wide)"

abbrev pub kind_text : ReportKind → List ℕ
kind_text Overfull = codes "Overfull"
kind_text Underfull = codes "Underfull"
kind_text Loose = codes "Loose"
kind_text Tight = codes "Tight"

-- how much an overfull box has too much, and how bad all others are
abbrev pub measure_text : Report → ReportKind → List ℕ
measure_text it Overfull = decimal_text it.number ++ excess_text it.vertical
measure_text it Underfull = codes "badness " ++ decimal (unsigned_abs it.number) ++ codes ")"
measure_text it Loose = codes "badness " ++ decimal (unsigned_abs it.number) ++ codes ")"
measure_text it Tight = codes "badness " ++ decimal (unsigned_abs it.number) ++ codes ")"

-- where a line of the paragraph stands
unfoldable pub place_text : ParParams → List ℕ
place_text p =
    if p.active then codes " has occurred while \\output is active\n"
    else codes " in paragraph at lines " ++ decimal p.first_line ++ codes "--" ++ decimal p.last_line ++ codes "\n"

unfoldable pub report_text : ParParams → Report → List ℕ
report_text p it = kind_text it.kind ++ box_text it.vertical ++ measure_text it it.kind ++ place_text p

-- a report stands on lines of its own
unfoldable pub told_of : ParParams → Report → List Deed
told_of p it = deed.Fresh (audience_in p.mode) ∷ (deed.Text (report_text p it) (audience_in p.mode) ∷ [])

unfoldable pub reports : ParParams → List Report → List Deed
reports p [] = []
reports p (it ∷ its) = told_of p it ++ reports p its
