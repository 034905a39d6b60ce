-- `conversions::has_code`: the fields that stand in a code build it, and are within. Assumes nothing.
use Rattle.std.proofs.Common.{sym, ◌∙◌}
use Rattle.std.proofs.Math.Bool.{and-true, and-false}
use Rattle.std.proofs.lemmas.Bool.{eq-eqb, ne_eqb}
use Rattle.conversions.specs.Conversions.{within, code_by}
use Rattle.conversions.proofs.ConversionLaws.{bounds, read_ready, fits_by}
use Rattle.conversions.proofs.has_code.Goals as goal

pub fields_by-f-requires : goal.fields_by-f-requires
fields_by-f-requires c =
    let row = c.pattern_at-p in
    let b = bounds c.args.command c.requires in
    (rw row.ensures b.dcp, rw row.ensures b.pup)

pub code_by-requires : goal.code_by-requires
code_by-requires c =
    let row = c.pattern_at-p in
    read_ready row.result c.fields_by-f.result c.args.code (rw row.ensures (bounds c.args.command c.requires)) c.fields_by-f.ensures

pub returns-then-code_by-code : goal.returns-then-code_by-code
returns-then-code_by-code c =
    let a = c.args in
    let row = c.pattern_at-p in
    let read = c.fields_by-f in
    sym (fits_by a.command a.code row.result read.result row.ensures read.ensures
    ∙ rw (eq-eqb _ _ (sym c.code_by.ensures ∙ c.if-code_by-code.true)) (and-true _ ∙ sym c.are_within.ensures))

pub returns-else-code_by-code : goal.returns-else-code_by-code
returns-else-code_by-code c =
    let a = c.args in
    let row = c.pattern_at-p in
    let read = c.fields_by-f in
    let other = c.if-code_by-code.false in
    sym (fits_by a.command a.code row.result read.result row.ensures read.ensures
    ∙ rw (ne_eqb (code_by row.result read.result) a.code (λ e. other (c.code_by.ensures ∙ e))) (and-false (within row.result read.result) ∙ sym (ne_eqb _ _ other)))
