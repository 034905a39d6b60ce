-- `frames::commands::find` is the one lookup: a row that matches is what is found, and where none does a conversion is asked for. Assumes nothing.
use Rattle.std.proofs.Common.{ℕ, ◌≡◌, eqb, MatchOption, get_or, ap, sym, ◌∙◌, rules, tests}
use Rattle.std.proofs.lemmas.Iterator.{YieldsList-from_slice}
use Rattle.std.proofs.lemmas.Iterator.Search.{position_from_yields_List}
use Rattle.frames.specs.Answers.{kind_given, group_given}
use Rattle.frames.specs.Commands.{Row, row, rows, kind_of, group_of, unlisted, found}
use Rattle.frames.specs.Columns.{code_column}
use Rattle.frames.proofs.Lookup.{not_listed, no_conversion}
use Rattle.frames.proofs.Search.{sought, kind_at, group_at}
use Rattle.frames.proofs.commands.find.Goals.{After-position}
use Rattle.frames.proofs.commands.find.Goals as goal

pub returns-then-is_unlisted : goal.returns-then-is_unlisted
unfolding kind_of group_of
returns-then-is_unlisted c =
    let e = not_listed c.args.code (sym c.is_unlisted.ensures ∙ c.if-is_unlisted.true) in
    (c.unlisted.ensures.0 ∙ sym (ap (λ (r : Row). r.kind) e), c.unlisted.ensures.1 ∙ sym (ap (λ (r : Row). r.group) e))

-- by `position`, the row at which the code is, or none
searched : (c : After-position) → MatchOption c.position.result (found c.args.code rows ≡ unlisted c.args.code) (λ i. (d : Row) → found c.args.code rows ≡ get_or rows i d)
unfolding code_column rows
searched c =
    let code = c.args.code in
    sought code c.position.result
    (position_from_yields_List (λ (x : ℕ). eqb x code) _ _ c.position.result c.position.ensures.ran (YieldsList-from_slice _ c.iter.ensures.rest) (λ x b q k. search (rules, tests)))

pub returns-in_err-row : goal.returns-in_err-row
unfolding kind_of group_of kind_given group_given
returns-in_err-row c =
    let e = rw c.in_err-row.was at (searched (goal.at.returns-in_err-row c).After-position) in
    let f = e ∙ no_conversion c.args.code (sym c.is_unlisted.ensures ∙ c.if-is_unlisted.false) in
    rw c.from_residual.ensures (sym (ap (λ (r : Row). r.kind) f), sym (ap (λ (r : Row). r.group) f))

pub returns : goal.returns
unfolding kind_of group_of kind_given group_given
returns c =
    let i = c.in_ok-row.row in
    let e = rw c.in_ok-row.was at (searched (goal.at.returns c).After-position) in
    (kind_at i ∙ sym (ap (λ (r : Row). r.kind) (e (row 0 1 0))), group_at i ∙ sym (ap (λ (r : Row). r.group) (e (row 0 0 0))))
