-- THE LAW of the table beside the conversions: no code of a conversion is one of the 26, and the lookup knows each. Assumes nothing.
use mathlib.Core.Path.{◌≡◌, refl, sym, ap, ◌∙◌}
use mathlib.Core.Bool.{true, false, true≢false, not}
use Prim.Native.Nat.{ℕ, ◌<◌}
use borrow.Author.Tests.{not-true}
use Rattle.lent.specs.Refusal.{pick}
use Rattle.lent.proofs.Tests.{each_below}
use Rattle.conversions.specs.Conversions.{patterns, pattern_at, within, weighed, code_by, choice_in, fields_by, fits, seek, command_of, is_conversion}
use Rattle.frames.specs.Commands.{rows, kind_of}
use Rattle.frames.proofs.Lookup.{row_at, no_row}

-- NO CONVERSION CODE IS ONE OF THE 26, so the lookup gives it kind 4; and it gives that to no other code (Lookup `only_conversions`)
pub none_listed : (i : ℕ) → i < 26 → is_conversion (row_at i).code ≡ false
unfolding rows pattern_at patterns within weighed code_by choice_in fields_by fits seek command_of is_conversion pick
none_listed i h = not-true _ (each_below (λ (j : ℕ). not (is_conversion (row_at j).code)) 26 refl i h)

pub found_conversion : (code : ℕ) → is_conversion code ≡ true → kind_of code ≡ 4
unfolding pick
found_conversion code e = no_row code (λ i h q. true≢false (sym e ∙ ap is_conversion (sym q) ∙ none_listed i h)) ∙ rw e
