-- What is given as C has it: a number, and the values, 0 on refusal. Assumes nothing.
use Rattle.std.specs.Prelude.{ℕ, Result, Ok, Err}
use Rattle.lent.specs.Number.{number}
use Rattle.lent.specs.declared.refusal.Refusal.{Refusal}
use Rattle.conversions.specs.declared.Code.{Code}
use Rattle.conversions.specs.declared.Conversion.{Conversion}
use Rattle.conversions.specs.declared.Parts.{Parts}

unfoldable pub coded : Result ℕ Refusal → Code
coded (Ok code) = record { number = 0; code = code }
coded (Err refusal) = record { number = number refusal; code = 0 }

unfoldable pub taken : Result Parts Refusal → Conversion
taken (Ok parts) =
    record {
      number = 0;
      command = parts.command;
      mode = parts.fields.mode;
      discharge = parts.fields.discharge;
      pull_up = parts.fields.pull_up;
      choice = parts.fields.choice;
    }
taken (Err refusal) = record { number = number refusal; command = 0; mode = 0; discharge = 0; pull_up = 0; choice = 0 }
