-- What is given as C has it: a number, and the word, 0 on refusal. Assumes nothing.
use Rattle.std.specs.Prelude.{ℕ, Result, Ok, Err}
use Rattle.lent.specs.Number.{number}
use Rattle.lent.specs.declared.refusal.Refusal.{Refusal}
use Rattle.chain.specs.declared.Heard.{Heard}

unfoldable pub heard : Result ℕ Refusal → Heard
heard (Ok word) = record { number = 0; word = word }
heard (Err refusal) = record { number = number refusal; word = 0 }
