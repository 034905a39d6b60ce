-- What is given as C has it: a number, and the wait, 0 on refusal. Assumes nothing.
use Rattle.std.specs.Prelude.{ℕ, Result, Ok, Err}
use Rattle.lent.specs.Number.{number}
use Rattle.lent.specs.declared.refusal.Refusal.{Refusal}
use Rattle.wake.specs.declared.Wake.{Wake}

unfoldable pub woken : Result ℕ Refusal → Wake
woken (Ok wait) = record { number = 0; wait = wait }
woken (Err refusal) = record { number = number refusal; wait = 0 }
