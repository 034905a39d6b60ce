-- The numbers that a call comes back with (01, "Numbers a call can come back with"; 9 to 11 are 02's): 0, done, or that of the refusal. Assumes nothing.
use Rattle.std.specs.Prelude.{ℕ, Result, Ok, Err}
use Rattle.lent.specs.declared.Written.{Written}
use Rattle.lent.specs.declared.refusal.Refusal.{Refusal}

unfoldable pub number : Refusal → ℕ
number Refusal.ChainSize = 1  -- N not 1..16; for the tally, marks not 1..16 long
number Refusal.UnknownCommand = 2
number Refusal.WrongLength = 3  -- lent data, state or reply of the wrong length; a mark above 2, a pin above 1
number Refusal.WrongPec = 4  -- of the command
number Refusal.ShortOutput = 5  -- a lent output
number Refusal.WrongFrame = 6  -- under 4 bytes, or its length not that of its command
number Refusal.NoRead = 7
number Refusal.TallyFull = 8  -- a count would pass 4,294,967,295
number Refusal.FieldRange = 9  -- of a conversion command (02, K1)
number Refusal.BrokenRecord = 10  -- a place past the log's end, or a record cut short (02, K3)
number Refusal.BodyLimits = 11  -- an unknown kind, or a body outside its kind's limits (02, K3)

-- what a call gives that has no more to say than whether it was done
unfoldable pub number_given : {A : Type 0} → Result A Refusal → ℕ
number_given (Ok a) = 0
number_given (Err refusal) = number refusal

-- what a writer gives: on refusal the length is 0
unfoldable pub written : Result ℕ Refusal → Written
written (Ok length) = record { number = 0; length = length }
written (Err refusal) = record { number = number refusal; length = 0 }
