-- The reader's answer as one record of numbers: every field is 0 that the answer does not give. Assumes nothing.
use Rattle.std.specs.Prelude.{ℕ, ◌≡◌, List}
use Rattle.wirelog.specs.Found.{Answer, found_at}
use Rattle.wirelog.specs.declared.flat.FlatRecord.{FlatRecord}

abbrev pub flat : Answer → FlatRecord
flat (Answer.Record kind body len next) = record { number = 0; end = 0; kind = kind; body = body; body_len = len; next = next }
flat (Answer.Unknown kind next) = record { number = 0; end = 0; kind = kind; body = 0; body_len = 0; next = next }
flat Answer.End = record { number = 0; end = 1; kind = 0; body = 0; body_len = 0; next = 0 }
flat (Answer.Refused number) = record { number = number; end = 0; kind = 0; body = 0; body_len = 0; next = 0 }

pub record LaysFlat (log : List ℕ) (place : ℕ) (r : FlatRecord) : Type 0 where
  pub laid : r ≡ flat (found_at log place)
