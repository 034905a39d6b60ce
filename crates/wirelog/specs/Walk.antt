-- A walk over a whole log: record after record from place 0, until the end or a refusal. Assumes nothing.
use Rattle.std.specs.Prelude.{ℕ, zero, suc, ◌+◌, ◌<◌, ◌^◌, ◌≡◌, not, ◌⊎◌, List, eqb, length}
use Rattle.lent.specs.Refusal.{pick}
use Rattle.wirelog.specs.Kinds.{known}
use Rattle.wirelog.specs.Found.{Answer, found_at}
use Rattle.wirelog.specs.declared.walk.Walked.{Walked}

abbrev pub start : Walked
start = record { number = 0; at = 0; sizes = 0; frames = 0; replies = 0; notes = 0; unknown = 0 }

-- one record more, of a kind, with the next place
unfoldable pub past : Walked → ℕ → ℕ → Walked
past w kind next =
    record {
      number = w.number;
      at = next;
      sizes = w.sizes + pick (eqb kind 1) 1 0;
      frames = w.frames + pick (eqb kind 2) 1 0;
      replies = w.replies + pick (eqb kind 3) 1 0;
      notes = w.notes + pick (eqb kind 4) 1 0;
      unknown = w.unknown + pick (not (known kind)) 1 0;
    }

abbrev pub stopped : Walked → ℕ → Walked
stopped w number =
    record { number = number; at = w.at; sizes = w.sizes; frames = w.frames; replies = w.replies; notes = w.notes; unknown = w.unknown }

-- every count leaves room for one more
pub record Fits (w : Walked) : Type 0 where
  pub sizes : w.sizes + 1 < 2 ^ 64
  pub frames : w.frames + 1 < 2 ^ 64
  pub replies : w.replies + 1 < 2 ^ 64
  pub notes : w.notes + 1 < 2 ^ 64
  pub unknown : w.unknown + 1 < 2 ^ 64

-- A walk that has come to w, by what it finds there; `on` is the rest of the walk.
abbrev pub step : (Walked → Walked) → Walked → Answer → Walked
step on w (Answer.Record kind body len next) = on (past w kind next)
step on w (Answer.Unknown kind next) = on (past w kind next)
step on w Answer.End = w
step on w (Answer.Refused number) = stopped w number

unfoldable pub walk_from : ℕ → List ℕ → Walked → Walked
walk_from zero log w = w
walk_from (suc steps) log w = step (walk_from steps log) w (found_at log w.at)

-- Why a walk stopped: it was at the log's end, with number 0, or at a record that is refused, with its number.
abbrev pub Stops : List ℕ → Walked → Type 0
Stops log r = ((r.number ≡ 0) × (found_at log r.at ≡ Answer.End)) ⊎ (found_at log r.at ≡ Answer.Refused r.number)

-- What `walk` promises. Each step passes a byte at least, so that one step more than the log has bytes is enough to stop.
pub record Walks (log : List ℕ) (r : Walked) : Type 0 where
  pub walked : r ≡ walk_from (suc (length log)) log start
