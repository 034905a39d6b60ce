-- What the log's writer gives, for all inputs. Assumes nothing.
use Rattle.std.specs.Prelude.{ℕ, ◌+◌, ◌≡◌, not, List, [], ◌∷◌, eqb, ltb, length}
use Rattle.lent.specs.Memory.{over}
use Rattle.lent.specs.Refusal.{pick, first}
use Rattle.lent.specs.declared.Written.{Written}
use Rattle.wirelog.specs.Kinds.{known, within}
use Rattle.wirelog.specs.Record.{record_of}

-- The number: the first that applies (02, K3).
unfoldable pub put_number : ℕ → List ℕ → List ℕ → ℕ
put_number kind body out =
    first
    ((not (known kind), 11)  -- an unknown kind
    ∷ (not (within kind body), 11)  -- a body outside its kind's limits
    ∷ (ltb (length out) (4 + length body), 5)  -- the output too short
    ∷ [])

-- The record lies over the start of the output; on refusal the length is 0 and the output untouched.
pub record Puts (kind : ℕ) (body out : List ℕ) (r : Written) (out' : List ℕ) : Type 0 where
  pub number : r.number ≡ put_number kind body out
  pub long : r.length ≡ pick (eqb (put_number kind body out) 0) (4 + length body) 0
  pub output : out' ≡ pick (eqb (put_number kind body out) 0) (over (record_of kind body) out) out
