-- What `pec` promises: the check word of Register, for all inputs. Assumes nothing.
use Rattle.std.specs.Prelude.{ℕ, ◌≡◌, List}
use Rattle.pec.specs.Register.{pec_of}

-- the word r of the lent bytes
pub record CheckWord (bytes : List ℕ) (r : ℕ) : Type 0 where
  pub word : r ≡ pec_of bytes
