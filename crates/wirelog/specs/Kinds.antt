-- The kinds of records, and the limits of their bodies. Kind 1 is the chain size, 2 a frame out, 3 a reply, 4 a free note. Assumes nothing.
use Rattle.std.specs.Prelude.{ℕ, Bool, ◌&&◌, List, eqb, leb, length, get_or}
use Rattle.lent.specs.Refusal.{pick}

unfoldable pub known : ℕ → Bool
known kind = leb 1 kind && leb kind 4

-- one byte, 1 to 16
unfoldable pub size_body : List ℕ → Bool
size_body body = eqb (length body) 1 && (leb 1 (get_or body 0 0) && leb (get_or body 0 0) 16)

-- A body is within the limits of its kind: a note has 0 to 200 bytes, a frame and a reply 0 to 132.
unfoldable pub within : ℕ → List ℕ → Bool
within kind body = pick (eqb kind 1) (size_body body) (pick (eqb kind 4) (leb (length body) 200) (leb (length body) 132))

-- a record that the writer writes
unfoldable pub lawful : ℕ → List ℕ → Bool
lawful kind body = known kind && within kind body
