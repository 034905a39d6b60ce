-- Parts of lists that lib.Seq leaves out: of one value repeated, and of a list that is made of pieces, one after the other. Assumes nothing.
use mathlib.Core.Path.{◌≡◌, refl, sym, ap, ap₂, ◌∙◌, subst}
use mathlib.Core.Logic.{⊎_elim}
use mathlib.Core.List.{List, [], ◌∷◌, ◌++◌}
use Prim.Native.Nat.{ℕ, zero, suc, ◌+◌, ◌*◌, ◌-◌, ◌≤◌, ◌<◌}
use native.Mathlib.Nat.{le_of_suc-le-suc, eq-or-lt_of_le, mul-suc, mul-le-mul_left}
use native.Mathlib.Omega.{arith}
use lib.ListN.{length, get_or, take, drop, replicate, length-append, length-drop, get_or-append}
use lib.Seq.{drop_at, take-add, take_all, drop-append-le, take-append-le, get_or_at}

pub take_replicate : (n m v : ℕ) → n ≤ m → take n (replicate m v) ≡ replicate n v
take_replicate zero m v h = refl
take_replicate (suc n) zero v h = absurd (omega arith)
take_replicate (suc n) (suc m) v h = ap (λ (l : List ℕ). v ∷ l) (take_replicate n m v (omega arith))

drop_replicate : (j m v : ℕ) → drop j (replicate m v) ≡ replicate (m - j) v
drop_replicate zero m v = let e : m ≡ m - 0 = omega arith in ap (λ (i : ℕ). replicate i v) e
drop_replicate (suc j) zero v = let e : 0 ≡ 0 - suc j = omega arith in ap (λ (i : ℕ). replicate i v) e
drop_replicate (suc j) (suc m) v = let e : m - j ≡ suc m - suc j = omega arith in drop_replicate j m v ∙ ap (λ (i : ℕ). replicate i v) e

pub part_replicate : (j n m v : ℕ) → j + n ≤ m → take n (drop j (replicate m v)) ≡ replicate n v
part_replicate j n m v h = ap (take n) (drop_replicate j m v) ∙ take_replicate n (m - j) v (omega arith)

-- PIECES: `whole k` is k pieces, and the first n of them are m long.
module _ (whole piece : ℕ → List ℕ) (none : whole 0 ≡ []) (more : (k : ℕ) → whole (suc k) ≡ whole k ++ piece k) (m n : ℕ)
    (each : (k : ℕ) → k < n → length (piece k) ≡ m) where
  pub length_pieces : (k : ℕ) → k ≤ n → length (whole k) ≡ m * k
  length_pieces zero h = ap length none ∙ omega arith
  length_pieces (suc k) h = ap length (more k) ∙ length-append (whole k) (piece k) ∙ omega (arith, length_pieces k (omega arith), each k h)

  pub piece_at : (j k : ℕ) → j ≤ n → k < j → take m (drop (m * k) (whole j)) ≡ piece k
  piece_at zero k l h = absurd (omega arith)
  piece_at (suc j) k l h =
      ap (λ (x : List ℕ). take m (drop (m * k) x)) (more j)
      ∙ ⊎_elim last (λ a. earlier a ∙ piece_at j k (omega arith) a) (eq-or-lt_of_le (le_of_suc-le-suc h))
    where
      last : k ≡ j → take m (drop (m * k) (whole j ++ piece j)) ≡ piece k
      last e =
          subst (λ (i : ℕ). take m (drop (m * i) (whole j ++ piece j)) ≡ piece i) (sym e)
          (ap (take m) (drop_at (whole j) (piece j) (m * j) (length_pieces j (omega arith))) ∙ take_all m (piece j) (omega (arith, each j l)))

      earlier : k < j → take m (drop (m * k) (whole j ++ piece j)) ≡ take m (drop (m * k) (whole j))
      earlier a =
          let room : m * k + m ≤ length (whole j) = omega (arith, length_pieces j (omega arith), mul-suc m k, mul-le-mul_left m a) in
          ap (take m) (drop-append-le (m * k) (whole j) (piece j) (omega arith))
          ∙ take-append-le m (drop (m * k) (whole j)) (piece j) (omega (arith, length-drop (m * k) (whole j)))

-- two lists are equal where they agree in each piece
module _ (m n : ℕ) (x y : List ℕ) (each : (k : ℕ) → k < n → take m (drop (m * k) x) ≡ take m (drop (m * k) y)) where
  same_pieces : (j : ℕ) → j ≤ n → take (m * j) x ≡ take (m * j) y
  same_pieces zero h = let none : m * 0 ≡ 0 = omega arith in ap (λ (i : ℕ). take i x) none ∙ sym (ap (λ (i : ℕ). take i y) none)
  same_pieces (suc j) h =
      let e : m * suc j ≡ m * j + m = mul-suc m j in
      ap (λ (i : ℕ). take i x) e ∙ take-add (m * j) m x
      ∙ ap₂ (λ (a b : List ℕ). a ++ b) (same_pieces j (omega arith)) (each j h)
      ∙ sym (take-add (m * j) m y) ∙ ap (λ (i : ℕ). take i y) (sym e)

  pub pieces_ext : length x ≡ m * n → length y ≡ m * n → x ≡ y
  pieces_ext lx ly = sym (take_all (m * n) x (omega arith)) ∙ same_pieces n (omega arith) ∙ take_all (m * n) y (omega arith)

-- PIECES OF ONE ELEMENT
module _ (whole : ℕ → List ℕ) (value : ℕ → ℕ) (none : whole 0 ≡ []) (more : (k : ℕ) → whole (suc k) ≡ whole k ++ (value k ∷ [])) where
  pub length_values : (k : ℕ) → length (whole k) ≡ k
  length_values zero = ap length none
  length_values (suc k) = ap length (more k) ∙ length-append (whole k) (value k ∷ []) ∙ omega (arith, length_values k)

  pub value_at : (n k : ℕ) → k < n → get_or (whole n) k 0 ≡ value k
  value_at zero k h = absurd (omega arith)
  value_at (suc n) k h =
      let long = length_values n in
      ap (λ (x : List ℕ). get_or x k 0) (more n)
      ∙ ⊎_elim
      (λ e. get_or_at (whole n) (value n) [] 0 k (omega arith) ∙ ap value (sym e))
      (λ a. get_or-append (whole n) (value n ∷ []) 0 k (omega arith) ∙ value_at n k a)
      (eq-or-lt_of_le (le_of_suc-le-suc h))
