-- The lowest and the highest of the valid cells, from the counts and the word that the cell reading gives. 01 does not ask for it. Assumes nothing.
use Rattle.std.specs.Prelude.{ℕ, zero, suc, ◌+◌, ◌-◌, ◌/◌, ◌%◌, ◌^◌, ◌<◌, ◌≤◌, ◌≡◌, Bool, true, false, ◌&&◌, ◌||◌, List, Option, None, Some, eqb, ltb, get_or}
use Rattle.lent.specs.Refusal.{pick}
use Rattle.cells.specs.declared.extremes.Range.{Range}

-- bit c of the word is set: cell number c + 1 is valid
unfoldable pub is_set : ℕ → ℕ → Bool
is_set valid c = eqb (valid / 2 ^ c % 2) 1

-- the count of the cell with number k, from 1
unfoldable pub count_of_cell : List ℕ → ℕ → ℕ
count_of_cell counts k = get_or counts (k - 1) 0

-- x lies further out than y: above it, or below it
unfoldable pub further : Bool → ℕ → ℕ → Bool
further up x y = pick up (ltb y x) (ltb x y)

-- Cell number c + 1 takes the place of the outmost so far: it is valid, and it is the first or lies further out. So the lowest number stays on a tie.
unfoldable pub takes : Bool → List ℕ → ℕ → ℕ → ℕ → Bool
takes up counts valid best c = is_set valid c && (eqb best 0 || further up (get_or counts c 0) (count_of_cell counts best))

-- The number of the outmost of the first n cells, 0 where none is valid.
unfoldable pub outmost : Bool → ℕ → List ℕ → ℕ → ℕ
outmost up zero counts valid = 0
outmost up (suc n) counts valid = let best = outmost up n counts valid in pick (takes up counts valid best n) (suc n) best

-- Of the first n cells: None where none is valid; else low cell, low, high cell, high.
unfoldable pub extremes_among : ℕ → List ℕ → ℕ → Option Range
extremes_among n counts valid =
    let low = outmost false n counts valid in
    let high = outmost true n counts valid in
    pick (eqb low 0) None (Some (record { low_cell = low; low = count_of_cell counts low; high_cell = high; high = count_of_cell counts high }))

unfoldable pub extremes_of : List ℕ → ℕ → Option Range
extremes_of = extremes_among 18

-- what one more valid cell makes of them, number k with the count x
unfoldable pub widened : Option Range → ℕ → ℕ → Range
widened None k x = record { low_cell = k; low = x; high_cell = k; high = x }
widened (Some r) k x =
    record {
      low_cell = pick (ltb x r.low) k r.low_cell;
      low = pick (ltb x r.low) x r.low;
      high_cell = pick (ltb r.high x) k r.high_cell;
      high = pick (ltb r.high x) x r.high;
    }

-- What `extremes` promises.
pub record Spans (counts : List ℕ) (valid : ℕ) (r : Option Range) : Type 0 where
  pub range : r ≡ extremes_of counts valid

-- What the outmost of the first n cells is, number k with the count x: it is valid, no valid cell lies further out, and no valid cell of a lower
-- number has the same count.
pub record IsOutmost (up : Bool) (n : ℕ) (counts : List ℕ) (valid k x : ℕ) : Type 0 where
  pub from_one : 0 < k
  pub among : k ≤ n
  pub is_valid : is_set valid (k - 1) ≡ true
  pub count : x ≡ count_of_cell counts k
  pub none_further : (c : ℕ) → c < n → is_set valid c ≡ true → further up (get_or counts c 0) x ≡ false
  pub none_before : (c : ℕ) → c + 1 < k → is_set valid c ≡ true → get_or counts c 0 ≡ x → ⊥
