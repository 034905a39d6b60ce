-- The data groups of a write: how long they are, and one by one. Assumes nothing.
use mathlib.Core.Path.{◌≡◌, refl, sym, ap, ◌∙◌}
use mathlib.Core.List.{List, [], ◌∷◌, ◌++◌}
use Prim.Native.Nat.{ℕ, zero, suc, ◌+◌, ◌*◌, ◌-◌, ◌≤◌, ◌<◌, ◌/◌, ◌%◌}
use native.Mathlib.Omega.{arith}
use lib.ListN.{length, take, drop, length-append, length-take, length-drop}
use lib.Seq.{drop-append-le, take-append-le}
use borrow.Rule.Slice.PartMut.{put_mid}
use Rattle.lent.specs.Memory.{over}
use Rattle.lent.proofs.Over.{over_more, over_full, upto, length_upto, upto_more, rest}
use Rattle.pec.specs.Register.{pec_of}
use Rattle.pec.specs.Group.{two_bytes, with_pec}
use Rattle.pec.proofs.Group.{length_with_pec}
use Rattle.frames.specs.Places.{six}
use Rattle.frames.specs.Frame.{write_groups}

-- a word's bytes, as they are stored
pub high_first : (w : ℕ) (stored : List ℕ) → w < 65536 → stored ≡ w / 256 % 256 ∷ w % 256 ∷ [] → stored ≡ two_bytes w
unfolding two_bytes
high_first w stored h e = e ∙ ap (λ (x : ℕ). x ∷ w % 256 ∷ []) (omega arith)

-- six bytes and their word behind them are a data group
pub group_put : (d part copy word stored : List ℕ) → length d ≡ 6 → length part ≡ 8 → copy ≡ over d part → stored ≡ word → word ≡ two_bytes (pec_of d)
    → put_mid 6 (8 - 6) copy stored ≡ with_pec d
unfolding with_pec two_bytes
group_put d part copy word stored h k ec es ew =
    ap (λ (x : List ℕ). put_mid 6 (8 - 6) x stored) ec
    ∙ over_more d stored part 6 8 h (omega (arith, ap length (es ∙ ew))) (omega arith)
    ∙ over_full (d ++ stored) part (omega (arith, length-append d stored, ap length (es ∙ ew)))
    ∙ ap (λ (x : List ℕ). d ++ x) (es ∙ ew)

pub length_six : (k : ℕ) (bytes : List ℕ) → 6 * k + 6 ≤ length bytes → length (six k bytes) ≡ 6
unfolding six
length_six k bytes h = simp (length-take, length-drop) (omega arith)

pub length_write_groups : (k : ℕ) (bytes : List ℕ) → 6 * k ≤ length bytes → length (write_groups k bytes) ≡ 8 * k
unfolding write_groups
length_write_groups zero bytes h = refl
length_write_groups (suc k) bytes h =
    length-append (with_pec (six k bytes)) (write_groups k bytes)
    ∙ omega (arith, length_with_pec (six k bytes), length_six k bytes (omega arith), length_write_groups k bytes (omega arith))

-- one turn of the loop that lays them into a part: the group of device n - k, and then those of the devices below it
pub turn : (n k : ℕ) (bytes old part group : List ℕ) → k < n → length bytes ≡ 6 * n → 8 * n ≤ length old
    → part ≡ upto (8 * k) (write_groups n bytes) old → drop (8 * k) (write_groups n bytes) ≡ write_groups (n - k) bytes
    → group ≡ with_pec (take (6 * (n - 1 - k) + 6 - 6 * (n - 1 - k)) (drop (6 * (n - 1 - k)) bytes))
    → (length (put_mid (8 * k) (8 * k + 8 - 8 * k) part group) ≡ length old)
    × (put_mid (8 * k) (8 * k + 8 - 8 * k) part group ≡ upto (8 * (k + 1)) (write_groups n bytes) old)
    × (drop (8 * (k + 1)) (write_groups n bytes) ≡ write_groups (n - (k + 1)) bytes)
unfolding six write_groups
turn n k bytes old part group h bn on ep ed eg =
    let m = n - 1 - k in
    let all = write_groups n bytes in
    let long : length all ≡ 8 * n = length_write_groups n bytes (omega arith) in
    let size : 6 * m + 6 - 6 * m ≡ 6 = omega arith in
    let its_own : group ≡ with_pec (six m bytes) = eg ∙ ap (λ (x : ℕ). with_pec (take x (drop (6 * m) bytes))) size in
    let eight : length group ≡ 8 = ap length its_own ∙ omega (arith, length_with_pec (six m bytes), length_six m bytes (omega arith)) in
    let left : n - k ≡ suc m = omega arith in
    let next : drop (8 * k) all ≡ group ++ write_groups m bytes =
    ed ∙ ap (λ (x : ℕ). write_groups x bytes) left ∙ ap (λ (x : List ℕ). x ++ write_groups m bytes) (sym its_own) in
    let more : 8 * k + 8 ≡ 8 * (k + 1) = omega arith in
    let below : m ≡ n - (k + 1) = omega arith in
    let laid : put_mid (8 * k) (8 * k + 8 - 8 * k) part group ≡ upto (8 * k + 8) all old =
    ap (λ (x : List ℕ). put_mid (8 * k) (8 * k + 8 - 8 * k) x group) ep
    ∙ upto_more all old group (write_groups m bytes) (8 * k) (8 * k + 8) 8 eight refl (omega arith) (omega arith) next in (
      ap length laid ∙ length_upto all old (8 * k + 8) (omega arith) (omega arith),
      laid ∙ ap (λ (x : ℕ). upto x all old) more,
      ap (λ (x : ℕ). drop x all) (sym more) ∙ rest all group (write_groups m bytes) (8 * k) 8 eight next ∙ ap (λ (x : ℕ). write_groups x bytes) below,
    )

-- device k + 1's six bytes at the front of a longer list
pub six_front : (k : ℕ) (xs ys : List ℕ) → 6 * k + 6 ≤ length xs → six k (xs ++ ys) ≡ six k xs
unfolding six
six_front k xs ys h =
    rw (drop-append-le (6 * k) xs ys (omega arith)) (take-append-le 6 (drop (6 * k) xs) ys (omega (arith, length-drop (6 * k) xs)))
