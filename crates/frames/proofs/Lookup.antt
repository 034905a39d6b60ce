-- The law of the command table: a code is found with its kind and group, or is a conversion, or unknown; no code stands twice. A rule of the rows is one test that antt
-- computes over all of them, and it then holds of whatever is looked up. Assumes nothing.
use mathlib.Core.Path.{◌≡◌, refl, sym, ap, ◌∙◌}
use mathlib.Core.Bool.{Bool, true, false, not, ◌&&◌, ◌||◌, true≢false}
use mathlib.Core.List.{List, [], ◌∷◌}
use Prim.Native.Nat.{ℕ, suc, ◌+◌, ◌*◌, ◌≤◌, ◌<◌}
use native.Mathlib.Omega.{arith}
use borrow.Author.Tests.{eqb-true, eqb-false, ltb-true, leb-true, eq-eqb, ne_eqb, lt-ltb, le-ltb, le-leb}
use lib.Dec.{eqb, ltb, leb}
use lib.ListN.{length, get_or}
use Rattle.lent.specs.Refusal.{pick}
use Rattle.lent.proofs.Tests.{and_left, and_right, below, each_below}
use Rattle.conversions.specs.Conversions.{is_conversion}
use Rattle.frames.specs.Commands.{Row, row, rows, unlisted, found, kind_of, group_of}
use Rattle.conversions.proofs.ConversionLaws.{conversion_between}

-- the row at a place, and past the table's end an empty one
abbrev pub row_at : ℕ → Row
row_at i = get_or rows i (row 0 0 0)

-- THE LAW: a test that passes at an unlisted code and at every row passes at what is found
abbrev pub every : (Row → Bool) → List Row → Bool
every f [] = true
every f (r ∷ rs) = f r && every f rs

by_test : (f : Row → Bool) (r r' : Row) (b : Bool) → f r ≡ true → f r' ≡ true → f (pick b r r') ≡ true
unfolding pick
by_test f r r' true p q = p
by_test f r r' false p q = q

found_in : (f : Row → Bool) (code : ℕ) (rs : List Row) → f (unlisted code) ≡ true → every f rs ≡ true → f (found code rs) ≡ true
unfolding found
found_in f code [] z t = z
found_in f code (r ∷ rs) z t =
    by_test f r (found code rs) (eqb r.code code) (and_left (f r) (every f rs) t) (found_in f code rs z (and_right (f r) (every f rs) t))

pub looked_up : (f : Row → Bool) (code : ℕ) → f (row code 0 0) ≡ true → f (row code 4 0) ≡ true → every f rows ≡ true → f (found code rows) ≡ true
unfolding unlisted
looked_up f code z c t = found_in f code rows (by_kind (is_conversion code)) t
  where
    by_kind : (b : Bool) → f (row code (pick b 4 0) 0) ≡ true
    by_kind true = unfold pick in c
    by_kind false = unfold pick in z

-- what is found has the code that was asked for
own_code : (r r' : Row) (code : ℕ) (b : Bool) → eqb r.code code ≡ b → r'.code ≡ code → (pick b r r').code ≡ code
unfolding pick
own_code r r' code true e q = eqb-true r.code code e
own_code r r' code false e q = q

pub found_code : (code : ℕ) (rs : List Row) → (found code rs).code ≡ code
unfolding found
found_code code [] = unfold unlisted in refl
found_code code (r ∷ rs) = own_code r (found code rs) code (eqb r.code code) refl (found_code code rs)

-- a kind is 0 to 4, a group one of the eighteen
pub kind_below : (code : ℕ) → kind_of code < 5
unfolding kind_of rows
kind_below code = ltb-true (found code rows).kind 5 (looked_up (λ (r : Row). ltb r.kind 5) code refl refl refl)

pub group_below : (code : ℕ) → group_of code < 18
unfolding group_of rows
group_below code = ltb-true (found code rows).group 18 (looked_up (λ (r : Row). ltb r.group 18) code refl refl refl)

-- a known code is one of eleven bits; so a first byte with any of its top five bits set is unknown
narrow : Row → Bool
narrow r = eqb r.kind 0 || ltb r.code 2048

narrow_unlisted : (code : ℕ) → narrow (unlisted code) ≡ true
unfolding narrow unlisted
narrow_unlisted code = by_kind (is_conversion code) refl
  where
    by_kind : (b : Bool) → is_conversion code ≡ b → (eqb (pick b 4 0) 0 || ltb code 2048) ≡ true
    by_kind true e = unfold pick in lt-ltb code 2048 (omega (arith, (conversion_between code e).1))
    by_kind false e = unfold pick in refl

pub known_below : (code : ℕ) → (kind_of code ≡ 0 → ⊥) → code < 2048
unfolding kind_of narrow rows
known_below code known =
    let t : (eqb (kind_of code) 0 || ltb (found code rows).code 2048) ≡ true = found_in narrow code rows (narrow_unlisted code) refl in
    ltb-true code 2048 (ap (λ (x : ℕ). ltb x 2048) (sym (found_code code rows)) ∙ rw (ne_eqb (kind_of code) 0 known) at t)

pub top_bits_unknown : (high low : ℕ) → 8 ≤ high → kind_of (high * 256 + low) ≡ 0
top_bits_unknown high low h = go (eqb (kind_of (high * 256 + low)) 0) refl
  where
    go : (b : Bool) → eqb (kind_of (high * 256 + low)) 0 ≡ b → kind_of (high * 256 + low) ≡ 0
    go true e = eqb-true (kind_of (high * 256 + low)) 0 e
    go false e = absurd (omega (arith, known_below (high * 256 + low) (eqb-false (kind_of (high * 256 + low)) 0 e)))

-- kind 4 is given to the codes of conversions alone
converts : Row → Bool
converts r = not (eqb r.kind 4) || is_conversion r.code

converts_unlisted : (code : ℕ) → converts (unlisted code) ≡ true
unfolding converts unlisted pick
converts_unlisted code = by_kind (is_conversion code) refl
  where
    by_kind : (b : Bool) → is_conversion code ≡ b → (not (eqb (pick b 4 0) 4) || is_conversion code) ≡ true
    by_kind true e = e
    by_kind false e = refl

pub only_conversions : (code : ℕ) → kind_of code ≡ 4 → is_conversion code ≡ true
unfolding kind_of converts rows
only_conversions code e =
    let t : (not (eqb (kind_of code) 4) || is_conversion (found code rows).code) ≡ true = found_in converts code rows (converts_unlisted code) refl in
    ap is_conversion (sym (found_code code rows)) ∙ rw e at t

-- each of the 26 rows is found by its code
found_row : ℕ → Bool
found_row i = eqb (kind_of (row_at i).code) (row_at i).kind && eqb (group_of (row_at i).code) (row_at i).group

pub row_found : (i : ℕ) → i < 26 → (kind_of (row_at i).code ≡ (row_at i).kind) × (group_of (row_at i).code ≡ (row_at i).group)
unfolding found_row kind_of group_of found rows pick
row_found i h =
    let t = each_below found_row 26 refl i h in (
      eqb-true (kind_of (row_at i).code) (row_at i).kind (and_left (eqb (kind_of (row_at i).code) (row_at i).kind) (eqb (group_of (row_at i).code) (row_at i).group) t),
      eqb-true (group_of (row_at i).code) (row_at i).group (and_right (eqb (kind_of (row_at i).code) (row_at i).kind) (eqb (group_of (row_at i).code) (row_at i).group) t),
    )

-- a code that none of the 26 rows has is a conversion or unknown
absent : (code : ℕ) (rs : List Row) → ((i : ℕ) → i < length rs → (get_or rs i (row 0 0 0)).code ≡ code → ⊥) → found code rs ≡ unlisted code
unfolding found pick
absent code [] none = refl
absent code (r ∷ rs) none = rw (ne_eqb r.code code (none 0 (omega arith)), absent code rs (λ i h. none (suc i) (omega (arith, h))))

pub no_row : (code : ℕ) → ((i : ℕ) → i < 26 → (row_at i).code ≡ code → ⊥) → kind_of code ≡ pick (is_conversion code) 4 0
unfolding kind_of rows unlisted
no_row code none = ap (λ (r : Row). r.kind) (absent code rows none)

-- conversions have codes from 0x200 to 0x6FF, and there the table has none
apart : ℕ → Bool
apart i = ltb (row_at i).code 0x200 || leb 0x700 (row_at i).code

abbrev pub between : ℕ → Bool
between code = leb 0x200 code && ltb code 0x700

pub not_listed : (code : ℕ) → between code ≡ true → found code rows ≡ unlisted code
unfolding apart rows
not_listed code t = absent code rows (λ i k e. clash (row_at i).code e (each_below apart 26 refl i k))
  where
    clash : (c : ℕ) → c ≡ code → (ltb c 0x200 || leb 0x700 c) ≡ true → ⊥
    clash c e a =
        let l = leb-true 0x200 code (and_left (leb 0x200 code) (ltb code 0x700) t) in
        let big : leb 0x700 code ≡ true = rw (e, le-ltb code 0x200 l) at a in
        omega (arith, leb-true 0x700 code big, ltb-true code 0x700 (and_right (leb 0x200 code) (ltb code 0x700) t))

pub no_conversion : (code : ℕ) → between code ≡ false → unlisted code ≡ row code 0 0
unfolding unlisted pick
no_conversion code f = by_test (is_conversion code) refl
  where
    by_test : (b : Bool) → is_conversion code ≡ b → row code (pick b 4 0) 0 ≡ row code 0 0
    by_test true e =
        let c = conversion_between code e in
        let t : between code ≡ true = simp (le-leb 0x200 code c.0, lt-ltb code 0x700 c.1) in
        absurd (true≢false (sym t ∙ f))
    by_test false e = refl

-- no code stands twice
same_row : ℕ → ℕ → Bool
same_row i j = not (eqb (row_at i).code (row_at j).code) || eqb i j

pub no_code_twice : (i j : ℕ) → i < 26 → j < 26 → (row_at i).code ≡ (row_at j).code → i ≡ j
unfolding same_row rows
no_code_twice i j hi hj e =
    let t : same_row i j ≡ true = each_below (same_row i) 26 (each_below (λ (k : ℕ). below 26 (same_row k)) 26 refl i hi) j hj in
    eqb-true i j (rw (eq-eqb (row_at i).code (row_at j).code e) at t)
