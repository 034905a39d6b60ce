-- A digit is one byte of text; and how what is printed grows, of bytes byte by byte, and of a number place by place. Assumes nothing.
use mathlib.Core.Path.{◌≡◌, refl, sym, ap, ◌∙◌}
use mathlib.Core.Bool.{Bool, true, false, ◌&&◌}
use Prim.Native.Nat.{ℕ, ◌<◌, ◌≤◌, ◌%◌, ◌/◌, ◌+◌, ◌-◌, ◌*◌, ◌^◌}
use native.Mathlib.Omega.{arith}
use native.Mathlib.Nat.{not-suc-le-zero}
use borrow.Author.Tests.{ltb-true}
use Rattle.std.specs.Prelude.{suc, List, [], ◌∷◌, ◌++◌, length, ltb, eqb, leb, get_or, take, flat_map}
use Rattle.std.specs.Char.{encode_utf8}
use Rattle.std.proofs.lemmas.Str.{encode_ascii}
use Rattle.std.proofs.lemmas.Bool.{ne_eqb, eq-eqb, le-leb, lt-leb}
use Rattle.std.proofs.lemmas.List.{append_assoc, append-nil, take_all, take_more, flat_map_more}
use Rattle.lent.specs.Refusal.{pick}
use Rattle.lent.proofs.Tests.{each_below}
use Rattle.say.specs.Digits.{digits}
use Rattle.say.specs.Text.{digit_text, byte_text, bytes_text, place_text, low_text, hex_text}

is_ascii : ℕ → Bool
is_ascii v = ltb (get_or digits v 0) 128

below : (v : ℕ) → v < 16 → get_or digits v 0 < 128
unfolding is_ascii digits
below v h = ltb-true (get_or digits v 0) 128 (each_below is_ascii 16 refl v h)

-- one digit, as a character
one_byte : (value d : ℕ) → d ≡ get_or digits (value % 16) 0 → encode_utf8 d ≡ digit_text value
unfolding digit_text
one_byte value d e = rw e (encode_ascii (get_or digits (value % 16) 0) (below (value % 16) (omega arith)))

pub dash : (bytes : List ℕ) → length bytes ≡ 0 → 0x2D ∷ [] ≡ bytes_text bytes
unfolding bytes_text
dash [] e = refl
dash (byte ∷ bytes) e = cc

pub byte_grows : (bytes : List ℕ) (i : ℕ) → i < length bytes → (high low : ℕ) → high ≡ get_or digits (get_or bytes i 0 / 16 % 16) 0 → low ≡ get_or digits (get_or bytes i 0 % 16) 0
    → flat_map byte_text (take i bytes) ++ (encode_utf8 high ++ encode_utf8 low) ≡ flat_map byte_text (take (i + 1) bytes)
unfolding byte_text
byte_grows bytes i h high low e f =
    let byte = get_or bytes i 0 in
    rw (one_byte (byte / 16) high e, one_byte byte low f) (flat_map_more byte_text [] (take i bytes) byte ∙ ap (flat_map byte_text) (sym (take_more bytes i 0 h)))

pub all_bytes : (bytes : List ℕ) (i : ℕ) → 0 < length bytes → length bytes ≤ i → flat_map byte_text (take i bytes) ≡ bytes_text bytes
unfolding bytes_text
all_bytes [] i h l = absurd (not-suc-le-zero h)
all_bytes (byte ∷ bytes) i h l = ap (flat_map byte_text) (take_all i (byte ∷ bytes) l)

and_no : (a b : Bool) → b ≡ false → (a && b) ≡ false
and_no true b e = e
and_no false b e = refl

-- the place that is due
module _ (number width k : ℕ) (due : 0 < k) where
  abbrev rest : ℕ
  rest = number / 2 ^ (4 * (k - 1))

  shown : (d : ℕ) → d ≡ get_or digits (rest % 16 % 16) 0 → (eqb rest 0 && leb width (k - 1)) ≡ false → encode_utf8 d ≡ place_text number width (k - 1)
  unfolding place_text pick
  shown d e t = let twice : rest % 16 % 16 ≡ rest % 16 = omega arith in rw t (one_byte rest d (rw (← twice) e))

  pub shown_by_digit : (d : ℕ) → d ≡ get_or digits (rest % 16 % 16) 0 → (rest ≡ 0 → ⊥) → encode_utf8 d ≡ place_text number width (k - 1)
  shown_by_digit d e h = shown d e (rw (ne_eqb rest 0 h) refl)

  pub shown_by_width : (d : ℕ) → d ≡ get_or digits (rest % 16 % 16) 0 → k - 1 < width → encode_utf8 d ≡ place_text number width (k - 1)
  shown_by_width d e h = shown d e (and_no (eqb rest 0) (leb width (k - 1)) (lt-leb width (k - 1) h))

  not_shown : rest ≡ 0 → width ≤ k - 1 → [] ≡ place_text number width (k - 1)
  unfolding place_text pick
  not_shown e h = rw (eq-eqb rest 0 e, le-leb width (k - 1) h) refl

  pub place_grows : (done piece all : List ℕ) → piece ≡ place_text number width (k - 1) → done ++ low_text number width k ≡ all → (done ++ piece) ++ low_text number width (k - 1) ≡ all
  unfolding low_text
  place_grows done piece all e so_far =
      let next : k ≡ suc (k - 1) = omega arith in
      append_assoc done piece (low_text number width (k - 1)) ∙ ap (λ (text : List ℕ). done ++ (text ++ low_text number width (k - 1))) e ∙ ap (λ (j : ℕ). done ++ low_text number width j) (sym next) ∙ so_far

  pub place_skipped : (done all : List ℕ) → rest ≡ 0 → width ≤ k - 1 → done ++ low_text number width k ≡ all → done ++ low_text number width (k - 1) ≡ all
  place_skipped done all e h so_far =
      let same : (done ++ []) ++ low_text number width (k - 1) ≡ all = place_grows done [] all (not_shown e h) so_far in
      ap (λ (text : List ℕ). text ++ low_text number width (k - 1)) (sym (append-nil done)) ∙ same

pub all_shown : (number width k : ℕ) → k ≤ 0 → (done : List ℕ) → done ++ low_text number width k ≡ low_text number width 8 → done ≡ hex_text number width
unfolding hex_text low_text
all_shown number width k h done e =
    let none : k ≡ 0 = omega arith in
    sym (append-nil done) ∙ ap (λ (j : ℕ). done ++ low_text number width j) (sym none) ∙ e
